-- The list of a run: 02 (a).
pub mod Lists
pub mod Promises
