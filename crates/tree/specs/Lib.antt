-- The tree that a script file holds, and what is proved of a checked file's.
pub mod Tree
pub mod Promises
pub mod Results
pub mod Examples
