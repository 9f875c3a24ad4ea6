-- What check refuses, rows 1 to 11 of 01's table, and what it has found of the rest.
pub mod Refusals
pub mod Promises
