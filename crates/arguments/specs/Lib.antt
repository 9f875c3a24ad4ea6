-- What run asks besides a book and a script: rows 12 to 14 of 01's table of refusals, and row 15.
pub mod Refusals
pub mod Promises
