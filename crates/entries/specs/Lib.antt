-- The script file: rows 6 to 8 of the table of refusals.
pub mod Faults
pub mod Promises
