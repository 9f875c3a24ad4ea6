-- The script file: row 9 of the table of refusals.
pub mod Uses
pub mod Promises
