-- The script file: rows 4 to 10 of the table of refusals in their order, what loading a file gives, and what a file that is not refused guarantees.
pub mod Refusals
pub mod Results
pub mod Examples
pub mod Checked
