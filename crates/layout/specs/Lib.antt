-- The script file: 01, 'Script file': where its entries stand, what rows 4 and 5 of the table of refusals ask,
-- and the places that rows 6 to 10 give.
pub mod Layout
pub mod Entries
pub mod Promises
pub mod Files
pub mod Places
