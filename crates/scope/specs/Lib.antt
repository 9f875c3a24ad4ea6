-- The script file: row 10 of the table of refusals, and what refusals 6 to 9 leave, which it asks.
pub mod Reach
pub mod Promises
pub mod Joined
