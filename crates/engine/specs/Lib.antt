-- The calls: 01, 'Calls', and 02 (e). What they refuse is in `checker` and `arguments`, what is proved of them in `theorems`.
pub mod Answers
pub mod Promises
pub mod Interface
