-- Moves one after the other, with their lines, and what the functions that make them ask for and promise.
pub mod Moves
pub mod Promises
