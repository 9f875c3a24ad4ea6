-- Laws that the proofs of the functions use, and what a check that refuses nothing shows.
pub mod Rows
pub mod Passing
pub mod Preparing
