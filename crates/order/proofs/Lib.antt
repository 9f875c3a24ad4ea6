-- Laws that the proofs of several functions use, and what a book in order is.
pub mod Faultless
pub mod Loads
pub mod Duals
