-- Laws that the proofs of several functions use.
pub mod Sizes
pub mod Shifts
pub mod Lowest
