-- Laws that the proofs of several functions use, and the theorems of the crate.
pub mod Accepting
pub mod Theorems
pub mod Worked
