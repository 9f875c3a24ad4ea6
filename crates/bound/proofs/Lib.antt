-- Laws that the proofs of the functions use.
pub mod Counts
