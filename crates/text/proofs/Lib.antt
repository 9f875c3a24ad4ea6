-- Laws that the proofs of the functions cite.
pub mod Lines
pub mod Digits
pub mod Filling
