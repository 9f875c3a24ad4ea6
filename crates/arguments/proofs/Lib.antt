-- Laws that the proofs of the functions use, and what a call of run that is not refused has.
pub mod Writes
pub mod Passing
