-- Laws that the proofs of several functions use.
pub mod Clearing
pub mod Deciding
pub mod Changing
