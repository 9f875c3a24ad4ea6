-- Laws that the proofs of several functions use.
pub mod Entries
pub mod Resting
pub mod Turning
pub mod Places
pub mod Nexts
