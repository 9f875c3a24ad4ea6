-- Laws that the proofs of the functions use.
pub mod Leaving
pub mod Asking
pub mod Starting
pub mod Passing
