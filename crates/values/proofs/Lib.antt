-- Laws that the proofs of several functions use.
pub mod Signed
pub mod Bits
pub mod Rounding
pub mod Nearest
