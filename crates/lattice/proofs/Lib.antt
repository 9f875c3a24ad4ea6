-- Laws that the proofs of several functions use, and the theorems of the crate.
pub mod Passing
pub mod Tops
pub mod Theorems
pub mod Examples
