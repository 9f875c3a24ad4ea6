-- Laws that the proofs of several functions use.
pub mod Fronts
pub mod Views
pub mod Worked
