-- Laws that the proofs of several functions use.
pub mod Outcomes
pub mod Idling
pub mod Waiting
pub mod Entering
pub mod Whole
pub mod Theorems
