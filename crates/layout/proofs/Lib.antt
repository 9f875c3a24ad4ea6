-- Laws that the proofs of several crates use.
pub mod Layouts
pub mod Placing
