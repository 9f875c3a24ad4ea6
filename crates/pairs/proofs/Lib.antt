-- Laws that the proofs of several functions use.
pub mod Orders
pub mod Squares
pub mod Rows
pub mod Lacks
pub mod Numbers
pub mod Bounds
pub mod Fills
pub mod Sweeps
pub mod Pairs
