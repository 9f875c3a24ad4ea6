-- Laws that the proofs of several functions use, and other crates.
pub mod Joining
pub mod Reaching
pub mod Sets
pub mod Finding
pub mod ReachTables
pub mod Refusing
