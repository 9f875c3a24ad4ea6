-- The lattice that a level book gives.
pub mod Refusals
pub mod Lattice
pub mod Examples
