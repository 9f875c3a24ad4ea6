-- What is left of a running script, by its bytes.
pub mod Residual
pub mod Nodes
