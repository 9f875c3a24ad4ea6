-- Laws of what is left of a node.
pub mod Residuals
pub mod Sights
pub mod Staying
