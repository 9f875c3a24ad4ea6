-- How a node is run within an instant.
pub mod Promises
