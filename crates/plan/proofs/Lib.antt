-- Laws that the proofs of several functions use.
pub mod Watching
pub mod Scopes
pub mod Missing
pub mod Plans
pub mod Joining
