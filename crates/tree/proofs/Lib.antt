-- Laws that the proofs of several functions and other crates use, and the theorems of the crate.
pub mod Views
pub mod ExpressionKinds
pub mod Scoping
pub mod Declaring
pub mod NodeKinds
pub mod Shapes
pub mod NodeChildren
pub mod NodeCounts
pub mod NodeSizes
pub mod Theorems
pub mod Worked
