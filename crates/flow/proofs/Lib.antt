-- Laws that the proofs of several functions use, and the theorems of the crate.
pub mod BookLevels
pub mod ExpressionLevels
pub mod OwnViews
pub mod Least
pub mod FailingNodes
pub mod NodeFlows
pub mod NodeReads
pub mod Everywhere
pub mod Theorems
pub mod ByKind
