-- Laws that the proofs of several functions use, and the theorems of the crate.
pub mod Additions
pub mod Others
pub mod ExpressionLevels
pub mod ByKind
pub mod NodeEffects
pub mod OwnViews
pub mod NodeReads
pub mod Worked
