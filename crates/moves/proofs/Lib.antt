-- Laws that the proofs of several functions use.
pub mod Framing
pub mod Advancing
pub mod OwnMoves
