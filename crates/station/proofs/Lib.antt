-- Laws that the proof of `read_values` uses.
pub mod Pieces
