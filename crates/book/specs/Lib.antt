-- The level book: what its bytes say.
pub mod LevelBook
pub mod Load
