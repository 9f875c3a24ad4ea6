-- What the program reads from its files.
pub mod Values
