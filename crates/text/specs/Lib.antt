-- What lines of text mean, and the text of numbers.
pub mod Hex
pub mod Written
