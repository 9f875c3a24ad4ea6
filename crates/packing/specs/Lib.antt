-- The words of a program, as numbers.
pub mod Packing
