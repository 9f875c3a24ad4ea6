-- What is printed.
pub mod Shown
