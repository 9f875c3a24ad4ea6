-- The values of expressions, by the program.
pub mod Evaluation
