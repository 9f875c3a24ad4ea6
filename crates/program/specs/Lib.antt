-- A program: the kinds of its nodes, its words and what they mean, the forms that a node can come to, and what a run asks of
-- a program.
pub mod Rows
pub mod Program
pub mod Forms
pub mod Runnable
pub mod Examples
