-- 01, 'Write level and test level' and row 11 of the table of refusals, of the nodes of a script file.
pub mod Needs
pub mod Flow
pub mod Results
pub mod Nodes
