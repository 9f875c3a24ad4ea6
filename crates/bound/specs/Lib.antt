-- How many moves a script can make: the figure of 02 (f), from the nodes of its file.
pub mod Bound
pub mod Promises
