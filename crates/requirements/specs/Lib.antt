-- 02 (e), of script files: the sets of levels that the flows of a script make.
pub mod Flows
pub mod Nodes
pub mod Promises
pub mod Examples
