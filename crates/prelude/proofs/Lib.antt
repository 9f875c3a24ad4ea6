-- Laws that the proofs of every layer use.
pub mod Bools
pub mod Searches
pub mod Counts
pub mod Tables
pub mod Sets
pub mod Courses
pub mod Each
pub mod Totals
pub mod Refusing
pub mod Found
pub mod Outcomes
