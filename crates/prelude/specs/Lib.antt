-- Definitions that the specifications of every layer use.
pub mod Search
pub mod Table
pub mod Course
pub mod Numbers
pub mod Sets
pub mod Refusals
pub mod Promises
