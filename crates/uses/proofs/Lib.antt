-- Laws about what a field uses, which other crates use.
pub mod Used
pub mod Counting
