-- Laws about right names and parts, which other crates use.
pub mod Holding
pub mod Naming
pub mod Sounding
