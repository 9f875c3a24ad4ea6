-- The theorems about the calls.
pub mod Records
pub mod Theorems
pub mod Flows
pub mod Moves
pub mod Worked
