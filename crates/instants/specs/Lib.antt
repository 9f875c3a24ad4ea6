-- Suspension, and instant changes.
pub mod Promises
