-- The pairs of levels: what is kept for each, and refusal 3.
pub mod Refusals
pub mod Sweeping
pub mod Table
pub mod Promises
