-- The program of a checked file.
pub mod Plan
pub mod Readings
