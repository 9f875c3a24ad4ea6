-- Laws of renaming and of what a step does to names; then that each step of the report is the step in place.
pub mod Renames
pub mod Clean
pub mod Memory
pub mod Waiting
pub mod Matching
pub mod Steps
pub mod Progress
pub mod Starts
pub mod PathMoves
pub mod Theorems
pub mod Worked
