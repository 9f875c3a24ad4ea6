-- The report's relation as it stands there: names, configurations, Figures 1 to 4, execution paths; then what a run in
-- place has in common with it.
pub mod Names
pub mod Configurations
pub mod Moves
pub mod Instants
pub mod Paths
pub mod Scope
pub mod Results
pub mod Examples
