-- The files of definitions, in the order in which they stand on each other.
pub mod Schedules
pub mod RunAnswers
pub mod RunNetworks
pub mod Scenarios
pub mod Tallies
pub mod Agreed
pub mod Counts
pub mod Generating
pub mod ScenarioAnswers
pub mod Constraint
pub mod ConstraintAnswers
pub mod ConstraintNetworks
pub mod Answers
pub mod Networks
pub mod Commands
pub mod Runs
