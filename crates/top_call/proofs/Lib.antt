-- Lemmas, in the order in which they stand on each other.
pub mod Scheduled
pub mod Ending
pub mod Sameness
pub mod Counting
pub mod Agreeing
pub mod Tracing
pub mod Counted
pub mod ScenarioEnding
pub mod Summed
pub mod Quiet
pub mod Askings
pub mod ConstraintEnding
pub mod SomeText
pub mod Numbers
pub mod Left
