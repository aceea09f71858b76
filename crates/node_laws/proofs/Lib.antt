-- Lemmas, in the order in which they stand on each other.
pub mod StepFact
pub mod AtTheEnd
pub mod Receiving
pub mod Shown
pub mod Worked
pub mod Counting
pub mod Published
pub mod Leading
pub mod Quiet
pub mod NodeModel
