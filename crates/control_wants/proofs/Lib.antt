-- Lemmas, in the order in which they stand on each other.
pub mod Moved
pub mod Images
pub mod OneByOne
pub mod Sets
pub mod Growing
pub mod Only
pub mod Marking
pub mod Telling
pub mod Sending
pub mod Counting
pub mod Wanting
pub mod Fitting
pub mod OneKey
pub mod RowsMarked
