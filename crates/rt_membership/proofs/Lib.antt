-- Lemmas, in the order in which they stand on each other.
pub mod Lying
pub mod EntryLemmas
pub mod Grammar
pub mod ValueLemmas
pub mod Forms
pub mod Reading
pub mod Writing
pub mod Spelled
