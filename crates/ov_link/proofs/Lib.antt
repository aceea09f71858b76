-- Lemmas.
pub mod BreakLemmas
pub mod Ends
