pub mod Keys
pub mod LongestLemmas
pub mod Spans
pub mod Tries
