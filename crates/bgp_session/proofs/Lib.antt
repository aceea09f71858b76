pub mod TableLemmas
pub mod InputLemmas
pub mod ReadingLemmas
