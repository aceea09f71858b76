pub mod LineLemmas
pub mod Ways
pub mod Unfitting
pub mod NothingLeft
