pub mod Lines
pub mod Outcomes
pub mod Spreads
pub mod Answers
pub mod Leaving
