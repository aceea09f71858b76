-- The files of definitions, in the order in which they stand on each other.
pub mod Reading
pub mod Judging
pub mod Sparing
pub mod Lines
pub mod EditValues
pub mod FormLines
pub mod Promise
pub mod Answers
