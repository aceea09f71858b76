-- The files of definitions, in the order in which they stand on each other.
pub mod Ways
pub mod Courses
pub mod Openings
pub mod Ends
pub mod Cells
pub mod Lines
pub mod Keeping
pub mod Interrupted
pub mod Steady
pub mod Kinds
pub mod Hands
