-- The files of definitions, in the order in which they stand on each other.
pub mod NodeCore
pub mod Marks
pub mod Wanted
pub mod Held
pub mod Entries
pub mod Marked
