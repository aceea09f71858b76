-- The files of definitions, in the order in which they stand on each other.
pub mod Marks
pub mod Events
pub mod Routes
pub mod Periods
pub mod Keeping
pub mod Returning
