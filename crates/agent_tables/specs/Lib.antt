-- The files of definitions, in the order in which they stand on each other.
pub mod Objects
pub mod Views
pub mod Slice
pub mod Kept
pub mod Routes
pub mod Touched
pub mod Sliced
pub mod Listed
