-- Lemmas, in the order in which they stand on each other.
pub mod Images
pub mod Objects
pub mod Told
pub mod Lists
pub mod Added
pub mod Telling
pub mod Ordered
pub mod Slices
pub mod Routes
pub mod Touched
pub mod Listed
pub mod Held
