-- Lemmas, in the order in which they stand on each other.
pub mod Owning
pub mod Rooms
pub mod Steps
pub mod Ending
pub mod Returned
pub mod Parting
pub mod Listing
pub mod Naming
