-- The files of definitions, in the order in which they stand on each other.
pub mod Asked
pub mod Entries
pub mod Memberships
pub mod Lying
pub mod Written
