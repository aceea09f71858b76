-- The files of definitions, in the order in which they stand on each other.
pub mod Needs
pub mod Cut
pub mod Covering
pub mod Needed
pub mod Asking
pub mod Sharing
