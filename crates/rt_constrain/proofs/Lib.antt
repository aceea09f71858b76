-- Lemmas, in the order in which they stand on each other.
pub mod Restricted
pub mod Numbered
pub mod Same
pub mod Ordered
pub mod Covered
pub mod Listed
pub mod Asks
pub mod Passing
pub mod Counted
