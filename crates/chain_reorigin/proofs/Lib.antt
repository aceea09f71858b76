-- Lemmas, in the order in which they stand on each other.
pub mod Telling
pub mod First
pub mod RightSide
