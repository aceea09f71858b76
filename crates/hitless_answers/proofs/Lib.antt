-- Lemmas, in the order in which they stand on each other.
pub mod Standing
pub mod Telling
pub mod NoFloats
pub mod EditsBack
pub mod Spared
pub mod Said
