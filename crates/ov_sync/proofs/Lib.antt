-- Lemmas, in the order in which they stand on each other.
pub mod Ascending
pub mod Walking
pub mod Turns
pub mod KeyedLaws
pub mod EmbedLaws
pub mod Firsts
pub mod ByKeys
