-- Lemmas, in the order in which they stand on each other.
pub mod Images
pub mod Changes
pub mod Posts
pub mod Applied
pub mod Begins
pub mod AtTheEnd
pub mod Led
pub mod AgentTables
