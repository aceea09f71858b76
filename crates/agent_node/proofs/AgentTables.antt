-- What is passed on of `agent_tables`, so that the crates above need not list it.
pub use Rattle.agent_tables.proofs.Objects
pub use Rattle.agent_tables.proofs.Telling
