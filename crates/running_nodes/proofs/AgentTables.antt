-- What is passed on of `agent_tables`, so that the crates above need not list it.
pub use Rattle.agent_node.proofs.AgentTables.Objects
pub use Rattle.agent_node.proofs.AgentTables.Telling
