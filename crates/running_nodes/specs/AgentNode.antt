-- What is passed on of `agent_node`, so that the crates above need not list it.
pub use Rattle.agent_node.specs.Beginning
pub use Rattle.agent_node.specs.Core
pub use Rattle.agent_node.specs.declared.plan.AgentPlan
