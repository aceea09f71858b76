-- What is passed on of `control_node`, so that the crates above need not list it.
pub use Rattle.control_node.specs.Agents
pub use Rattle.control_node.specs.Beginning
pub use Rattle.control_node.specs.Core
pub use Rattle.control_node.specs.Wanting
pub use Rattle.control_node.specs.declared.cause.NodeCause
pub use Rattle.control_node.specs.declared.plan.ControlPlan
