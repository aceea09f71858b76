-- What is passed on of `node_model`, so that the crates above need not list it.
pub use Rattle.node_core.specs.NodeModel.Agent
pub use Rattle.node_core.specs.NodeModel.Keys
pub use Rattle.node_core.specs.NodeModel.Maps
pub use Rattle.node_core.specs.NodeModel.Naming
pub use Rattle.node_core.specs.NodeModel.Paths
pub use Rattle.node_core.specs.NodeModel.Step
pub use Rattle.node_core.specs.NodeModel.Tables
pub use Rattle.node_core.specs.NodeModel.Values
pub use Rattle.node_core.specs.NodeModel.Wants
