-- What is passed on of `node_model`, so that the crates above need not list it.
pub use Rattle.node_model.specs.Agent
pub use Rattle.node_model.specs.Codes
pub use Rattle.node_model.specs.Directions
pub use Rattle.node_model.specs.Keys
pub use Rattle.node_model.specs.Maps
pub use Rattle.node_model.specs.Members
pub use Rattle.node_model.specs.Paths
pub use Rattle.node_model.specs.Ranks
pub use Rattle.node_model.specs.Reaching
pub use Rattle.node_model.specs.Tables
pub use Rattle.node_model.specs.Uses
pub use Rattle.node_model.specs.Values
pub use Rattle.node_model.specs.Wants
