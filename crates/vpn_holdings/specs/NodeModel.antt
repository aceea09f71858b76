-- What is passed on of `node_model`, so that the crates above need not list it.
pub use Rattle.path_select.specs.NodeModel.Directions
pub use Rattle.path_select.specs.NodeModel.Keys
pub use Rattle.path_select.specs.NodeModel.Maps
pub use Rattle.path_select.specs.NodeModel.Members
pub use Rattle.path_select.specs.NodeModel.Paths
pub use Rattle.path_select.specs.NodeModel.Reaching
pub use Rattle.path_select.specs.NodeModel.Tables
pub use Rattle.path_select.specs.NodeModel.Uses
pub use Rattle.path_select.specs.NodeModel.Values
pub use Rattle.path_select.specs.NodeModel.Wants
