-- What is passed on of `node_model`, so that the crates above need not list it.
pub use Rattle.path_select.proofs.NodeModel.Alike
pub use Rattle.path_select.proofs.NodeModel.Directions
pub use Rattle.path_select.proofs.NodeModel.Members
pub use Rattle.path_select.proofs.NodeModel.Objects
pub use Rattle.path_select.proofs.NodeModel.Orders
pub use Rattle.path_select.proofs.NodeModel.Places
pub use Rattle.path_select.proofs.NodeModel.Routes
pub use Rattle.path_select.proofs.NodeModel.Unknown
pub use Rattle.path_select.proofs.NodeModel.Wanted
