-- What is passed on of `node_model`, so that the crates above need not list it.
pub use Rattle.node_model.proofs.Directions
pub use Rattle.node_model.proofs.Members
pub use Rattle.node_model.proofs.Objects
pub use Rattle.node_model.proofs.Orders
pub use Rattle.node_model.proofs.Routes
pub use Rattle.node_model.proofs.Selection
pub use Rattle.node_model.proofs.Wanted
