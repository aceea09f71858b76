-- What is passed on of `node_model`, so that the crates above need not list it.
pub use Rattle.node_model.proofs.Alike
pub use Rattle.node_model.proofs.Images
pub use Rattle.node_model.proofs.Members
pub use Rattle.node_model.proofs.Orders
