-- What is passed on of `node_model`, so that the crates above need not list it.
pub use Rattle.node_model.proofs.Alike
pub use Rattle.node_model.proofs.Heard
pub use Rattle.node_model.proofs.Local
pub use Rattle.node_model.proofs.Locality
pub use Rattle.node_model.proofs.Members
pub use Rattle.node_model.proofs.Objects
pub use Rattle.node_model.proofs.Orders
pub use Rattle.node_model.proofs.Places
pub use Rattle.node_model.proofs.Published
pub use Rattle.node_model.proofs.Routes
pub use Rattle.node_model.proofs.Selection
pub use Rattle.node_model.proofs.Spelled
pub use Rattle.node_model.proofs.Unknown
pub use Rattle.node_model.proofs.Wanted
