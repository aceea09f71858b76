-- What is passed on of `node_routes`, so that the crates above need not list it.
pub use Rattle.node_routes.proofs.Cutting
pub use Rattle.node_routes.proofs.One
