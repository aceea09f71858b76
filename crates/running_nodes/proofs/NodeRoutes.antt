-- What is passed on of `node_routes`, so that the crates above need not list it.
pub use Rattle.control_node.proofs.NodeRoutes.Cutting
pub use Rattle.control_node.proofs.NodeRoutes.One
