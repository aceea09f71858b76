-- What is passed on of `control_node`, so that the crates above need not list it.
pub use Rattle.control_node.proofs.Placed
pub use Rattle.control_node.proofs.Retired
