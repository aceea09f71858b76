-- What is passed on of `control_wants`, so that the crates above need not list it.
pub use Rattle.control_node.proofs.ControlWants.Fitting
