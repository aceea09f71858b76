-- What is passed on of `node_laws`, so that the crates above need not list it.
pub use Rattle.node_laws.proofs.Quiet
