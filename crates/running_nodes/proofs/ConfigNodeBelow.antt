-- What is passed on of `config_node`, so that the crates above need not list it.
pub use Rattle.config_node.proofs.Law
