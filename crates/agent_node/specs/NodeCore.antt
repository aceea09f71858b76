-- What is passed on of `node_core`, so that the crates above need not list it.
pub use Rattle.node_core.specs.Keeping
pub use Rattle.node_core.specs.Told
pub use Rattle.node_core.specs.Whole
