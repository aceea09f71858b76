-- What is passed on of `node_core`, so that the crates above need not list it.
pub use Rattle.node_core.specs.Told
