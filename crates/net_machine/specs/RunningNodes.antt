-- What is passed on of `running_nodes`, so that the crates above need not list it.
pub use Rattle.running_nodes.specs.Stands
