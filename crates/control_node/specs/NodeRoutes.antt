-- What is passed on of `node_routes`, so that the crates above need not list it.
pub use Rattle.node_routes.specs.Beginning
pub use Rattle.node_routes.specs.First
pub use Rattle.node_routes.specs.Hearing
pub use Rattle.node_routes.specs.Keeping
pub use Rattle.node_routes.specs.Told
