-- What is passed on of `node_routes`, so that the crates above need not list it.
pub use Rattle.control_node.specs.NodeRoutes.Beginning
pub use Rattle.control_node.specs.NodeRoutes.First
pub use Rattle.control_node.specs.NodeRoutes.Hearing
pub use Rattle.control_node.specs.NodeRoutes.Keeping
pub use Rattle.control_node.specs.NodeRoutes.Told
