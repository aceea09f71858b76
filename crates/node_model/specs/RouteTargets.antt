-- What is passed on of `route_targets`, so that the crates above need not list it.
pub use Rattle.route_targets.specs.Forwarding
pub use Rattle.route_targets.specs.Numbers
