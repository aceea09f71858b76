-- What is passed on of `reach_plain`, so that the crates above need not list it.
pub use Rattle.reach_plain.specs.Reachability
