-- What is passed on of `running_laws`, so that the crates above need not list it.
pub use Rattle.running_laws.specs.Moments
pub use Rattle.running_laws.specs.Peering
