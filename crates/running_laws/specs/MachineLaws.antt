-- What is passed on of `machine_laws`, so that the crates above need not list it.
pub use Rattle.machine_laws.specs.Headline
pub use Rattle.machine_laws.specs.Moments
pub use Rattle.machine_laws.specs.Refusing
pub use Rattle.machine_laws.specs.Running
pub use Rattle.machine_laws.specs.Setups
