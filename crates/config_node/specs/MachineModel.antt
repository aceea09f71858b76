-- What is passed on of `machine_model`, so that the crates above need not list it.
pub use Rattle.machine_model.specs.Events
pub use Rattle.machine_model.specs.Moments
pub use Rattle.machine_model.specs.Network
pub use Rattle.machine_model.specs.Session
pub use Rattle.machine_model.specs.Setup
pub use Rattle.machine_model.specs.Steps
