-- What is passed on of `machine_moment_laws`, so that the crates above need not list it.
pub use Rattle.machine_moment_laws.specs.AgainSchedules
pub use Rattle.machine_moment_laws.specs.Isolated
pub use Rattle.machine_moment_laws.specs.KeptSchedules
pub use Rattle.machine_moment_laws.specs.PermissionSchedules
pub use Rattle.machine_moment_laws.specs.RevocationSchedules
pub use Rattle.machine_moment_laws.specs.Runs
pub use Rattle.machine_moment_laws.specs.TiedCompiled
