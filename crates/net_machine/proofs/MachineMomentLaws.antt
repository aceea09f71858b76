-- What is passed on of `machine_moment_laws`, so that the crates above need not list it.
pub use Rattle.machine_moment_laws.proofs.AgainPlaced
pub use Rattle.machine_moment_laws.proofs.AsCompiled
pub use Rattle.machine_moment_laws.proofs.KeptPlaced
pub use Rattle.machine_moment_laws.proofs.PermissionPlaced
pub use Rattle.machine_moment_laws.proofs.RevocationPlaced
pub use Rattle.machine_moment_laws.proofs.SchedulePlaced
pub use Rattle.machine_moment_laws.proofs.TiedMoments
pub use Rattle.machine_moment_laws.proofs.TiesKept
