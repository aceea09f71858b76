-- What is passed on of `machine_laws`, so that the crates above need not list it.
pub use Rattle.machine_laws.proofs.Configured
pub use Rattle.machine_laws.proofs.EachFact
pub use Rattle.machine_laws.proofs.KindNames
pub use Rattle.machine_laws.proofs.Refused
pub use Rattle.machine_laws.proofs.Written
