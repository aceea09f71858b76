-- What is passed on of `running_laws`, so that the crates above need not list it.
pub use Rattle.running_laws.proofs.HeardAtRest
pub use Rattle.running_laws.proofs.Moments
