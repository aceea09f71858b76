-- What is passed on of `machine_laws`, so that the crates above need not list it.
pub use Rattle.running_laws.proofs.MachineLaws.Written
