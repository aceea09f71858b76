-- What is passed on of `machine_model`, so that the crates above need not list it.
pub use Rattle.machine_model.proofs.Apart
pub use Rattle.machine_model.proofs.Changing
pub use Rattle.machine_model.proofs.Distinct
pub use Rattle.machine_model.proofs.NetworkFact
pub use Rattle.machine_model.proofs.NodesFact
pub use Rattle.machine_model.proofs.SessionFact
pub use Rattle.machine_model.proofs.Twins
pub use Rattle.machine_model.proofs.Walk
