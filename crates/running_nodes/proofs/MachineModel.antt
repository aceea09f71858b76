-- What is passed on of `machine_model`, so that the crates above need not list it.
pub use Rattle.config_node.proofs.MachineModel.Apart
pub use Rattle.config_node.proofs.MachineModel.Changing
pub use Rattle.config_node.proofs.MachineModel.Distinct
pub use Rattle.config_node.proofs.MachineModel.NetworkFact
pub use Rattle.config_node.proofs.MachineModel.NodesFact
pub use Rattle.config_node.proofs.MachineModel.SessionFact
pub use Rattle.config_node.proofs.MachineModel.Twins
pub use Rattle.config_node.proofs.MachineModel.Walk
