-- What is passed on of `machine_model`, so that the crates above need not list it.
pub use Rattle.config_node.specs.MachineModel.Events
pub use Rattle.config_node.specs.MachineModel.Moments
pub use Rattle.config_node.specs.MachineModel.Network
pub use Rattle.config_node.specs.MachineModel.Session
pub use Rattle.config_node.specs.MachineModel.Setup
pub use Rattle.config_node.specs.MachineModel.Steps
