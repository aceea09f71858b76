-- What is passed on of `config_types`, so that the crates above need not list it.
pub use Rattle.config_types.specs.Form
pub use Rattle.config_types.specs.declared.config.Action
pub use Rattle.config_types.specs.declared.config.Chain
pub use Rattle.config_types.specs.declared.config.Config
pub use Rattle.config_types.specs.declared.config.Direction
pub use Rattle.config_types.specs.declared.config.End
pub use Rattle.config_types.specs.declared.config.Network
pub use Rattle.config_types.specs.declared.config.Policy
pub use Rattle.config_types.specs.declared.config.Port
pub use Rattle.config_types.specs.declared.config.Rule
pub use Rattle.config_types.specs.declared.config.Service
pub use Rattle.config_types.specs.declared.topology.Node
pub use Rattle.config_types.specs.declared.topology.Topology
