-- What is passed on of `config_types`, so that the crates above need not list it.
pub use Rattle.config_types.specs.declared.config.Config
pub use Rattle.config_types.specs.declared.edit.Edit
pub use Rattle.config_types.specs.declared.edit.Object
pub use Rattle.config_types.specs.declared.edit.ObjectKind
pub use Rattle.config_types.specs.declared.event.Event
pub use Rattle.config_types.specs.declared.topology.Node
pub use Rattle.config_types.specs.declared.topology.Topology
