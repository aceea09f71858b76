-- What is passed on of `config_types`, so that the crates above need not list it.
pub use Rattle.config_model.specs.ConfigTypes.Config
pub use Rattle.config_model.specs.ConfigTypes.Edit
pub use Rattle.config_model.specs.ConfigTypes.Event
pub use Rattle.config_model.specs.ConfigTypes.Node
pub use Rattle.config_model.specs.ConfigTypes.Object
pub use Rattle.config_model.specs.ConfigTypes.ObjectKind
pub use Rattle.config_model.specs.ConfigTypes.Topology
