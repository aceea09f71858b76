-- What is passed on of `ov_types`, so that the crates above need not list it.
pub use Rattle.ov_types.specs.Prefix
pub use Rattle.ov_types.specs.declared.numbers.InstanceId
pub use Rattle.ov_types.specs.declared.numbers.Label
pub use Rattle.ov_types.specs.declared.prefix.Addr
