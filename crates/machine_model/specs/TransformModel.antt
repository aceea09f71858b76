-- What is passed on of `transform_model`, so that the crates above need not list it.
pub use Rattle.transform_model.specs.IsObject
pub use Rattle.transform_model.specs.IsRow
pub use Rattle.transform_model.specs.IsUse
pub use Rattle.transform_model.specs.Objects
pub use Rattle.transform_model.specs.Uses
