-- What is passed on of `transform_model`, so that the crates above need not list it.
pub use Rattle.transform_model.specs.Compiled
pub use Rattle.transform_model.specs.Objects
pub use Rattle.transform_model.specs.Tables
