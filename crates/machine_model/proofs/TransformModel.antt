-- What is passed on of `transform_model`, so that the crates above need not list it.
pub use Rattle.transform_model.proofs.Circuits
pub use Rattle.transform_model.proofs.InUse
pub use Rattle.transform_model.proofs.Lists
pub use Rattle.transform_model.proofs.LowKeys
pub use Rattle.transform_model.proofs.Prefixes
