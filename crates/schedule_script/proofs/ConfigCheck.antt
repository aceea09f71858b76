-- What is passed on of `config_check`, so that the crates above need not list it.
pub use Rattle.config_check.proofs.Circuits
pub use Rattle.config_check.proofs.EachRule
pub use Rattle.config_check.proofs.EditLaws
pub use Rattle.config_check.proofs.Iffs
pub use Rattle.config_check.proofs.Nested
pub use Rattle.config_check.proofs.OneHome
pub use Rattle.config_check.proofs.Straight
pub use Rattle.config_check.proofs.Validity
