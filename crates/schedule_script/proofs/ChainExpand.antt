-- What is passed on of `chain_expand`, so that the crates above need not list it.
pub use Rattle.config_check.proofs.ChainExpand.ExpandsLaws
pub use Rattle.config_check.proofs.ChainExpand.OkLaws
