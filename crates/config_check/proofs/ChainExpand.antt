-- What is passed on of `chain_expand`, so that the crates above need not list it.
pub use Rattle.chain_expand.proofs.ExpandsLaws
pub use Rattle.chain_expand.proofs.OkLaws
