-- What is passed on of `chain_expand`, so that the crates above need not list it.
pub use Rattle.schedule_script.proofs.ChainExpand.ExpandsLaws
pub use Rattle.schedule_script.proofs.ChainExpand.OkLaws
