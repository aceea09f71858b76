-- What is passed on of `policy_rules`, so that the crates above need not list it.
pub use Rattle.policy_rules.proofs.Lists
pub use Rattle.policy_rules.proofs.Relations
pub use Rattle.policy_rules.proofs.Standing
