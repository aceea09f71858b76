-- What is passed on of `policy_rules`, so that the crates above need not list it.
pub use Rattle.policy_rules.specs.Matching
pub use Rattle.policy_rules.specs.Related
pub use Rattle.policy_rules.specs.Standing
pub use Rattle.policy_rules.specs.Taking
pub use Rattle.policy_rules.specs.declared.matching.Match
pub use Rattle.policy_rules.specs.declared.numbered.NumberedRule
