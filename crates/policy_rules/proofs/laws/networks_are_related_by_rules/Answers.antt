use Rattle.policy_rules.proofs.Relations.{related_iff}
use Rattle.policy_rules.proofs.laws.networks_are_related_by_rules.Goals as goal

pub returns : goal.returns
returns c = related_iff
