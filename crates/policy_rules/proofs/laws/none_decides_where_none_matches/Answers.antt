use Rattle.policy_rules.proofs.Taking.{undecided_iff, no_decision_iff}
use Rattle.policy_rules.proofs.laws.none_decides_where_none_matches.Goals as goal

pub returns : goal.returns
returns c = record { rule = undecided_iff; decision = no_decision_iff }
