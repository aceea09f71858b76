use Rattle.policy_rules.proofs.Sequences.{follow, stable}
use Rattle.policy_rules.proofs.laws.policies_stand_by_sequence.Goals as goal

pub returns : goal.returns
returns c = record { order = follow; document = stable }
