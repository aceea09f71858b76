use Rattle.std.proofs.Common.{◌∙◌, Bor}
use Rattle.config_types.specs.contracts.config.PolicyPartialEq.TheImpl as policy_equality
use Rattle.config_types.specs.declared.config.Policy.{Policy}
use Rattle.inspect_changes.proofs.Zipped.{all_same}
use Rattle.inspect_changes.proofs.standing.are_same_policies.Goals as goal

pub returns-then-policies-others : goal.returns-then-policies-others
returns-then-policies-others c =
    c.are_alike.ensures
    ∙ all_same (λ (p : Bor Policy). p.now) policy_equality.ghosts.eq c.args.policies.now c.args.others.now c.if-policies-others.true
