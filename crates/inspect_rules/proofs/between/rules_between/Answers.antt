use Rattle.std.proofs.Common.{◌≡◌, ◌&&◌, List, map, ap, ◌∙◌, subst, IfOk, Bor}
use Rattle.config_types.specs.declared.config.Policy.{Policy}
use Rattle.policy_rules.specs.Related.{attaches}
use Rattle.policy_rules.specs.declared.numbered.NumberedRule.{NumberedRule}
use Rattle.policy_regions.proofs.Kept.{all_few}
use Rattle.inspect_rules.proofs.Kept.{rules_by}
use Rattle.inspect_rules.proofs.between.rules_between.Goals as goal

pub rules_of-requires : goal.rules_of-requires
rules_of-requires c =
    all_few c.args.config.now (λ p. attaches c.args.from.now p && attaches c.args.to.now p) (map (λ p. p.now) c.deref.result.now) c.requires
    (ap (λ (ps : List (Bor Policy)). map (λ p. p.now) ps) c.deref.ensures.value ∙ c.in_ok-policies.ensures)

pub returns : goal.returns
returns c =
    subst (λ (rules : List NumberedRule). IfOk c.rules_of.result (λ v. v.items ≡ rules))
    (rules_by c.args.config.now c.args.from.now c.args.to.now (map (λ p. p.now) c.deref.result.now)
    (ap (λ (ps : List (Bor Policy)). map (λ p. p.now) ps) c.deref.ensures.value ∙ c.in_ok-policies.ensures))
    c.rules_of.ensures
