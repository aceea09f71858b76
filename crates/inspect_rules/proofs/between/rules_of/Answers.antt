use Rattle.std.proofs.Common.{◌≡◌, ◌+◌, ◌++◌, ◌||◌, ◌∷◌, List, drop, filter, flat_map, map, ap, sym, ◌∙◌, Bor}
use Rattle.std.proofs.lemmas.List.{append_assoc}
use Rattle.ov_types.proofs.FirstLemmas.{next_is}
use Rattle.config_types.specs.declared.config.Policy.{Policy}
use Rattle.policy_rules.specs.Related.{fits, numbered_rules}
use Rattle.policy_rules.specs.declared.numbered.NumberedRule.{NumberedRule}
use Rattle.policy_regions.proofs.Kept.{few_at}
use Rattle.inspect_rules.proofs.between.rules_of.Goals as goal

pub push_policy-requires : goal.push_policy-requires
push_policy-requires c =
    few_at c.args.policies.now c.loop-policy.policy-index c.policy-item.result c.requires c.loop-policy-test.true c.policy-item.is

pub loop-policy-preserved : goal.loop-policy-preserved
loop-policy-preserved c =
    let a = c.args.from.now in
    let b = c.args.to.now in
    let i = c.loop-policy.policy-index in
    let ps : List (Bor Policy) = c.args.policies.now in
    let p : Bor Policy = c.policy-item.result in
    let spoken : Policy → List NumberedRule = λ p. filter (λ (r : NumberedRule). fits r.rule a b || fits r.rule b a) (numbered_rules p) in
    let rest : List NumberedRule = flat_map spoken (map (λ (p : Bor Policy). p.now) (drop (i + 1) ps)) in
    let left : drop i ps ≡ p ∷ drop (i + 1) ps = next_is ps i p c.loop-policy-test.true c.policy-item.is in
    ap (λ (rules : List NumberedRule). rules ++ rest) c.in_ok-push_policy.ensures
    ∙ append_assoc c.loop-policy.rules.items (spoken p.now) rest
    ∙ ap (λ (l : List (Bor Policy)). c.loop-policy.rules.items ++ flat_map spoken (map (λ (p : Bor Policy). p.now) l)) (sym left)
    ∙ c.loop-policy.invariant
