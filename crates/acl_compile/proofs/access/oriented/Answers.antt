use Rattle.std.proofs.Common.{◌&&◌, List, map, ap, ◌∙◌, Bor}
use Rattle.config_types.specs.declared.config.Policy.{Policy}
use Rattle.policy_rules.specs.Related.{attaches}
use Rattle.acl_compile.proofs.Kept.{all_bounded}
use Rattle.acl_compile.proofs.Listed.{oriented_by}
use Rattle.acl_compile.proofs.access.oriented.Goals as goal

pub entries_of-requires-clause-few : goal.entries_of-requires-clause-few
entries_of-requires-clause-few c =
    all_bounded c.args.config.now (λ p. attaches c.args.from.now p && attaches c.args.to.now p) (map (λ p. p.now) c.deref.result.now) c.requires
    (ap (λ (ps : List (Bor Policy)). map (λ p. p.now) ps) c.deref.ensures.value ∙ c.in_ok-policies.ensures)

pub returns : goal.returns
returns c =
    c.from_vec.ensures ∙ c.in_ok-entries.ensures
    ∙ oriented_by c.args.config.now c.args.from.now c.args.to.now (map (λ p. p.now) c.deref.result.now)
    (ap (λ (ps : List (Bor Policy)). map (λ p. p.now) ps) c.deref.ensures.value ∙ c.in_ok-policies.ensures)
