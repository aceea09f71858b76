use Rattle.std.proofs.Common.{◌≡◌, drop}
use Rattle.std.specs.List.{filter_map}
use Rattle.std.specs.Prelude.{◌++◌, map}
use Rattle.transform_model.specs.Uses.{use_by}
use Rattle.schema_transform.specs.HeldUses.{use_of}
use Rattle.schema_transform.proofs.uses.push_uses.Given as goal

abbrev pub invariant-loop-rule : goal.invariant-loop-rule
invariant-loop-rule l =
    map use_of l.uses.items ++ filter_map (λ r. use_by l.config l.policy r r.action) (drop l.rule-index l.rule-items)
    ≡ map use_of l.fn.uses.items ++ filter_map (λ r. use_by l.config l.policy r r.action) l.policy.rules
