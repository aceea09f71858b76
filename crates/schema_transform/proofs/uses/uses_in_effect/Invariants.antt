use Rattle.std.proofs.Common.{◌≡◌, drop}
use Rattle.std.specs.Prelude.{◌++◌, flat_map, map}
use Rattle.transform_model.specs.Uses.{uses_of}
use Rattle.schema_transform.specs.HeldUses.{use_of}
use Rattle.schema_transform.proofs.uses.uses_in_effect.Given as goal

abbrev pub invariant-loop-policy : goal.invariant-loop-policy
invariant-loop-policy l =
    map use_of l.uses.items ++ flat_map (uses_of l.config) (drop l.policy-index l.config.policies)
    ≡ flat_map (uses_of l.config) l.config.policies
