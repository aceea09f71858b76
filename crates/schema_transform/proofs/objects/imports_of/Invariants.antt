use Rattle.std.proofs.Common.{◌≡◌, drop}
use Rattle.std.specs.Prelude.{[], filter, map}
use Rattle.policy_rules.specs.Related.{imports}
use Rattle.transform_model.specs.Objects.{with_instances}
use Rattle.schema_transform.proofs.objects.imports_of.Given as goal

abbrev pub invariant-loop-other : goal.invariant-loop-other
invariant-loop-other l =
    with_instances l.set.keys (map (λ b. b.id) (filter (imports l.config l.network) (drop l.other-index l.config.networks)))
    ≡ with_instances [] (map (λ b. b.id) (filter (imports l.config l.network) l.config.networks))
