use Rattle.std.proofs.Common.{◌≡◌, drop}
use Rattle.std.specs.Prelude.{◌++◌, map}
use Rattle.policy_rules.specs.Related.{imports}
use Rattle.schema_transform.proofs.rows.imported_by.Given as goal

abbrev pub invariant-loop-other : goal.invariant-loop-other
invariant-loop-other l =
    l.imported.items ++ map (imports l.config l.network) (drop l.other-index l.config.networks)
    ≡ map (imports l.config l.network) l.config.networks
