use Rattle.std.proofs.Common.{◌≡◌, drop}
use Rattle.std.specs.List.{filter_map}
use Rattle.std.specs.Prelude.{◌++◌}
use Rattle.transform_model.specs.NodeModel.Agent.{acl_entry}
use Rattle.schema_transform.proofs.agents.acls_of.Given as goal

abbrev pub invariant-loop-object : goal.invariant-loop-object
invariant-loop-object l =
    l.acls ++ filter_map (λ e. acl_entry e.0 e.1) (drop l.object-index l.slice)
    ≡ filter_map (λ e. acl_entry e.0 e.1) l.slice
