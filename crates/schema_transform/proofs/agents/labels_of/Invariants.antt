use Rattle.std.proofs.Common.{◌≡◌, drop}
use Rattle.std.specs.List.{filter_map}
use Rattle.std.specs.Prelude.{◌++◌}
use Rattle.transform_model.specs.NodeModel.Agent.{attached}
use Rattle.schema_transform.proofs.agents.labels_of.Given as goal

abbrev pub invariant-loop-object : goal.invariant-loop-object
invariant-loop-object l =
    l.labels ++ filter_map (λ e. attached e.0 e.1) (drop l.object-index l.slice)
    ≡ filter_map (λ e. attached e.0 e.1) l.slice
