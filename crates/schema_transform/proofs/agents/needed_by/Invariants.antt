use Rattle.std.proofs.Common.{◌≡◌, drop}
use Rattle.std.specs.Prelude.{[], flat_map}
use Rattle.transform_model.specs.NodeModel.Agent.{needed_for}
use Rattle.transform_model.specs.Objects.{with_instances}
use Rattle.schema_transform.proofs.agents.needed_by.Given as goal

abbrev pub invariant-loop-object : goal.invariant-loop-object
invariant-loop-object l =
    with_instances l.needed.keys (flat_map (λ e. needed_for e.1) (drop l.object-index l.slice))
    ≡ with_instances [] (flat_map (λ e. needed_for e.1) l.slice)
