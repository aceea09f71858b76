use Rattle.std.proofs.Common.{◌≡◌, drop}
use Rattle.std.specs.List.{filter_map}
use Rattle.std.specs.Prelude.{◌++◌}
use Rattle.transform_model.specs.NodeModel.Wants.{port_at}
use Rattle.schema_transform.proofs.agents.networks_at.Given as goal

abbrev pub invariant-loop-object : goal.invariant-loop-object
invariant-loop-object l =
    l.networks.items ++ filter_map (λ e. port_at l.address e.1) (drop l.object-index l.low)
    ≡ filter_map (λ e. port_at l.address e.1) l.low
