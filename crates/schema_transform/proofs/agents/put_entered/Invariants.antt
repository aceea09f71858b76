use Rattle.std.proofs.Common.{◌≡◌, drop}
use Rattle.std.specs.List.{filter_map}
use Rattle.transform_model.specs.NodeModel.Agent.{entered_by}
use Rattle.transform_model.specs.Objects.{with_instances}
use Rattle.schema_transform.proofs.agents.put_entered.Given as goal

abbrev pub invariant-loop-rule : goal.invariant-loop-rule
invariant-loop-rule l =
    with_instances l.needed.keys (filter_map (λ r. entered_by r.action) (drop l.rule-index l.rules))
    ≡ with_instances l.fn.needed.keys (filter_map (λ r. entered_by r.action) l.rules)
