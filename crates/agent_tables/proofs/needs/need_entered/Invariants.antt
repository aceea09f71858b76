use Rattle.std.proofs.Common.{◌≡◌, ◌++◌, drop}
use Rattle.std.specs.List.{filter_map}
use Rattle.node_core.specs.NodeModel.Agent.{entered_by}
use Rattle.agent_tables.proofs.needs.need_entered.Given as goal

abbrev pub invariant-loop-rule : goal.invariant-loop-rule
invariant-loop-rule l =
    l.needed.items ++ filter_map (λ r. entered_by r.action) (drop l.rule-index l.rules)
    ≡ l.fn.needed.items ++ filter_map (λ r. entered_by r.action) l.rules
