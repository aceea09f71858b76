use Rattle.std.proofs.Common.{◌≡◌, drop}
use Rattle.std.specs.List.{filter_map, list_all}
use Rattle.node_core.specs.NodeModel.Agent.{entered_by}
use Rattle.agent_tables.specs.Touched.{is_listed}
use Rattle.agent_tables.proofs.needs.enter_only.Given as goal

abbrev pub invariant-loop-rule : goal.invariant-loop-rule
invariant-loop-rule l =
    list_all (λ i. is_listed l.others i) (filter_map (λ r. entered_by r.action) (drop l.rule-index l.rules))
    ≡ list_all (λ i. is_listed l.others i) (filter_map (λ r. entered_by r.action) l.rules)
