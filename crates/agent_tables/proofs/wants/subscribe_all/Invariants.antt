use Rattle.std.proofs.Common.{◌≡◌, drop, map}
use Rattle.node_core.specs.Told.{up_of}
use Rattle.node_core.specs.NodeModel.Keys.{Subscribe}
use Rattle.node_core.specs.NodeModel.Values.{Label}
use Rattle.agent_tables.specs.Kept.{added}
use Rattle.agent_tables.proofs.wants.subscribe_all.Given as goal

abbrev pub invariant-loop-instance : goal.invariant-loop-instance
invariant-loop-instance l =
    added (up_of l.wanted.entries) (map (λ i. (Subscribe i, Label (record { 0 = 0 }))) (drop l.instance-index l.instances))
    ≡ added (up_of l.fn.wanted.entries) (map (λ i. (Subscribe i, Label (record { 0 = 0 }))) l.instances)
