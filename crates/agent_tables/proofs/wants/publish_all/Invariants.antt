use Rattle.std.proofs.Common.{◌≡◌, drop}
use Rattle.std.specs.List.{flat_map}
use Rattle.node_core.specs.Told.{up_of}
use Rattle.node_core.specs.NodeModel.Agent.{publication}
use Rattle.agent_tables.specs.Kept.{added}
use Rattle.agent_tables.specs.Slice.{pairs_of}
use Rattle.agent_tables.proofs.wants.publish_all.Given as goal

abbrev pub invariant-loop-object : goal.invariant-loop-object
invariant-loop-object l =
    added (up_of l.wanted.entries) (flat_map (λ e. publication e.0 e.1) (pairs_of (drop l.object-index l.slice)))
    ≡ added (up_of l.fn.wanted.entries) (flat_map (λ e. publication e.0 e.1) (pairs_of l.slice))
