use Rattle.std.proofs.Common.{◌≡◌, ◌++◌, drop}
use Rattle.node_core.specs.NodeModel.Agent.{needed_by}
use Rattle.agent_tables.specs.Slice.{pairs_of}
use Rattle.agent_tables.proofs.needs.needed.Given as goal

abbrev pub invariant-loop-object : goal.invariant-loop-object
invariant-loop-object l = l.needed.items ++ needed_by (pairs_of (drop l.object-index l.slice)) ≡ needed_by (pairs_of l.slice)
