use Rattle.std.proofs.Common.{◌≡◌, map, take, Some}
use Rattle.node_core.specs.Told.{change_of}
use Rattle.agent_tables.specs.Touched.{route_key}
use Rattle.agent_node.proofs.begin.routes_of.Given as goal

abbrev pub invariant-loop-record : goal.invariant-loop-record
invariant-loop-record l =
    map (λ i. route_key (change_of i)) (take l.record-index l.records) ≡ map Some l.routes.items
