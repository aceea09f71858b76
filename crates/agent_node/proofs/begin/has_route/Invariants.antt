use Rattle.std.proofs.Common.{◌≡◌, drop, is_some}
use Rattle.std.specs.List.{list_any}
use Rattle.node_core.specs.Told.{change_of}
use Rattle.agent_tables.specs.Touched.{route_key}
use Rattle.agent_node.proofs.begin.has_route.Given as goal

abbrev pub invariant-loop-record : goal.invariant-loop-record
invariant-loop-record l =
    list_any (λ i. is_some (route_key (change_of i))) (drop l.record-index l.records)
    ≡ list_any (λ i. is_some (route_key (change_of i))) l.records
