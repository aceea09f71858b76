use Rattle.std.proofs.Common.{◌≡◌, ◌++◌, List, map, length}
use Rattle.std.specs.List.{flat_map, AllByRecursion}
use Rattle.bgp_vpn.specs.Routes.{RouteFields, route_octets}
use Rattle.rt_membership.specs.Entries.{IsEntry}
use Rattle.rt_membership.specs.Lying.{change_by}
use Rattle.rt_membership.proofs.entries.push_entries.Given as goal

abbrev pub invariant-loop-rest : goal.invariant-loop-rest
invariant-loop-rest l =
    (done : List RouteFields) × AllByRecursion IsEntry done × (l.octets ≡ flat_map route_octets done ++ l.rest)
    × (l.deltas.items ≡ l.fn.deltas.items ++ map (change_by l.way) done)

abbrev pub decreases-loop-rest : goal.decreases-loop-rest
decreases-loop-rest l = length l.rest
