use Rattle.std.proofs.Common.{◌≡◌, ◌++◌, map}
use Rattle.bgp_vpn.specs.Said.{dropped}
use Rattle.bgp_vpn.proofs.update.push_drops.Given as goal

abbrev pub invariant-loop-route : goal.invariant-loop-route
invariant-loop-route l =
    (goal.iterator-loop-route).can_next l.route-iterator ×
    (goal.iterator-loop-route).is_finite l.route-iterator ×
    (l.deltas.items ++ map dropped l.route-iterator ≡ l.fn.deltas.items ++ map dropped l.fn.routes)
