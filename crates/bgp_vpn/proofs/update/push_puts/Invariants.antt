use Rattle.std.proofs.Common.{◌≡◌, ◌++◌, map}
use Rattle.bgp_vpn.specs.Said.{put_to}
use Rattle.bgp_vpn.proofs.update.push_puts.Given as goal

abbrev pub invariant-loop-route : goal.invariant-loop-route
invariant-loop-route l =
    (goal.iterator-loop-route).can_next l.route-iterator ×
    (goal.iterator-loop-route).is_finite l.route-iterator ×
    (l.deltas.items ++ map (put_to l.update.next_hop l.update.targets) l.route-iterator ≡ l.fn.deltas.items ++ map (put_to l.update.next_hop l.update.targets) l.update.announced)
