use Rattle.std.proofs.Common.{◌≡◌, ◌++◌, map}
use Rattle.bgp_vpn.specs.Said.{dropped}
use Rattle.decode_answers.specs.Decoding.{change_lines}
use Rattle.decode_answers.proofs.decoding.push_drops.Given as goal

abbrev pub invariant-loop-route : goal.invariant-loop-route
invariant-loop-route l =
    (goal.iterator-loop-route).can_next l.route-iterator ×
    (goal.iterator-loop-route).is_finite l.route-iterator ×
    (l.out ++ change_lines (map dropped l.route-iterator) ≡ l.fn.out ++ change_lines (map dropped l.fn.routes))
