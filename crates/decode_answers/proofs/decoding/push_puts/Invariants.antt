use Rattle.std.proofs.Common.{◌≡◌, ◌++◌, map}
use Rattle.bgp_vpn.specs.Said.{put_to}
use Rattle.decode_answers.specs.Decoding.{change_lines}
use Rattle.decode_answers.proofs.decoding.push_puts.Given as goal

abbrev pub invariant-loop-route : goal.invariant-loop-route
invariant-loop-route l =
    (goal.iterator-loop-route).can_next l.route-iterator ×
    (goal.iterator-loop-route).is_finite l.route-iterator ×
    (l.next_hop ≡ l.said.next_hop) ×
    (l.out ++ change_lines (map (put_to l.said.next_hop l.said.targets) l.route-iterator)
    ≡ l.fn.out ++ change_lines (map (put_to l.said.next_hop l.said.targets) l.said.announced))
