use Rattle.std.proofs.Common.{◌≡◌, map, take}
use Rattle.control_node.specs.Made.{new_peer}
use Rattle.control_node.proofs.making.new_peers.Given as goal

abbrev pub invariant-loop-id : goal.invariant-loop-id
invariant-loop-id l = l.ends.items ≡ map (new_peer l.asn) (take l.id-index l.ids)
