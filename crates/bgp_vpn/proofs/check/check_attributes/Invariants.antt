use Rattle.std.proofs.Common.{List}
use Rattle.bgp_wire.specs.Attributes.{AttributeFields}
use Rattle.bgp_vpn.specs.Found.{IsFound}
use Rattle.bgp_vpn.proofs.CheckLemmas.{Passed}
use Rattle.bgp_vpn.proofs.check.check_attributes.Given as goal

abbrev pub invariant-loop-item : goal.invariant-loop-item
invariant-loop-item l =
    (goal.iterator-loop-item).can_next l.item-iterator ×
    (goal.iterator-loop-item).is_finite l.item-iterator ×
    ((others : List AttributeFields) × Passed l.reading l.part.attributes.now l.item-iterator others l.marked × IsFound l.found others)
