use Rattle.std.proofs.Common.{◌≡◌}
use Rattle.std.specs.List.{AllByRecursion}
use Rattle.bgp_wire.specs.Opens.{IsCapability, four_octet_number}
use Rattle.bgp_wire.proofs.open.four_octet_number.Given as goal

abbrev pub invariant-loop-capability : goal.invariant-loop-capability
invariant-loop-capability l =
    (goal.iterator-loop-capability).can_next l.capability-iterator ×
    (goal.iterator-loop-capability).is_finite l.capability-iterator ×
    (∥ AllByRecursion IsCapability l.capability-iterator ∥₁ × (four_octet_number l.fn.capabilities ≡ four_octet_number l.capability-iterator))
