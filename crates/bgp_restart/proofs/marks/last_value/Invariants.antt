use Rattle.std.specs.Prelude.{◌≡◌, option_copied}
use Rattle.std.specs.Option.{option_or}
use Rattle.bgp_wire.specs.Opens.{capabilities_of}
use Rattle.bgp_restart.specs.Marks.{last_value}
use Rattle.bgp_restart.proofs.marks.last_value.Given as goal

abbrev pub invariant-loop-capability : goal.invariant-loop-capability
invariant-loop-capability l =
    (goal.iterator-loop-capability).can_next l.capability-iterator ×
    (goal.iterator-loop-capability).is_finite l.capability-iterator ×
    (option_or (last_value 64 l.capability-iterator) (option_copied l.last) ≡ last_value 64 (capabilities_of l.part))
