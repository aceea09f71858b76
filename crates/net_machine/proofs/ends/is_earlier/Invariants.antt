use Rattle.std.proofs.Common.{◌≡◌, drop}
use Rattle.net_machine.specs.Seating.{is_earlier}
use Rattle.net_machine.proofs.ends.is_earlier.Given as goal

abbrev pub invariant-loop-other : goal.invariant-loop-other
invariant-loop-other l = is_earlier (drop l.other-index l.order) l.ends ≡ is_earlier l.order l.ends
