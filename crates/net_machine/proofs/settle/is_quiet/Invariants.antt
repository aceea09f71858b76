use Rattle.std.proofs.Common.{◌≡◌, drop}
use Rattle.std.specs.List.{list_all}
use Rattle.net_machine.specs.Settling.{is_still}
use Rattle.net_machine.proofs.settle.is_quiet.Given as goal

abbrev pub invariant-loop-ends : goal.invariant-loop-ends
invariant-loop-ends l =
    list_all (is_still l.nodes.seats) (drop l.ends-index l.order)
    ≡ list_all (is_still l.nodes.seats) l.order
