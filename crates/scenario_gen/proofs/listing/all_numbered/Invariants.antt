use Rattle.std.proofs.Common.{◌≡◌, ◌++◌, map}
use Rattle.std.specs.List.{range_with_len}
use Rattle.scenario_gen.proofs.Loops.{left}
use Rattle.scenario_gen.proofs.listing.all_numbered.Given as goal

abbrev pub invariant-loop-number : goal.invariant-loop-number
invariant-loop-number g l =
    l.items ++ map (g.T.Numbered.by_number l.scenario) (left l.number l.number-end)
    ≡ map (g.T.Numbered.by_number l.scenario) (range_with_len l.first l.count)
