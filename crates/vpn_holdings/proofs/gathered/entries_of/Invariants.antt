use Rattle.std.proofs.Common.{◌≡◌, ◌++◌, map, drop}
use Rattle.vpn_holdings.specs.Gathered.{keyed}
use Rattle.vpn_holdings.proofs.gathered.entries_of.Given as goal

abbrev pub invariant-loop-item : goal.invariant-loop-item
invariant-loop-item g l = l.entries.items ++ map keyed (drop l.item-index l.items) ≡ map keyed l.items
