use Rattle.std.proofs.Common.{◌≡◌, ◌++◌, vec_len}
use Rattle.std.specs.FinMap.{from_entries}
use Rattle.ov_sync.specs.Keyed.{map_of}
use Rattle.ov_sync.proofs.first.first_of_each.Given as goal

abbrev pub invariant-loop-key : goal.invariant-loop-key
invariant-loop-key g l =
    map_of g.K.Ord.cmp (l.entries.items ++ l.first.entries) ≡ from_entries l.fn.entries.items

abbrev pub decreases-loop-key : goal.decreases-loop-key
decreases-loop-key g l = vec_len l.entries
