use Rattle.std.proofs.Common.{◌≡◌, ◌+◌, ◌++◌, length}
use Rattle.ov_sync.proofs.Walking.{walk}
use Rattle.ov_sync.proofs.Turns.{entries_left}
use Rattle.ov_sync.proofs.sending.changes.Given as goal

abbrev pub invariant-merge : goal.invariant-merge
invariant-merge g l =
    l.deltas.items ++ walk g.K.Ord.cmp g.V.PartialEq.eq (entries_left l.old l.olds) (entries_left l.new l.news)
    ≡ walk g.K.Ord.cmp g.V.PartialEq.eq l.sent.entries l.desired.entries

abbrev pub decreases-merge : goal.decreases-merge
decreases-merge g l = length (entries_left l.old l.olds) + length (entries_left l.new l.news)
