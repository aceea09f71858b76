use Rattle.std.proofs.Common.{take}
use Rattle.config_check.proofs.Keyed.{Keeps}
use Rattle.config_check.proofs.meeting.first_of_each_key.Given as goal

abbrev pub invariant-loop-item : goal.invariant-loop-item
invariant-loop-item g l = Keeps g.T.Key.Ord.cmp g.T.Meets.key_of l.first (take l.item-index l.items)
