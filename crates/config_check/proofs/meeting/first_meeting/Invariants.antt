use Rattle.std.proofs.Common.{◌≡◌, take, drop}
use Rattle.ov_types.specs.First.{meeting_after, first_meeting}
use Rattle.config_check.proofs.Keyed.{Keeps}
use Rattle.config_check.proofs.meeting.first_meeting.Given as goal

abbrev pub invariant-loop-item : goal.invariant-loop-item
invariant-loop-item g l = record {
  kept : Keeps g.T.Key.Ord.cmp g.T.Meets.key_of l.before (take l.item-index l.items);
  none : meeting_after g.T.Meets.meets (take l.item-index l.items) (drop l.item-index l.items) ≡ first_meeting g.T.Meets.meets l.items;
}
