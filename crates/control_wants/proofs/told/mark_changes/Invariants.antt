use Rattle.std.proofs.Common.{take}
use Rattle.control_wants.specs.Marks.{AreChangesMarked, IsOfLed, IsOfRow, IsWithin, MarksOnly}
use Rattle.control_wants.proofs.told.mark_changes.Given as goal

abbrev pub invariant-loop-change : goal.invariant-loop-change
invariant-loop-change l = record {
  within : IsWithin l.fn.dirty l.dirty;
  marked : AreChangesMarked l.dirty (take l.change-index l.changes);
  only : MarksOnly (IsOfLed l.changes) (IsOfRow l.changes) l.fn.dirty l.dirty;
}
