use Rattle.std.proofs.Common.{take}
use Rattle.control_wants.specs.Marks.{AreListsMarked, IsListAmong, IsWithin, MarksOnly, no_route}
use Rattle.control_wants.proofs.objects.mark_lists.Given as goal

abbrev pub invariant-loop-name : goal.invariant-loop-name
invariant-loop-name l = record {
  within : IsWithin l.fn.dirty l.dirty;
  marked : AreListsMarked l.dirty l.from (take l.name-index l.objects);
  only : MarksOnly no_route (IsListAmong l.from l.objects) l.fn.dirty l.dirty;
}
