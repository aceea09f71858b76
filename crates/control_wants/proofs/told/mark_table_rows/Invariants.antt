use Rattle.std.proofs.Common.{take}
use Rattle.control_wants.specs.Marks.{AreAllOf, AreTableRowsMarked, IsOfTable, IsWithin, MarksOnly, no_route}
use Rattle.control_wants.proofs.told.mark_table_rows.Given as goal

abbrev pub invariant-loop-prefix : goal.invariant-loop-prefix
invariant-loop-prefix l = record {
  within : IsWithin l.fn.dirty l.dirty;
  marked : AreTableRowsMarked l.dirty l.whom l.instance (take l.prefix-index l.rows);
  only : MarksOnly no_route (IsOfTable l.instance l.rows) l.fn.dirty l.dirty;
  own : AreAllOf l.fn.dirty l.whom → AreAllOf l.dirty l.whom;
}
