use Rattle.std.proofs.Common.{IfSome, subst, sym}
use Rattle.control_wants.specs.Marks.{AreChangesMarked, IsOfLed, IsOfRow, MarksOnly}
use Rattle.control_wants.proofs.told.mark_known.Goals as goal

pub returns-in-Some-clause-marked : goal.returns-in-Some-clause-marked
returns-in-Some-clause-marked c =
    subst (λ changes. IfSome changes (λ rows. AreChangesMarked c.mark_changes.new.dirty rows.items)) (sym c.in-Some.is)
    (subst (AreChangesMarked c.mark_changes.new.dirty) c.deref.ensures.value c.mark_changes.ensures.marked)

pub returns-in-Some-clause-only : goal.returns-in-Some-clause-only
returns-in-Some-clause-only c =
    subst (λ changes. IfSome changes (λ rows. MarksOnly (IsOfLed rows.items) (IsOfRow rows.items) c.args.dirty.now c.mark_changes.new.dirty)) (sym c.in-Some.is)
    (subst (λ cs. MarksOnly (IsOfLed cs) (IsOfRow cs) c.args.dirty.now c.mark_changes.new.dirty) c.deref.ensures.value c.mark_changes.ensures.only)
