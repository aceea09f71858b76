use Rattle.std.proofs.Common.{◌≡◌, ◌+◌, ◌<◌, suc, take, length, arith, subst, sym}
use Rattle.vpn_tables.specs.NodeModel.Members.{Member}
use Rattle.vpn_tables.specs.declared.changes.RowChange.{RowChange}
use Rattle.control_wants.specs.Marks.{AreChangesMarked, IsLedMoved, IsOfLed, IsOfRow, IsRowMoved, Marks, MarksOnly}
use Rattle.control_wants.proofs.Growing.{within_itself, within_then}
use Rattle.control_wants.proofs.Only.{member_at, only_itself, only_more, only_then}
use Rattle.control_wants.proofs.Telling.{all_changes, changes_more}
use Rattle.control_wants.proofs.told.mark_changes.Goals as goal

pub loop-change-init : goal.loop-change-init
loop-change-init c = record { within = within_itself c.args.dirty.now; marked = λ x n. absurd n; only = only_itself _ _ c.args.dirty.now }

pub loop-change-preserved : goal.loop-change-preserved
loop-change-preserved c =
    let l = c.loop-change in
    let lt : l.change-index < length c.args.changes.now = omega arith in
    let more : suc l.change-index ≡ l.change-index + 1 = omega arith in
    record {
      within = within_then _ _ _ l.invariant.within c.mark_change.ensures.within;
      marked = subst (λ i. AreChangesMarked c.mark_change.new.dirty (take i c.args.changes.now)) more
          (changes_more l.dirty c.mark_change.new.dirty c.args.changes.now l.change-index c.change-item.result lt c.change-item.is l.invariant.marked c.mark_change.ensures.within c.mark_change.ensures.marked);
      only = only_then _ _ _ _ _ l.invariant.only (of_one l.dirty c.mark_change.new.dirty c.change-item.result (subst (λ x. Member x c.args.changes.now) (sym c.change-item.is) (member_at c.args.changes.now l.change-index c.change-item.result lt)) c.mark_change.ensures.only);
    }
  where
    of_one : (d d' : Marks) (x : RowChange) → Member x c.args.changes.now → MarksOnly (IsLedMoved x) (IsRowMoved x) d d' → MarksOnly (IsOfLed c.args.changes.now) (IsOfRow c.args.changes.now) d d'
    of_one d d' x m o = only_more _ _ (IsLedMoved x) (IsRowMoved x) (λ k e. (x, (m, e))) (λ a k e. (x, (m, e))) d d' o

pub returns-clause-marked : goal.returns-clause-marked
returns-clause-marked c =
    let end : c.loop-change.change-index ≡ length c.args.changes.now = omega arith in
    all_changes c.loop-change.dirty c.args.changes.now c.loop-change.change-index end c.loop-change.invariant.marked
