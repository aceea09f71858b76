use Rattle.std.proofs.Common.{subst, ◌∙◌}
use Rattle.vpn_tables.specs.Answers.{rows_at}
use Rattle.control_wants.specs.Marks.{AreTableRowsMarked, IsOfTable, MarksOnly, no_route}
use Rattle.control_wants.proofs.Only.{of_table, only_more}
use Rattle.control_wants.proofs.Telling.{table_marked}
use Rattle.control_wants.proofs.told.mark_table.Goals as goal

pub returns-in-Ok-clause-marked : goal.returns-in-Ok-clause-marked
returns-in-Ok-clause-marked c = λ all a q is clean.
    table_marked c.mark_table_rows.new.dirty c.args.whom c.args.tables.now c.args.instance
    (subst (AreTableRowsMarked c.mark_table_rows.new.dirty c.args.whom c.args.instance) (c.deref.ensures.value ∙ c.in-Ok.ensures) c.mark_table_rows.ensures.marked) all a q is clean

pub returns-in-Ok-clause-only : goal.returns-in-Ok-clause-only
returns-in-Ok-clause-only c =
    let h = c.args.tables.now in
    only_more _ _ no_route (IsOfTable c.args.instance (rows_at h c.args.instance)) (λ k n. absurd n) (λ a k o. of_table h c.args.instance a k o) c.args.dirty.now c.mark_table_rows.new.dirty
    (subst (λ rows. MarksOnly no_route (IsOfTable c.args.instance rows) c.args.dirty.now c.mark_table_rows.new.dirty) (c.deref.ensures.value ∙ c.in-Ok.ensures) c.mark_table_rows.ensures.only)
