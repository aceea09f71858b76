use Rattle.std.proofs.Common.{◌≡◌, ◌+◌, ◌<◌, suc, take, length, arith, subst, sym}
use Rattle.ov_types.specs.Prefix.{Block}
use Rattle.ov_types.specs.declared.rows.TableRow.{TableRow}
use Rattle.vpn_tables.specs.NodeModel.Keys.{Row}
use Rattle.vpn_tables.specs.NodeModel.Members.{Member}
use Rattle.control_wants.specs.Marks.{AreTableRowsMarked, IsOfTable, Marks, MarksOnly, no_route}
use Rattle.control_wants.proofs.Growing.{within_itself, within_then}
use Rattle.control_wants.proofs.Only.{member_at, only_itself, only_more, only_then}
use Rattle.control_wants.proofs.Telling.{all_table_rows, table_rows_more}
use Rattle.control_wants.proofs.told.mark_table_rows.Goals as goal

pub loop-prefix-init : goal.loop-prefix-init
loop-prefix-init c = record { within = within_itself c.args.dirty.now; marked = λ all q r n. absurd n; only = only_itself _ _ c.args.dirty.now; own = λ all. all }

pub loop-prefix-preserved : goal.loop-prefix-preserved
loop-prefix-preserved c =
    let l = c.loop-prefix in
    let lt : l.prefix-index < length c.args.rows.now = omega arith in
    let more : suc l.prefix-index ≡ l.prefix-index + 1 = omega arith in
    record {
      within = within_then _ _ _ l.invariant.within c.add_item.ensures.within;
      marked = subst (λ i. AreTableRowsMarked c.add_item.new.self c.args.whom c.args.instance (take i c.args.rows.now)) more
          (table_rows_more l.dirty c.add_item.new.self c.args.whom c.args.instance c.args.rows.now l.prefix-index c.loop-prefix-item.result lt c.loop-prefix-item.is l.invariant.marked c.add_item.ensures.within c.add_item.ensures.marked);
      only = only_then _ _ _ _ _ l.invariant.only (of_one l.dirty c.add_item.new.self c.loop-prefix-item.result (subst (λ e. Member e c.args.rows.now) (sym c.loop-prefix-item.is) (member_at c.args.rows.now l.prefix-index c.loop-prefix-item.result lt)) c.add_item.ensures.only);
      own = λ all. c.add_item.ensures.own (l.invariant.own all);
    }
  where
    of_one : (d d' : Marks) (e : Block × TableRow) → Member e c.args.rows.now → MarksOnly no_route (λ a k. k ≡ Row c.args.instance e.0) d d' → MarksOnly no_route (IsOfTable c.args.instance c.args.rows.now) d d'
    of_one d d' e m o = only_more _ _ no_route (λ a k. k ≡ Row c.args.instance e.0) (λ k n. absurd n) (λ a k is. (e, (m, is))) d d' o

pub returns-clause-marked : goal.returns-clause-marked
returns-clause-marked c =
    let end : c.loop-prefix.prefix-index ≡ length c.args.rows.now = omega arith in
    all_table_rows c.loop-prefix.dirty c.args.whom c.args.instance c.args.rows.now c.loop-prefix.prefix-index end c.loop-prefix.invariant.marked
