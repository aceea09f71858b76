use Rattle.std.proofs.Common.{◌<◌, length, get_or, sym, ◌∙◌, ap, set, arith}
use Rattle.std.proofs.lemmas.List.Edits.{map_over_more}
use Rattle.vpn_tables.specs.Followed.{followed_again}
use Rattle.vpn_tables.specs.declared.changes.Followed.{Followed}
use Rattle.vpn_tables.specs.declared.changes.RowChange.{RowChange}
use Rattle.vpn_tables.proofs.MovedRows.{is_followed}
use Rattle.vpn_tables.proofs.changes.follow_again.Goals as goal

pub loop-change-preserved : goal.loop-change-preserved
loop-change-preserved c =
    let l = c.loop-change in
    let lt : l.change-index < length c.args.changes.now = omega arith in
    let h = c.args.tables.now in
    let old : RowChange = get_or l.changes l.change-index c.change-item.result in
    ap (λ (f : Followed). set l.changes l.change-index (record { instance = old.instance; prefix = old.prefix; before = old.before; after = f }))
    (is_followed h old.instance old.prefix c.followed-change.result c.followed-change.ensures)
    ∙ ap (λ (e : RowChange). set l.changes l.change-index (followed_again h e)) (sym c.change-item.is)
    ∙ map_over_more (followed_again h) c.args.changes.now l.changes l.change-index c.change-item.result lt l.invariant c.change-item.is
