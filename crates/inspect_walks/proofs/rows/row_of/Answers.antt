use Rattle.std.proofs.Common.{sym, ◌∙◌}
use Rattle.inspect_walks.proofs.RowLemmas.{key_apart, keys_past}
use Rattle.inspect_walks.proofs.Searching.{at_another, at_end, at_it}
use Rattle.inspect_walks.proofs.rows.row_of.Goals as goal

pub returns-in_err-row : goal.returns-in_err-row
returns-in_err-row c =
    let key = c.args.key.now in
    let rows = c.args.rows.now in
    rw c.from_residual.ensures
    (at_end _ _ (key_apart key) rows c.rows_before.result c.rows_before.ensures (keys_past key rows c.requires) c.item_at.result c.item_at.ensures c.in_err-row.was)

pub returns-then-not-is_key : goal.returns-then-not-is_key
returns-then-not-is_key c =
    let key = c.args.key.now in
    let rows = c.args.rows.now in
    at_another _ _ (key_apart key) rows c.rows_before.result c.rows_before.ensures (keys_past key rows c.requires) c.item_at.result c.item_at.ensures c.in_ok-row.row c.in_ok-row.was
    (sym c.is_key.ensures ∙ c.if-not-is_key.true)

pub returns : goal.returns
returns c =
    let key = c.args.key.now in
    let rows = c.args.rows.now in
    at_it _ _ (key_apart key) rows c.rows_before.result c.rows_before.ensures (keys_past key rows c.requires) c.item_at.result c.item_at.ensures c.in_ok-row.row c.in_ok-row.was
    (sym c.is_key.ensures ∙ c.if-not-is_key.false)
