use Rattle.std.proofs.Common.{◌≡◌, drop}
use Rattle.transform_model.specs.Tables.{with_rows}
use Rattle.schema_transform.proofs.kept.put_rows.Given as goal

abbrev pub invariant-loop-row : goal.invariant-loop-row
invariant-loop-row l = with_rows l.rows.entries (drop l.row-index l.table) ≡ with_rows l.fn.rows.entries l.table
