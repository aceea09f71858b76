use Rattle.std.proofs.Common.{◌≡◌, ◌++◌, drop}
use Rattle.decode_answers.specs.Logs.{row_lines}
use Rattle.decode_answers.proofs.entries.push_rows.Given as goal

abbrev pub invariant-loop-key : goal.invariant-loop-key
invariant-loop-key l = l.out ++ row_lines (drop l.key-index l.rows) ≡ l.fn.out ++ row_lines l.rows
