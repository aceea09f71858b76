use Rattle.std.proofs.Common.{◌≡◌, ◌++◌, drop}
use Rattle.std.specs.Prelude.{flat_map, string_bytes}
use Rattle.report.specs.Objects.{entry_line, key_text}
use Rattle.report.proofs.entries.append_entries.Given as goal

abbrev pub invariant-loop-entry : goal.invariant-loop-entry
invariant-loop-entry l =
    l.out ++ flat_map (entry_line l.fn.front l.fn.key) (drop l.entry-index l.entries)
    ≡ l.fn.out ++ flat_map (entry_line l.fn.front l.fn.key) l.entries
