use Rattle.std.proofs.Common.{◌≡◌, ◌++◌, drop}
use Rattle.std.specs.Prelude.{string_bytes}
use Rattle.report.specs.Lists.{more_text}
use Rattle.report.proofs.lists.append_more.Given as goal

abbrev pub invariant-loop-item : goal.invariant-loop-item
invariant-loop-item g l =
    string_bytes l.text ++ more_text g.T.Listed.item_text (drop l.item-index l.items)
    ≡ string_bytes l.fn.text ++ more_text g.T.Listed.item_text l.items
