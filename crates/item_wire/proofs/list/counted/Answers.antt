use Rattle.std.proofs.Common.{sym, ◌∙◌}
use Rattle.item_wire.proofs.Counts.{is_kept, is_refused}
use Rattle.item_wire.proofs.list.counted.Goals as goal

pub returns-then-allows-clause-items : goal.returns-then-allows-clause-items
returns-then-allows-clause-items c =
    is_kept c.args.count _ c.in-Some.list.now.items c.as_slice-items.result.now c.as_slice-items.ensures.value c.in-Some.ensures (sym c.allows.ensures ∙ c.if-allows.true)

pub returns-else-allows-clause-items : goal.returns-else-allows-clause-items
returns-else-allows-clause-items c =
    is_refused c.args.count _ c.in-Some.list.now.items c.as_slice-items.result.now c.as_slice-items.ensures.value c.in-Some.ensures (sym c.allows.ensures ∙ c.if-allows.false)
