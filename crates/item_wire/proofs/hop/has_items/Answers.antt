use Rattle.std.proofs.Common.{length, ap}
use Rattle.item_wire.proofs.Counts.{has_so_many}
use Rattle.item_wire.proofs.hop.has_items.Goals as goal

pub returns-in-Some : goal.returns-in-Some
returns-in-Some c = has_so_many c.args.n _ _ c.in-Some.list.now.items c.in-Some.ensures (ap length c.as_slice-items.ensures.value)
