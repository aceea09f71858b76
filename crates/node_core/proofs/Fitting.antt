-- What fits its key can be told.
use Rattle.std.proofs.Common.{◌≡◌, false, IsTrue, arith}
use Rattle.item_wire.specs.Ranges.{is_in_range}
use Rattle.item_wire.specs.Records.{has_lists}
use Rattle.item_wire.specs.declared.item.Item.{Item}
use Rattle.item_wire.proofs.ShortRecords.{most_are_short}
use Rattle.node_core.specs.Told.{IsWritable}

-- an item without lists can be written
pub without_lists : (i : Item) → IsTrue (is_in_range i) → has_lists i ≡ false → IsWritable i
without_lists i h none = let k = most_are_short i h none in record { in_range = h; short = omega arith }
