use Rattle.item_wire.proofs.Spelled.{item_reads}
use Rattle.item_wire.proofs.laws.items_are_read.Goals as goal

pub returns : goal.returns
returns c = item_reads
