use Rattle.item_wire.proofs.Read.{item_is_read}
use Rattle.item_wire.proofs.laws.records_are_read.Goals as goal

pub returns : goal.returns
returns c = item_is_read
