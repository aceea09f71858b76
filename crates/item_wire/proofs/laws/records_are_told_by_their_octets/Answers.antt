use Rattle.item_wire.proofs.Framed.{framed_is_read}
use Rattle.item_wire.proofs.laws.records_are_told_by_their_octets.Goals as goal

pub returns : goal.returns
returns c = framed_is_read
