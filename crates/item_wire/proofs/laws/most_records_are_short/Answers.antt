use Rattle.item_wire.proofs.ShortRecords.{most_are_short}
use Rattle.item_wire.proofs.laws.most_records_are_short.Goals as goal

pub returns : goal.returns
returns c = most_are_short
