use Rattle.item_wire.proofs.Spelled.{one_item}
use Rattle.item_wire.proofs.laws.items_of_one_spelling_are_equal.Goals as goal

pub returns : goal.returns
returns c = one_item
