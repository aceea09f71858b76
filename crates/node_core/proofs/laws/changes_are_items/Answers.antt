use Rattle.node_core.proofs.Changes.{change_of_its_item}
use Rattle.node_core.proofs.laws.changes_are_items.Goals as goal

pub returns : goal.returns
returns c = change_of_its_item
