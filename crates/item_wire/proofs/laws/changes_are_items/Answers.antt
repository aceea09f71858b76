use Rattle.item_wire.proofs.ChangeLemmas.{change_of_a_fed_item, change_of_a_told_item, change_of_a_said_item, item_of_an_object}
use Rattle.item_wire.proofs.laws.changes_are_items.Goals as goal

pub returns-clause-fed : goal.returns-clause-fed
returns-clause-fed c = change_of_a_fed_item

pub returns-clause-told : goal.returns-clause-told
returns-clause-told c = change_of_a_told_item

pub returns-clause-said : goal.returns-clause-said
returns-clause-said c = change_of_a_said_item

pub returns-clause-object : goal.returns-clause-object
returns-clause-object c = item_of_an_object
