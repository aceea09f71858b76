use Rattle.item_wire.proofs.ChangeLemmas.{fed_where_it_may, told_where_it_may, said_where_it_may, item_of_what_is_fed, item_of_what_is_told, item_of_what_is_said}
use Rattle.item_wire.proofs.laws.items_are_changes.Goals as goal

pub returns-clause-feed : goal.returns-clause-feed
returns-clause-feed c = fed_where_it_may

pub returns-clause-control : goal.returns-clause-control
returns-clause-control c = told_where_it_may

pub returns-clause-agent : goal.returns-clause-agent
returns-clause-agent c = said_where_it_may

pub returns-clause-item_fed : goal.returns-clause-item_fed
returns-clause-item_fed c = item_of_what_is_fed

pub returns-clause-item_told : goal.returns-clause-item_told
returns-clause-item_told c = item_of_what_is_told

pub returns-clause-item_said : goal.returns-clause-item_said
returns-clause-item_said c = item_of_what_is_said
