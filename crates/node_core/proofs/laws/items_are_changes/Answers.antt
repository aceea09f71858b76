use Rattle.node_core.proofs.Changes.{changes_but_hellos, item_of_its_change}
use Rattle.node_core.proofs.laws.items_are_changes.Goals as goal

pub returns-clause-each : goal.returns-clause-each
returns-clause-each c = changes_but_hellos

pub returns-clause-back : goal.returns-clause-back
returns-clause-back c = item_of_its_change
