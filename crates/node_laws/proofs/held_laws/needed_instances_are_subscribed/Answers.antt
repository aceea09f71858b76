use Rattle.node_laws.proofs.Receiving.{subscribed_is, told_up}
use Rattle.node_laws.proofs.held_laws.needed_instances_are_subscribed.Goals as goal

pub returns-clause-exactly : goal.returns-clause-exactly
returns-clause-exactly c = subscribed_is

pub returns-clause-alone : goal.returns-clause-alone
returns-clause-alone c = told_up
