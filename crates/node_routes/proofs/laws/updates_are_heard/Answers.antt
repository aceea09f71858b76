use Rattle.node_routes.proofs.One.{update_first, open_first, keepalive_first, notification_first}
use Rattle.node_routes.proofs.laws.updates_are_heard.Goals as goal

pub returns-clause-update : goal.returns-clause-update
returns-clause-update c = update_first

pub returns-clause-hello : goal.returns-clause-hello
returns-clause-hello c = open_first

pub returns-clause-keepalive : goal.returns-clause-keepalive
returns-clause-keepalive c = keepalive_first

pub returns-clause-notification : goal.returns-clause-notification
returns-clause-notification c = notification_first
