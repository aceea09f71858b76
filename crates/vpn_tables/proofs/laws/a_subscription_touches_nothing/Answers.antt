use Rattle.vpn_tables.proofs.TouchedByChanges.{subscription_keys, subscription_rows, subscription_touches}
use Rattle.vpn_tables.proofs.laws.a_subscription_touches_nothing.Goals as goal

pub returns-clause-touched : goal.returns-clause-touched
returns-clause-touched c = subscription_touches

pub returns-clause-tables : goal.returns-clause-tables
returns-clause-tables c = subscription_rows

pub returns-clause-peers : goal.returns-clause-peers
returns-clause-peers c = subscription_keys
