use Rattle.vpn_tables.proofs.TablesStay.{instance_peers, instance_tables}
use Rattle.vpn_tables.proofs.laws.an_instance_that_stays_changes_its_own_table_alone.Goals as goal

pub returns-clause-tables : goal.returns-clause-tables
returns-clause-tables c = instance_tables

pub returns-clause-peers : goal.returns-clause-peers
returns-clause-peers c = instance_peers
