use Rattle.vpn_tables.proofs.TablesStay.{peers_stay, tables_stay}
use Rattle.vpn_tables.proofs.laws.an_attachment_changes_no_table.Goals as goal

pub returns-clause-tables : goal.returns-clause-tables
returns-clause-tables c = tables_stay

pub returns-clause-peers : goal.returns-clause-peers
returns-clause-peers c = peers_stay
