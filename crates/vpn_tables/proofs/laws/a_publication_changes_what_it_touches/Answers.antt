use Rattle.vpn_tables.proofs.TouchedByChanges.{publication_agents, publication_keys, publication_rows}
use Rattle.vpn_tables.proofs.Covering as covering
use Rattle.vpn_tables.proofs.laws.a_publication_changes_what_it_touches.Goals as goal

pub returns-clause-tables : goal.returns-clause-tables
returns-clause-tables c = publication_rows

pub returns-clause-agents : goal.returns-clause-agents
returns-clause-agents c = publication_agents

pub returns-clause-peers : goal.returns-clause-peers
returns-clause-peers c = publication_keys

pub returns-clause-rows : goal.returns-clause-rows
returns-clause-rows c = covering.publication_rows_by_key

pub returns-clause-keys : goal.returns-clause-keys
returns-clause-keys c = covering.publication_keys
