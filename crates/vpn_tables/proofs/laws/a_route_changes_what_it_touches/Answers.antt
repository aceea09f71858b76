use Rattle.vpn_tables.proofs.TouchedByChanges.{route_agents, route_keys, route_rows}
use Rattle.vpn_tables.proofs.Covering as covering
use Rattle.vpn_tables.proofs.laws.a_route_changes_what_it_touches.Goals as goal

pub returns-clause-tables : goal.returns-clause-tables
returns-clause-tables c = route_rows

pub returns-clause-agents : goal.returns-clause-agents
returns-clause-agents c = route_agents

pub returns-clause-peers : goal.returns-clause-peers
returns-clause-peers c = route_keys

pub returns-clause-keys : goal.returns-clause-keys
returns-clause-keys c = covering.route_keys
