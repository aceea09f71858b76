use Rattle.vpn_tables.proofs.AgentRows.{publication_rows, route_rows}
use Rattle.vpn_tables.proofs.Slices.{any_object}
use Rattle.vpn_tables.proofs.agent_laws.rows_change_with_their_tables.Goals as goal

pub returns-clause-route : goal.returns-clause-route
returns-clause-route c = route_rows

pub returns-clause-publication : goal.returns-clause-publication
returns-clause-publication c = publication_rows

pub returns-clause-object : goal.returns-clause-object
returns-clause-object c = any_object
