use Rattle.node_model.specs.Keys.{of_up}
use Rattle.node_model.specs.Values.{Label}
use Rattle.ov_sync.specs.Embed.{moved_delta}
use Rattle.ov_sync.specs.Keyed.{changed}
use Rattle.vpn_tables.proofs.AgentRows.{route_address, same_address}
use Rattle.vpn_tables.proofs.agent_laws.addresses_stay.Goals as goal

pub returns-clause-route : goal.returns-clause-route
returns-clause-route c = route_address

pub returns-clause-publication : goal.returns-clause-publication
returns-clause-publication c = λ h session d agent. same_address (λ m. changed m (moved_delta of_up Label d)) h.agents session agent
