use Rattle.vpn_tables.proofs.AgentRows.{subscription_elsewhere}
use Rattle.vpn_tables.proofs.agent_laws.a_subscription_is_of_its_agent_alone.Goals as goal

pub returns : goal.returns
returns c = subscription_elsewhere
