use Rattle.vpn_tables.proofs.AgentRows.{subscription_rows_alone}
use Rattle.vpn_tables.proofs.agent_laws.a_subscription_changes_rows_of_its_instance_alone.Goals as goal

pub returns : goal.returns
returns c = subscription_rows_alone
