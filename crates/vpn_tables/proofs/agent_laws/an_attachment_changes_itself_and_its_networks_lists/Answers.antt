use Rattle.vpn_tables.proofs.Slices.{attachment}
use Rattle.vpn_tables.proofs.agent_laws.an_attachment_changes_itself_and_its_networks_lists.Goals as goal

pub returns : goal.returns
returns c = attachment
