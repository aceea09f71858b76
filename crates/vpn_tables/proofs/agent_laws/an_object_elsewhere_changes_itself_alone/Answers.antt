use Rattle.vpn_tables.proofs.Slices.{object_elsewhere}
use Rattle.vpn_tables.proofs.agent_laws.an_object_elsewhere_changes_itself_alone.Goals as goal

pub returns : goal.returns
returns c = object_elsewhere
