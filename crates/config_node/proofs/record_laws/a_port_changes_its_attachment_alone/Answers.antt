use Rattle.config_node.proofs.Ports.{one_for_another}
use Rattle.config_node.proofs.record_laws.a_port_changes_its_attachment_alone.Goals as goal

pub returns : goal.returns
returns c = one_for_another
