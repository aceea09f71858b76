use Rattle.transform_model.proofs.Lemmas.{hosts_lead_to_nodes, circuits_lead_to_nodes}
use Rattle.transform_model.proofs.laws.rows_lead_to_nodes.Goals as goal

pub returns-clause-ports : goal.returns-clause-ports
returns-clause-ports c = hosts_lead_to_nodes

pub returns-clause-circuits : goal.returns-clause-circuits
returns-clause-circuits c = circuits_lead_to_nodes
