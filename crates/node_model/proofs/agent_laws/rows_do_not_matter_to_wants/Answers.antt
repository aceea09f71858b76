use Rattle.node_model.proofs.Heard.{wanted_besides}
use Rattle.node_model.proofs.agent_laws.rows_do_not_matter_to_wants.Goals as goal

pub returns : goal.returns
returns c = wanted_besides
