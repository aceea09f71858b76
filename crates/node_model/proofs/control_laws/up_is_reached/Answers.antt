use Rattle.node_model.proofs.Reached.{reached_from, reached_to}
use Rattle.node_model.proofs.control_laws.up_is_reached.Goals as goal

pub returns : goal.returns
returns c = λ h s subnet d. (reached_from h s subnet d, reached_to h s subnet d)
