use Rattle.node_model.proofs.Spelled.{better_is}
use Rattle.node_model.proofs.control_laws.the_order_of_paths.Goals as goal

pub returns : goal.returns
returns c = better_is
