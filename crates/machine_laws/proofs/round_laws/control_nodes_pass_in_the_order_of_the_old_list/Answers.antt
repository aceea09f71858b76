use Rattle.machine_laws.proofs.Opening.{passes_in_order}
use Rattle.machine_laws.proofs.round_laws.control_nodes_pass_in_the_order_of_the_old_list.Goals as goal

pub returns : goal.returns
returns c = passes_in_order
