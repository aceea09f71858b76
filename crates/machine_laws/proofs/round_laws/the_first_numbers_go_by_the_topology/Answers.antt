use Rattle.machine_laws.proofs.Opening.{first_numbers_in_order}
use Rattle.machine_laws.proofs.round_laws.the_first_numbers_go_by_the_topology.Goals as goal

pub returns : goal.returns
returns c = first_numbers_in_order
