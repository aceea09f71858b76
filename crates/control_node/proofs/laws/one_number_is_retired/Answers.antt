use Rattle.control_node.proofs.Retired.{one_more}
use Rattle.control_node.proofs.laws.one_number_is_retired.Goals as goal

pub returns : goal.returns
returns c = λ plan session number. one_more plan.retired session number
