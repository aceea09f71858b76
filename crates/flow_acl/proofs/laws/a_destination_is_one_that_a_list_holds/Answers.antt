use Rattle.flow_acl.proofs.Decisions.{no_destination}
use Rattle.flow_acl.proofs.laws.a_destination_is_one_that_a_list_holds.Goals as goal

pub returns : goal.returns
returns c = λ lists n p. no_destination lists n p
