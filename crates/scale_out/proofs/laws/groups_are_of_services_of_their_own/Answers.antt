use Rattle.scale_out.proofs.GroupLaws.{services_of_their_own}
use Rattle.scale_out.proofs.laws.groups_are_of_services_of_their_own.Goals as goal

pub returns : goal.returns
returns c = services_of_their_own
