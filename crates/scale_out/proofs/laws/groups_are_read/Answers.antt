use Rattle.scale_out.proofs.GroupLaws.{documents_are_read}
use Rattle.scale_out.proofs.laws.groups_are_read.Goals as goal

pub returns : goal.returns
returns c = documents_are_read
