use Rattle.acl_compile.proofs.Deciding.{none_inside}
use Rattle.acl_compile.proofs.laws.no_entries_inside_a_network.Goals as goal

pub returns : goal.returns
returns c = none_inside
