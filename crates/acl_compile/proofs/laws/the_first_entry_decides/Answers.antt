use Rattle.acl_compile.proofs.Deciding.{first_entry, number_of_entry, action_of_entry, no_entry}
use Rattle.acl_compile.proofs.laws.the_first_entry_decides.Goals as goal

pub returns : goal.returns
returns c = record { entry = first_entry; number = number_of_entry; action = action_of_entry; none = no_entry }
