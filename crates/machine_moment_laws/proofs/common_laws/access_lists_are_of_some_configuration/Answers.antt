use Rattle.machine_moment_laws.proofs.AccessLists.{access_lists_are_of_some}
use Rattle.machine_moment_laws.proofs.common_laws.access_lists_are_of_some_configuration.Goals as goal

pub returns : goal.returns
returns c = access_lists_are_of_some
