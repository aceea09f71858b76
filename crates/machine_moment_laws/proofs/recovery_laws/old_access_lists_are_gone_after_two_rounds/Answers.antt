use Rattle.machine_moment_laws.proofs.Back.{lists_are_of_some}
use Rattle.machine_moment_laws.proofs.recovery_laws.old_access_lists_are_gone_after_two_rounds.Goals as goal

pub returns : goal.returns
returns c = lists_are_of_some
