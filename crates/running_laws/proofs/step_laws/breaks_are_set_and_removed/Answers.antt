use Rattle.running_laws.proofs.Broken.{breaks_are_removed, breaks_are_set, nothing_is_broken}
use Rattle.running_laws.proofs.Given.{given}
use Rattle.running_laws.proofs.step_laws.breaks_are_set_and_removed.Goals as goal

pub returns-clause-set : goal.returns-clause-set
returns-clause-set c = breaks_are_set given

pub returns-clause-nothing : goal.returns-clause-nothing
returns-clause-nothing c = nothing_is_broken given

pub returns-clause-removed : goal.returns-clause-removed
returns-clause-removed c = breaks_are_removed given
