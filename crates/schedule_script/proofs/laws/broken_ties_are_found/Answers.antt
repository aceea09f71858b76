use Rattle.schedule_script.proofs.Broken.{broken_iff, found_is_broken}
use Rattle.schedule_script.proofs.laws.broken_ties_are_found.Goals as goal

pub returns-clause-found : goal.returns-clause-found
returns-clause-found c = found_is_broken

pub returns-clause-none : goal.returns-clause-none
returns-clause-none c = broken_iff
