use Rattle.rt_constrain.proofs.Asks.{asked_ascends, asked_is_for, for_is_asked}
use Rattle.rt_constrain.proofs.laws.the_imports_of_what_is_needed_are_asked.Goals as goal

pub returns-clause-exactly : goal.returns-clause-exactly
returns-clause-exactly c h a = (asked_is_for h a, for_is_asked h a)

pub returns-clause-ascending : goal.returns-clause-ascending
returns-clause-ascending c = asked_ascends
