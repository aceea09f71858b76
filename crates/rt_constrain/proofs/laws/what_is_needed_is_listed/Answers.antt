use Rattle.rt_constrain.proofs.Listed.{listed_is_needed, needed_is_listed, needed_ascends}
use Rattle.rt_constrain.proofs.laws.what_is_needed_is_listed.Goals as goal

pub returns-clause-exactly : goal.returns-clause-exactly
returns-clause-exactly c h i = (listed_is_needed h i, needed_is_listed h i)

pub returns-clause-ascending : goal.returns-clause-ascending
returns-clause-ascending c = needed_ascends
