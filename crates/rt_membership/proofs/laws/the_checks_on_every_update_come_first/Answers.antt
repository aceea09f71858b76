use Rattle.rt_membership.proofs.Reading.{fails, fails_so}
use Rattle.rt_membership.proofs.laws.the_checks_on_every_update_come_first.Goals as goal

pub returns-clause-first : goal.returns-clause-first
returns-clause-first c = fails

pub returns-clause-others : goal.returns-clause-others
returns-clause-others c = fails_so
