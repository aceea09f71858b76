use Rattle.schedule_script.proofs.Alike.{joined_both_ways, none_both_ways}
use Rattle.schedule_script.proofs.laws.ties_relate_both_ways.Goals as goal

pub returns-clause-first : goal.returns-clause-first
returns-clause-first c = none_both_ways

pub returns-clause-joined : goal.returns-clause-joined
returns-clause-joined c = joined_both_ways
