use Rattle.ov_sync.proofs.ByKeys.{set_by_keys, told_by_keys}
use Rattle.ov_sync.proofs.laws.telling_the_keys_that_may_differ_tells_all.Goals as goal

pub returns-clause-changes : goal.returns-clause-changes
returns-clause-changes g c = told_by_keys g.V.PartialEq.eq g.met.K.Ord.total c.requires.keys c.requires.values

pub returns-clause-sent : goal.returns-clause-sent
returns-clause-sent g c = set_by_keys g.V.PartialEq.eq g.met.K.Ord.total c.requires.keys c.requires.values
