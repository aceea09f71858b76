use Rattle.ov_sync.proofs.KeyedLaws.{is_changed-difference, difference_ascends}
use Rattle.ov_sync.proofs.laws.each_changed_key_is_told_once.Goals as goal

pub returns-clause-exactly : goal.returns-clause-exactly
returns-clause-exactly g c = is_changed-difference g.V.PartialEq.eq g.met.K.Ord.total c.requires.keys c.requires.values

pub returns-clause-ascending : goal.returns-clause-ascending
returns-clause-ascending g c = difference_ascends g.V.PartialEq.eq g.met.K.Ord.total c.requires.keys c.requires.values
