use Rattle.ov_sync.proofs.KeyedLaws.{after-difference}
use Rattle.ov_sync.proofs.laws.a_difference_leads.Goals as goal

pub returns : goal.returns
returns g c = after-difference g.V.PartialEq.eq g.met.K.Ord.total c.requires.values c.requires.keys
