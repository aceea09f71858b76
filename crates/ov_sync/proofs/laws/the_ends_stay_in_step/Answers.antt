use Rattle.ov_sync.proofs.KeyedLaws.{in_step-difference}
use Rattle.ov_sync.proofs.laws.the_ends_stay_in_step.Goals as goal

pub returns-clause-sender : goal.returns-clause-sender
returns-clause-sender g c = in_step-difference g.V.PartialEq.eq g.met.K.Ord.total c.requires.keys c.requires.values
