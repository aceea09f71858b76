use Rattle.ov_sync.proofs.KeyedLaws.{difference-itself}
use Rattle.ov_sync.proofs.laws.nothing_new_is_told.Goals as goal

pub returns : goal.returns
returns g c = difference-itself g.V.PartialEq.eq c.requires.values
