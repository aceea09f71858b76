use Rattle.ov_sync.proofs.ByKeys.{set_from}
use Rattle.ov_sync.proofs.laws.one_key_is_set.Goals as goal

pub returns : goal.returns
returns g c = set_from g.met.K.Ord.total c.requires.keys
