use Rattle.ov_types.proofs.Blocks.{within_is}
use Rattle.ov_types.proofs.prefix.Prefix.within.Goals as goal

pub returns : goal.returns
returns c = within_is c.args.self.now c.args.other.now c.is_inside.result (cc)
