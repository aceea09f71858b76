use Rattle.config_check.proofs.Blocks.{inside_of_within}
use Rattle.config_check.proofs.subnets.is_inside.Goals as goal

pub returns : goal.returns
returns c = inside_of_within c.args.p.now c.args.q.now c.within.result c.within.ensures
