use Rattle.ov_types.proofs.Values.{target_lists}
use Rattle.report.proofs.targets.are_same.Goals as goal

pub returns : goal.returns
returns c = rw c.eq.ensures (target_lists c.args.a.now c.args.b.now)
