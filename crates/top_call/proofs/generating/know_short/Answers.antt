use Rattle.top_call.proofs.Summed.{schedules_are_short}
use Rattle.top_call.proofs.generating.know_short.Goals as goal

pub returns : goal.returns
returns c = schedules_are_short c.args.n
