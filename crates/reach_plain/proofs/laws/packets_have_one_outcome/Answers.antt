use Rattle.reach_plain.proofs.Becoming.{one_outcome}
use Rattle.reach_plain.proofs.laws.packets_have_one_outcome.Goals as goal

pub returns : goal.returns
returns c = one_outcome
