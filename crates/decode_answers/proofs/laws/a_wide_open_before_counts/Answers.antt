use Rattle.std.proofs.Common.{false}
use Rattle.decode_answers.proofs.Standing.{wide_counts}
use Rattle.decode_answers.proofs.laws.a_wide_open_before_counts.Goals as goal

pub returns : goal.returns
returns c = wide_counts false
