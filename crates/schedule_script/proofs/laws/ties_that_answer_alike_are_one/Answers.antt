use Rattle.schedule_script.proofs.Alike.{alike_is_one}
use Rattle.schedule_script.proofs.laws.ties_that_answer_alike_are_one.Goals as goal

pub returns : goal.returns
returns c = alike_is_one
