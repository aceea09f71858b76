use Rattle.schedule_script.proofs.Growing.{joined_grows}
use Rattle.schedule_script.proofs.laws.ties_only_grow.Goals as goal

pub returns : goal.returns
returns c = joined_grows
