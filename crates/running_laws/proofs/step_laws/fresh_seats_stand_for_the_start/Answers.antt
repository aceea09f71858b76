use Rattle.running_laws.proofs.Started.{fresh_seats_stand}
use Rattle.running_laws.proofs.Given.{given}
use Rattle.running_laws.proofs.step_laws.fresh_seats_stand_for_the_start.Goals as goal

pub returns : goal.returns
returns c = fresh_seats_stand given
