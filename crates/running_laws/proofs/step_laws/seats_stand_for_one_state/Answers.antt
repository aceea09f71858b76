use Rattle.running_laws.proofs.OneState.{seats_stand_for_one_state}
use Rattle.running_laws.proofs.Given.{given}
use Rattle.running_laws.proofs.step_laws.seats_stand_for_one_state.Goals as goal

pub returns : goal.returns
returns c = seats_stand_for_one_state given
