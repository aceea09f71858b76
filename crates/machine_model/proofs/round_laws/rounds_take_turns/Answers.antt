use Rattle.machine_model.proofs.Turns.{rounds_take_turns}
use Rattle.machine_model.proofs.round_laws.rounds_take_turns.Goals as goal

pub returns : goal.returns
returns c = rounds_take_turns
