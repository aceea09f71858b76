use Rattle.machine_model.proofs.Turns.{rounds_are_of_deliveries}
use Rattle.machine_model.proofs.round_laws.rounds_are_of_deliveries.Goals as goal

pub returns : goal.returns
returns c = rounds_are_of_deliveries
