use Rattle.machine_model.proofs.Turns.{deliveries_take}
use Rattle.machine_model.proofs.round_laws.deliveries_take_what_they_say.Goals as goal

pub returns : goal.returns
returns c = deliveries_take
