use Rattle.machine_model.proofs.Deeds.{delivered_told}
use Rattle.machine_model.proofs.event_laws.deliveries_end_with_a_pass.Goals as goal

pub returns : goal.returns
returns c = delivered_told
