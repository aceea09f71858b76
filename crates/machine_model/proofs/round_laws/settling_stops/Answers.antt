use Rattle.machine_model.proofs.Stops.{settle_at_most, settle_quiet}
use Rattle.machine_model.proofs.round_laws.settling_stops.Goals as goal

pub returns-clause-at_most : goal.returns-clause-at_most
returns-clause-at_most c = settle_at_most

pub returns-clause-quiet : goal.returns-clause-quiet
returns-clause-quiet c = settle_quiet
