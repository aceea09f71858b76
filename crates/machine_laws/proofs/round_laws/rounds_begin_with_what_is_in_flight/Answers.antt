use Rattle.machine_laws.proofs.Rounding.{dues_are}
use Rattle.machine_laws.proofs.round_laws.rounds_begin_with_what_is_in_flight.Goals as goal

pub returns : goal.returns
returns c = dues_are
