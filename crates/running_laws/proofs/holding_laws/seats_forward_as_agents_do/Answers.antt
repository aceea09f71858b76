-- Seats forward as agents do.
use Rattle.running_laws.proofs.Written.{forwarders_are}
use Rattle.running_laws.proofs.holding_laws.seats_forward_as_agents_do.Goals as goal

pub returns : goal.returns
returns c = forwarders_are
