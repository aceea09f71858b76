use Rattle.running_laws.proofs.HeardInFlight.{heard}
use Rattle.running_laws.proofs.telling_laws.what_is_in_flight_can_be_heard.Goals as goal

pub returns : goal.returns
returns c = heard
