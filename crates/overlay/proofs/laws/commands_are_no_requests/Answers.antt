use Rattle.overlay.proofs.Requests.{commands_are_no_requests}
use Rattle.overlay.proofs.laws.commands_are_no_requests.Goals as goal

pub returns : goal.returns
returns c = commands_are_no_requests
