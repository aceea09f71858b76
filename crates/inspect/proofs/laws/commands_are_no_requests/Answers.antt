use Rattle.inspect.proofs.Requests.{commands_are_no_requests}
use Rattle.inspect.proofs.laws.commands_are_no_requests.Goals as goal

pub returns : goal.returns
returns c = commands_are_no_requests
