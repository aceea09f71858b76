use Rattle.inspect.proofs.Requests.{commands_name_files}
use Rattle.inspect.proofs.laws.commands_name_files.Goals as goal

pub returns : goal.returns
returns c = commands_name_files
