use Rattle.machine_moment_laws.proofs.Promising.{passed_once}
use Rattle.machine_moment_laws.proofs.numbers.each_service_is_passed_once.Goals as goal

pub returns : goal.returns
returns c = passed_once
