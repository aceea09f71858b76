use Rattle.reach_plain.proofs.Once.{passed_once}
use Rattle.reach_plain.proofs.laws.services_are_passed_once.Goals as goal

pub returns : goal.returns
returns c = passed_once
