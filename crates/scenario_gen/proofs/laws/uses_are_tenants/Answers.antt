use Rattle.scenario_gen.proofs.Numbers.{uses}
use Rattle.scenario_gen.proofs.laws.uses_are_tenants.Goals as goal

pub returns : goal.returns
returns c = uses
