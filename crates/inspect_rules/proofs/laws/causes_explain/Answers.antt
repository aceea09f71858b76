use Rattle.inspect_rules.proofs.Explained.{explains}
use Rattle.inspect_rules.proofs.laws.causes_explain.Goals as goal

pub returns : goal.returns
returns g = explains
