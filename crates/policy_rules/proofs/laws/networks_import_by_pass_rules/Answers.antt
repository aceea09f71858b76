use Rattle.policy_rules.proofs.Relations.{imports_iff}
use Rattle.policy_rules.proofs.laws.networks_import_by_pass_rules.Goals as goal

pub returns : goal.returns
returns c = imports_iff
