use Rattle.node_core.proofs.Records.{change_heard}
use Rattle.node_core.proofs.laws.changes_are_heard.Goals as goal

pub returns-clause-first : goal.returns-clause-first
returns-clause-first c = change_heard
