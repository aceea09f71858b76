use Rattle.node_core.proofs.Records.{hello_heard}
use Rattle.node_core.proofs.laws.hellos_are_heard.Goals as goal

pub returns-clause-first : goal.returns-clause-first
returns-clause-first c = hello_heard
