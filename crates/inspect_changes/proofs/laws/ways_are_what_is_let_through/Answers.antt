use Rattle.inspect_changes.proofs.Exact.{exact, on_one_at_most}
use Rattle.inspect_changes.proofs.laws.ways_are_what_is_let_through.Goals as goal

pub returns-clause-apart : goal.returns-clause-apart
returns-clause-apart c = on_one_at_most

pub returns-clause-exact : goal.returns-clause-exact
returns-clause-exact c = exact
