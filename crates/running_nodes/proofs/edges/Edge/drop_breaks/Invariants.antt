use Rattle.std.proofs.Common.{◌≡◌}
use Rattle.running_nodes.proofs.Cleared.{unbroken_to}
use Rattle.running_nodes.proofs.edges.Edge.drop_breaks.Given as goal

abbrev pub invariant-loop-session : goal.invariant-loop-session
invariant-loop-session l = l.self ≡ unbroken_to l.session l.initial.self
