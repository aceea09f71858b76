use Rattle.std.proofs.Common.{◌≡◌}
use Rattle.running_nodes.proofs.Cleared.{partly}
use Rattle.running_nodes.proofs.edges.Edge.restart.Given as goal

abbrev pub invariant-loop-session : goal.invariant-loop-session
invariant-loop-session l = l.self ≡ partly l.session l.initial.self
