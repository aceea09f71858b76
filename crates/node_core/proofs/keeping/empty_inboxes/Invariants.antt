use Rattle.std.proofs.Common.{◌≡◌}
use Rattle.node_core.specs.Keeping.{nothing_kept}
use Rattle.node_core.proofs.keeping.empty_inboxes.Given as goal

abbrev pub invariant-loop-session : goal.invariant-loop-session
invariant-loop-session l = l.inboxes.items ≡ nothing_kept l._session
