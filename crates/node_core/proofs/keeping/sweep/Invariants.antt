use Rattle.node_core.proofs.Kept.{AreSweptBelow}
use Rattle.node_core.proofs.keeping.sweep.Given as goal

abbrev pub invariant-loop-session : goal.invariant-loop-session
invariant-loop-session g l =
    AreSweptBelow (g.E.Ends.posts l.ends) l.fn.inboxes.items l.inboxes.items l.session
