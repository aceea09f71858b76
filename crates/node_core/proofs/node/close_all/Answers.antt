use Rattle.std.proofs.Common.{length, arith}
use Rattle.node_core.proofs.Resting.{all_closed}
use Rattle.node_core.proofs.node.close_all.Goals as goal

pub returns-clause-posts : goal.returns-clause-posts
returns-clause-posts g c =
    all_closed (g.E.Ends.posts c.loop-session.ends) (length (g.E.Ends.posts c.args.ends.now))
    c.loop-session.invariant.long
    (λ i lt. c.loop-session.invariant.closed i
    (omega (arith, lt, c.loop-session-test.false, c.sessions-session-end.ensures)))
