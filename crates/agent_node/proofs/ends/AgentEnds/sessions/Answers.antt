use Rattle.std.proofs.Common.{length, arith, ap}
use Rattle.agent_node.specs.Ends.{Ends}
use Rattle.agent_node.proofs.Posts.{posts_long}
use Rattle.agent_node.proofs.ends.AgentEnds.sessions.Goals as goal

pub returns-clause-posts : goal.returns-clause-posts
returns-clause-posts c =
    let long = posts_long c.self.inside.hearings.items c.self.inside.sents.items in
    let seen = ap (λ (e : Ends). length e.posts) c.self.view_is in
    omega (arith, long, seen, c.len.ensures, c.self.inside.hearings.ok)
