use Rattle.std.proofs.Common.{length, arith, ap}
use Rattle.control_node.specs.Ends.{Ends}
use Rattle.control_node.proofs.Posts.{posts-length}
use Rattle.control_node.proofs.ends.ControlEndsEnds.sessions.Goals as goal

pub returns-clause-posts : goal.returns-clause-posts
returns-clause-posts c =
    let inside = c.self.inside in
    let long = posts-length inside.feed.state inside.peers.items inside.agents.items inside.tables in
    let seen = ap (λ (v : Ends). length v.posts) c.self.view_is in
    omega (arith, long, seen, c.len.ensures, c.len-2.ensures, inside.peers.ok.0, inside.agents.ok.0)
