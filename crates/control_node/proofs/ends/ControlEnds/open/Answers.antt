use Rattle.std.proofs.Common.{ap, arith, length}
use Rattle.control_node.specs.Ends.{Ends}
use Rattle.control_node.specs.declared.ends.AgentEnd.{AgentEnd}
use Rattle.control_node.proofs.Posts.{posts-length}
use Rattle.control_node.proofs.Keeping.{many}
use Rattle.control_node.proofs.ends.ControlEnds.open.Goals as goal

pub open_agent-requires-clause-among : goal.open_agent-requires-clause-among
open_agent-requires-clause-among c =
    let inside = c.self.inside in
    let agents = many (λ (e : AgentEnd). e.id) inside.agents.items c.args.self.now.plan.agents (ap (λ (v : Ends). v.plan.agents) c.self.view_is) in
    let posts = posts-length inside.feed.state inside.peers.items inside.agents.items inside.tables in
    let seen = ap (λ (v : Ends). length v.posts) c.self.view_is in
    omega (arith, agents, posts, seen, c.requires.known, c.in-Agent.ensures, c.len.ensures, inside.peers.ok.0)
