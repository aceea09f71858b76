use Rattle.std.proofs.Common.{◌≡◌, ◌+◌, ◌<◌, suc, length, arith, sym, ◌∙◌, ap}
use Rattle.std.specs.FinMap.{empty}
use Rattle.bgp_session.specs.declared.event.State.{State}
use Rattle.item_wire.specs.declared.event.ItemState.{ItemState}
use Rattle.node_core.specs.Resting.{end_at}
use Rattle.node_core.specs.Beginning as item
use Rattle.node_core.specs.NodeModel.Paths.{Told}
use Rattle.node_core.specs.NodeModel.Step.{Post, post}
use Rattle.node_routes.specs.Beginning as route
use Rattle.control_node.specs.Ends.{Ends}
use Rattle.control_node.specs.declared.ends.AgentEnd.{AgentEnd}
use Rattle.control_node.specs.declared.ends.PeerEnd.{PeerEnd}
use Rattle.control_node.proofs.Posts.{post-agent, post-peer, posts-length, seated-length}
use Rattle.control_node.proofs.ends.ControlEndsEnds.state.Goals as goal

pub index-requires-in-Agent : goal.index-requires-in-Agent
index-requires-in-Agent c =
    let inside = c.self.inside in
    let long = posts-length inside.feed.state inside.peers.items inside.agents.items inside.tables in
    let seen = ap (λ (v : Ends). length v.posts) c.self.view_is in
    omega (arith, long, seen, c.in-Agent.ensures, c.requires, c.len.ensures, inside.peers.ok.0, inside.agents.ok.0)

pub returns-in-Peer : goal.returns-in-Peer
returns-in-Peer c =
    let inside = c.self.inside in let end = c.index.result.now in let i = c.in-Peer.place in
    let lt : i < length inside.peers.items =
    omega (arith, c.in-Peer.ensures.1, c.len.ensures, inside.peers.ok.0) in
    c.peer_end.ensures
    ∙ ap (λ (s : State). end_at (route.phase_of s)) c.state-in-Peer.ensures
    ∙ ap (λ (e : PeerEnd). end_at (route.phase_of e.session.state)) c.index.ensures
    ∙ ap (λ (p : Post). end_at p.phase)
    (sym (post-peer inside.feed.state inside.peers.items inside.agents.items inside.tables i end lt))
    ∙ (λ j. end_at (post (c.self.view_is j).posts (sym c.in-Peer.ensures.0 j)).phase)

pub returns-in-Agent : goal.returns-in-Agent
returns-in-Agent c =
    let inside = c.self.inside in let end = c.index-in-Agent.result.now in let i = c.in-Agent.place in
    let none : Told = record { session = 0; address = inside.me.address; map = empty } in
    let long = posts-length inside.feed.state inside.peers.items inside.agents.items inside.tables in
    let seen = ap (λ (v : Ends). length v.posts) c.self.view_is in
    let held = seated-length inside.tables.agents inside.agents.items (1 + length inside.peers.items)
    c.self.invariant.ends.agents_held in
    let at : c.args.session ≡ suc (length inside.peers.items + i) =
    omega (arith, c.in-Agent.ensures, c.len.ensures, inside.peers.ok.0) in
    let lt : i < length inside.agents.items = omega (arith, long, seen, c.requires, at) in
    let known : i < length inside.tables.agents = omega (arith, held, lt) in
    c.item_end-in-Agent.ensures
    ∙ ap (λ (s : ItemState). end_at (item.phase_of s)) c.state-in-Agent.ensures
    ∙ ap (λ (e : AgentEnd). end_at (item.phase_of e.session.state)) c.index-in-Agent.ensures
    ∙ ap (λ (p : Post). end_at p.phase)
    (sym (post-agent inside.feed.state inside.peers.items inside.agents.items inside.tables i end none lt known))
    ∙ (λ j. end_at (post (c.self.view_is j).posts (sym at j)).phase)
