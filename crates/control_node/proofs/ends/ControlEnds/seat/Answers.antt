use Rattle.std.proofs.Common.{◌≡◌, ◌+◌, ◌-◌, ◌<◌, OnOk, ap, arith, length, subst, suc}
use Rattle.control_node.specs.Ends.{Ends}
use Rattle.control_node.specs.declared.ends.AgentEnd.{AgentEnd}
use Rattle.control_node.specs.declared.ends.PeerEnd.{PeerEnd}
use Rattle.control_node.proofs.Keeping.{many}
use Rattle.control_node.proofs.Posts.{posts-length}
use Rattle.control_node.proofs.Seated.{seated_again, seated_behind}
use Rattle.control_node.proofs.ends.ControlEnds.seat.Goals as goal

pub returns-then-place-len-clause-ok : goal.returns-then-place-len-clause-ok
returns-then-place-len-clause-ok c =
    let inside = c.self.inside in let now = c.args.self.now in
    let n = many (λ (e : PeerEnd). e.session.peer) inside.peers.items now.plan.peers (ap (λ (v : Ends). v.plan.peers) c.self.view_is) in
    let m = many (λ (e : AgentEnd). e.id) inside.agents.items now.plan.agents (ap (λ (v : Ends). v.plan.agents) c.self.view_is) in
    let posts = posts-length inside.feed.state inside.peers.items inside.agents.items inside.tables in
    let seen = ap (λ (v : Ends). length v.posts) c.self.view_is in
    let place = c.from.result - 1 - c.len.result in
    let at : c.args.session ≡ suc (length now.plan.peers + place) = omega (arith, n, c.from.ensures, c.len.ensures, c.requires.agents, inside.peers.ok.0) in
    let lt : place < length now.plan.agents = omega (arith, m, c.if-place-len.true, c.len-2.ensures, inside.agents.ok.0) in
    let known : c.args.session < length now.posts = omega (arith, at, lt, n, m, posts, seen) in
    subst (λ (w : Ends). OnOk c.seat_again.result (c.seat_again.new.self ≡ w))
    (seated_again now c.args.session c.args.agent.now place at lt known) c.seat_again.ensures.ok

pub returns-else-place-len-clause-ok : goal.returns-else-place-len-clause-ok
returns-else-place-len-clause-ok c =
    let inside = c.self.inside in let now = c.args.self.now in
    let n = many (λ (e : PeerEnd). e.session.peer) inside.peers.items now.plan.peers (ap (λ (v : Ends). v.plan.peers) c.self.view_is) in
    let m = many (λ (e : AgentEnd). e.id) inside.agents.items now.plan.agents (ap (λ (v : Ends). v.plan.agents) c.self.view_is) in
    let posts = posts-length inside.feed.state inside.peers.items inside.agents.items inside.tables in
    let seen = ap (λ (v : Ends). length v.posts) c.self.view_is in
    let at : c.args.session ≡ suc (length now.plan.peers + length now.plan.agents) =
    omega (arith, n, m, c.from.ensures, c.len.ensures, c.len-2.ensures, c.if-place-len.false, c.requires.agents, c.requires.next, inside.peers.ok.0, inside.agents.ok.0) in
    let last : c.args.session ≡ length now.posts = omega (arith, at, n, m, posts, seen) in
    subst (λ (w : Ends). OnOk c.seat_behind.result (c.seat_behind.new.self ≡ w))
    (seated_behind now c.args.session c.args.agent.now at last) c.seat_behind.ensures.ok
