use Rattle.std.proofs.Common.{List, length, arith, ◌∙◌, ap, subst}
use Rattle.control_node.specs.Ends.{Ends, plan_of, posts_of}
use Rattle.control_node.specs.Planning.{ArePlanned}
use Rattle.control_node.specs.Wanting.{kind}
use Rattle.control_node.specs.declared.ends.AgentEnd.{AgentEnd}
use Rattle.control_node.specs.declared.ends.PeerEnd.{PeerEnd}
use Rattle.control_node.proofs.Kept.{ends_kept, ids_of, if_ok, long_kept, plan_kept}
use Rattle.control_node.proofs.Passing.{are_plans, plans_seen}
use Rattle.control_node.proofs.Planned.{sessions_of}
use Rattle.control_node.proofs.ends.ControlEndsEnds.plan.Goals as goal
use Rattle.node_core.proofs.Lists.{written}

pub invariant_of-self : goal.invariant_of-self
invariant_of-self c =
    let inside = c.self.inside in
    let peers = written inside.peers.len c.plan_marked.new.peers inside.peers.items
    (omega (arith, inside.peers.ok.0, c.plan_marked.auto.peers, ap length c.deref_mut.ensures.value)) in
    let agents = written inside.agents.len c.plan_marked.new.agents inside.agents.items
    (omega (arith, inside.agents.ok.0, c.plan_marked.auto.agents, ap length c.deref_mut-2.ensures.value)) in
    rw (peers, agents) (record {
      tracked = c.plan_marked.ensures.tracked;
      ends = ends_kept inside.me inside.asn inside.feed inside.peers.items c.plan_marked.new.peers
          inside.agents.items c.plan_marked.new.agents inside.tables
          (c.plan_marked.ensures.sessions ∙ ap sessions_of c.deref_mut.ensures.value)
          (c.plan_marked.ensures.ids ∙ ap ids_of c.deref_mut-2.ensures.value) c.self.invariant.ends c.plan_marked.ensures.agents;
    })

pub returns-clause-kept : goal.returns-clause-kept
returns-clause-kept c =
    let inside = c.self.inside in
    let peers = written inside.peers.len c.plan_marked.new.peers inside.peers.items
    (omega (arith, inside.peers.ok.0, c.plan_marked.auto.peers, ap length c.deref_mut.ensures.value)) in
    let agents = written inside.agents.len c.plan_marked.new.agents inside.agents.items
    (omega (arith, inside.agents.ok.0, c.plan_marked.auto.agents, ap length c.deref_mut-2.ensures.value)) in
    (λ i. kind (plan_of inside.me inside.asn (peers i) (agents i)))
    ∙ ap kind (plan_kept inside.me inside.asn inside.feed inside.peers.items c.plan_marked.new.peers inside.agents.items
    c.plan_marked.new.agents inside.tables (c.plan_marked.ensures.sessions ∙ ap sessions_of c.deref_mut.ensures.value)
    (c.plan_marked.ensures.ids ∙ ap ids_of c.deref_mut-2.ensures.value))
    ∙ ap (λ (e : Ends). kind e.plan) c.self.view_is

pub returns-clause-stays : goal.returns-clause-stays
returns-clause-stays c =
    let inside = c.self.inside in
    let peers = written inside.peers.len c.plan_marked.new.peers inside.peers.items
    (omega (arith, inside.peers.ok.0, c.plan_marked.auto.peers, ap length c.deref_mut.ensures.value)) in
    let agents = written inside.agents.len c.plan_marked.new.agents inside.agents.items
    (omega (arith, inside.agents.ok.0, c.plan_marked.auto.agents, ap length c.deref_mut-2.ensures.value)) in
    (λ i. plan_of inside.me inside.asn (peers i) (agents i))
    ∙ plan_kept inside.me inside.asn inside.feed inside.peers.items c.plan_marked.new.peers inside.agents.items
    c.plan_marked.new.agents inside.tables (c.plan_marked.ensures.sessions ∙ ap sessions_of c.deref_mut.ensures.value)
    (c.plan_marked.ensures.ids ∙ ap ids_of c.deref_mut-2.ensures.value)
    ∙ ap (λ (e : Ends). e.plan) c.self.view_is

pub returns-clause-long : goal.returns-clause-long
returns-clause-long c =
    let inside = c.self.inside in
    let peers = written inside.peers.len c.plan_marked.new.peers inside.peers.items
    (omega (arith, inside.peers.ok.0, c.plan_marked.auto.peers, ap length c.deref_mut.ensures.value)) in
    let agents = written inside.agents.len c.plan_marked.new.agents inside.agents.items
    (omega (arith, inside.agents.ok.0, c.plan_marked.auto.agents, ap length c.deref_mut-2.ensures.value)) in
    (λ i. length (posts_of inside.feed.state (peers i) (agents i) inside.tables))
    ∙ long_kept inside.me inside.asn inside.feed inside.peers.items c.plan_marked.new.peers inside.agents.items
    c.plan_marked.new.agents inside.tables (c.plan_marked.ensures.sessions ∙ ap sessions_of c.deref_mut.ensures.value)
    (c.plan_marked.ensures.ids ∙ ap ids_of c.deref_mut-2.ensures.value)
    ∙ ap (λ (e : Ends). length e.posts) c.self.view_is

pub returns-clause-plans : goal.returns-clause-plans
returns-clause-plans c =
    let inside = c.self.inside in
    let peers = written inside.peers.len c.plan_marked.new.peers inside.peers.items
    (omega (arith, inside.peers.ok.0, c.plan_marked.auto.peers, ap length c.deref_mut.ensures.value)) in
    let agents = written inside.agents.len c.plan_marked.new.agents inside.agents.items
    (omega (arith, inside.agents.ok.0, c.plan_marked.auto.agents, ap length c.deref_mut-2.ensures.value)) in
    if_ok c.plan_marked.result (λ plans. ArePlanned inside.tables c.deref_mut.result.now c.plan_marked.new.peers c.deref_mut-2.result.now
    c.plan_marked.new.agents plans.items) _
    (λ plans told.
    plans_seen inside.feed.state inside.tables _ c.plan_marked.new.peers _ c.plan_marked.new.agents plans.items
    _ c.args.self.now c.self.view_is peers agents
    (are_plans inside.me inside.asn inside.feed inside.peers.items c.plan_marked.new.peers inside.agents.items
    c.plan_marked.new.agents inside.tables plans.items c.self.invariant.ends
    (subst (λ (l : List PeerEnd).
    ArePlanned inside.tables l c.plan_marked.new.peers inside.agents.items c.plan_marked.new.agents plans.items)
    c.deref_mut.ensures.value
    (subst (λ (l : List AgentEnd).
    ArePlanned inside.tables c.deref_mut.result.now c.plan_marked.new.peers l c.plan_marked.new.agents plans.items)
    c.deref_mut-2.ensures.value told))))
    c.plan_marked.ensures.told
