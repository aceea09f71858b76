use Rattle.std.proofs.Common.{◌+◌, ◌∙◌, ap, subst, sym, set, suc, get_or}
use Rattle.std.specs.FinMap.{empty}
use Rattle.node_core.specs.NodeModel.Paths.{Told}
use Rattle.node_core.specs.NodeModel.Step.{nothing}
use Rattle.control_node.specs.Ends.{Ends, IsAgentEnd, closed_agent, posts_of}
use Rattle.control_node.specs.Planning.{agent_sends}
use Rattle.control_node.specs.declared.ends.AgentEnd.{AgentEnd}
use Rattle.control_node.specs.declared.ends.PeerEnd.{PeerEnd}
use Rattle.control_node.proofs.Closed.{agent-closed, closed_is}
use Rattle.control_node.proofs.Keeping.{all-at, among, ends-agent, many, plan-agent, stays-without}
use Rattle.control_node.proofs.Silent.{tracks-gone}
use Rattle.control_node.proofs.ends.ControlEnds.close_agent.Goals as goal

pub invariant_of-self : goal.invariant_of-self
invariant_of-self c =
    let inside = c.self.inside in
    let e = c.index_mut.result.now in
    let lt = among (λ (e : AgentEnd). e.id) inside.agents.items c.args.self.now.plan.agents c.args.place (ap (λ (v : Ends). v.plan.agents) c.self.view_is) c.requires.among in
    let is = all-at IsAgentEnd inside.agents.items c.args.place e c.self.invariant.ends.agent_ends lt in
    let closed = c.shut_agent.ensures ∙ ap closed_agent c.index_mut.ensures.value in
    let n = many (λ (e : PeerEnd). e.session.peer) inside.peers.items c.args.self.now.plan.peers (ap (λ (v : Ends). v.plan.peers) c.self.view_is) in
    let at = c.requires.session ∙ ap (λ n. suc (n + c.args.place)) n in
    let stays = rw (← c.lose_agent.ensures.tables) at (stays-without inside.tables c.args.session) in
    record {
      ends = ends-agent inside.me inside.asn inside.feed inside.peers.items inside.agents.items inside.tables c.lose_agent.new.tables c.self.invariant.ends stays c.args.place c.shut_agent.new.end e lt
          (ap (λ (e : AgentEnd). e.id) closed) (subst IsAgentEnd (sym closed) (closed_is (get_or inside.agents.items c.args.place e) is));
      tracked = tracks-gone inside.tables inside.peers.items inside.agents.items c.self.invariant.ends.peers_held c.self.invariant.ends.agents_held
          inside.dirty c.lose_agent.new.dirty c.self.invariant.tracked c.lose_agent.ensures.kept c.args.session c.args.place c.shut_agent.new.end
          c.lose_agent.new.tables at lt (ap agent_sends closed) c.lose_agent.ensures.tables c.lose_agent.ensures.silent;
    }

pub returns-clause-plan : goal.returns-clause-plan
returns-clause-plan c =
    let inside = c.self.inside in
    let e = c.index_mut.result.now in
    let same = ap (λ (e : AgentEnd). e.id) (c.shut_agent.ensures ∙ ap closed_agent c.index_mut.ensures.value) in
    plan-agent inside.me inside.asn inside.peers.items inside.agents.items c.args.place c.shut_agent.new.end e same
    ∙ ap (λ (v : Ends). v.plan) c.self.view_is

pub returns-clause-closed : goal.returns-clause-closed
returns-clause-closed c =
    let inside = c.self.inside in
    let lt = among (λ (e : AgentEnd). e.id) inside.agents.items c.args.self.now.plan.agents c.args.place (ap (λ (v : Ends). v.plan.agents) c.self.view_is) c.requires.among in
    let n = many (λ (e : PeerEnd). e.session.peer) inside.peers.items c.args.self.now.plan.peers (ap (λ (v : Ends). v.plan.peers) c.self.view_is) in
    let d : Told = record { session = 0; address = inside.me.address; map = empty } in
    (λ i. posts_of inside.feed.state inside.peers.items (set inside.agents.items c.args.place (c.shut_agent.ensures i)) (c.lose_agent.ensures.tables i))
    ∙ agent-closed inside.feed.state inside.peers.items inside.agents.items inside.tables c.self.invariant.ends.peers_held c.self.invariant.ends.agents_held c.args.session c.args.place c.index_mut.result.now d (c.requires.session ∙ ap (λ n. suc (n + c.args.place)) n) lt
    ∙ ap (λ (v : Ends). set v.posts c.args.session nothing) c.self.view_is
