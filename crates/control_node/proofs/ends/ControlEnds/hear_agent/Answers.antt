use Rattle.std.proofs.Common.{◌+◌, ◌∙◌, ap, subst, sym, set, suc, drop}
use Rattle.ov_link.specs.declared.step.Input.TheVariants as input
use Rattle.control_node.specs.Begun.{IsHeard}
use Rattle.control_node.specs.Ends.{Ends, IsAgentEnd, posts_of}
use Rattle.control_node.specs.Planning.{agent_sends}
use Rattle.control_node.specs.Taking.{ItemsHeard}
use Rattle.control_node.specs.declared.ends.AgentEnd.{AgentEnd}
use Rattle.control_node.specs.declared.ends.PeerEnd.{PeerEnd}
use Rattle.control_node.proofs.Keeping.{all-at, among, ends-agent, many, plan-agent}
use Rattle.control_node.proofs.Starting.{agent-heard, heard_is}
use Rattle.control_node.proofs.Tracking.{tracks-heard-agent}
use Rattle.control_node.proofs.ends.ControlEnds.hear_agent.Goals as goal

pub invariant_of-self : goal.invariant_of-self
invariant_of-self c =
    let inside = c.self.inside in
    let e = c.index_mut-end.result.now in
    let value = c.index_mut-end.ensures.value in
    let heard = c.in_err-heard.ensures in
    let lt = among (λ (e : AgentEnd). e.id) inside.agents.items c.args.self.now.plan.agents c.args.place (ap (λ (v : Ends). v.plan.agents) c.self.view_is) c.requires.among in
    let is = subst IsAgentEnd (sym value) (all-at IsAgentEnd inside.agents.items c.args.place e c.self.invariant.ends.agent_ends lt) in
    record {
      ends = ends-agent inside.me inside.asn inside.feed inside.peers.items inside.agents.items inside.tables c.hear_from_agent.new.tables c.self.invariant.ends heard.stays
          c.args.place c.hear_from_agent.new.end e lt
          (heard.id ∙ ap (λ (e : AgentEnd). e.id) value) (heard_is e c.hear_from_agent.new.end is heard.id heard.sent heard.peer heard.from);
      tracked = tracks-heard-agent inside.dirty c.hear_from_agent.new.dirty inside.tables c.hear_from_agent.new.tables inside.peers.items inside.agents.items
          c.self.invariant.tracked heard.marked c.args.place c.hear_from_agent.new.end e lt (heard.sent ∙ ap (λ (e : AgentEnd). e.sent) value)
          (λ all. sym (ap agent_sends value) ∙ heard.sends all);
    }

pub returns-in_err-heard-clause-plan : goal.returns-in_err-heard-clause-plan
returns-in_err-heard-clause-plan c =
    let inside = c.self.inside in
    let same = c.in_err-heard.ensures.id ∙ ap (λ (e : AgentEnd). e.id) c.index_mut-end.ensures.value in
    plan-agent inside.me inside.asn inside.peers.items inside.agents.items c.args.place c.hear_from_agent.new.end c.index_mut-end.result.now same ∙ ap (λ (v : Ends). v.plan) c.self.view_is

pub invariant_of-self-2 : goal.invariant_of-self-2
invariant_of-self-2 c =
    let inside = c.self.inside in
    let e = c.index_mut-end.result.now in
    let value = c.index_mut-end.ensures.value in
    let heard = c.in_ok-heard.ensures in
    let lt = among (λ (e : AgentEnd). e.id) inside.agents.items c.args.self.now.plan.agents c.args.place (ap (λ (v : Ends). v.plan.agents) c.self.view_is) c.requires.among in
    let is = subst IsAgentEnd (sym value) (all-at IsAgentEnd inside.agents.items c.args.place e c.self.invariant.ends.agent_ends lt) in
    record {
      ends = ends-agent inside.me inside.asn inside.feed inside.peers.items inside.agents.items inside.tables c.hear_from_agent.new.tables c.self.invariant.ends heard.stays
          c.args.place c.hear_from_agent.new.end e lt
          (heard.id ∙ ap (λ (e : AgentEnd). e.id) value) (heard_is e c.hear_from_agent.new.end is heard.id heard.sent heard.peer heard.from);
      tracked = tracks-heard-agent inside.dirty c.hear_from_agent.new.dirty inside.tables c.hear_from_agent.new.tables inside.peers.items inside.agents.items
          c.self.invariant.tracked heard.marked c.args.place c.hear_from_agent.new.end e lt (heard.sent ∙ ap (λ (e : AgentEnd). e.sent) value)
          (λ all. sym (ap agent_sends value) ∙ heard.sends all);
    }

pub returns-clause-plan : goal.returns-clause-plan
returns-clause-plan c =
    let inside = c.self.inside in
    let same = c.in_ok-heard.ensures.id ∙ ap (λ (e : AgentEnd). e.id) c.index_mut-end.ensures.value in
    plan-agent inside.me inside.asn inside.peers.items inside.agents.items c.args.place c.hear_from_agent.new.end c.index_mut-end.result.now same ∙ ap (λ (v : Ends). v.plan) c.self.view_is

pub returns-clause-heard : goal.returns-clause-heard
returns-clause-heard c =
    let inside = c.self.inside in
    let s = c.args.session in
    let i = c.args.place in
    let e = c.hear_from_agent.new.end in
    let w = c.in_ok-heard.heard in
    let rest = drop w.taken c.args.bytes.now in
    let heard = c.in_ok-heard.ensures.heard in
    let cause = c.item_cause.result in
    let lt = among (λ (e : AgentEnd). e.id) inside.agents.items c.args.self.now.plan.agents i (ap (λ (v : Ends). v.plan.agents) c.self.view_is) c.requires.among in
    let n = many (λ (e : PeerEnd). e.session.peer) inside.peers.items c.args.self.now.plan.peers (ap (λ (v : Ends). v.plan.peers) c.self.view_is) in
    let at = c.requires.session ∙ ap (λ n. suc (n + i)) n in
    let sent = c.in_ok-heard.ensures.sent ∙ ap (λ (e : AgentEnd). e.sent) c.index_mut-end.ensures.value in
    let brought = subst (λ (x : AgentEnd). ItemsHeard x.session e.session c.args.bytes.now rest heard.0 w.cause) c.index_mut-end.ensures.value heard.1 in
    let posts = posts_of inside.feed.state inside.peers.items (set inside.agents.items i e) c.hear_from_agent.new.tables in
    subst (λ (v : Ends). IsHeard v.plan v.posts s (input.Bytes s c.args.bytes) c.new.result cause rest posts) c.self.view_is (
    agent-heard inside.me inside.asn inside.feed inside.peers.items inside.agents.items inside.tables c.self.invariant.ends s i e c.index_mut-end.result.now
    c.args.bytes rest heard.0 w.cause cause c.new.result c.hear_from_agent.new.tables at lt sent brought c.item_cause.ensures c.new.ensures heard.2)
