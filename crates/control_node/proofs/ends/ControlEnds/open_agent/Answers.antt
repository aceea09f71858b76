use Rattle.std.proofs.Common.{◌≡◌, ◌+◌, ◌∙◌, ap, arith, length, subst, sym, get_or, set, suc, None, []}
use Rattle.ov_link.specs.declared.step.Input.TheVariants as input
use Rattle.node_core.specs.NodeModel.Step.{post}
use Rattle.vpn_tables.specs.Listing.{told_in}
use Rattle.control_node.specs.Begun.{IsBegun}
use Rattle.control_node.specs.Ends.{Ends, IsAgentEnd, opened_agent, posts_of}
use Rattle.control_node.specs.Wanting.{is_idle}
use Rattle.control_node.specs.declared.ends.AgentEnd.{AgentEnd}
use Rattle.control_node.specs.declared.ends.PeerEnd.{PeerEnd}
use Rattle.control_node.proofs.Applied.{stays-same}
use Rattle.control_node.proofs.Keeping.{all-at, among, ends-agent, many, plan-agent}
use Rattle.control_node.proofs.Starting.{agent-opened, opened_is}
use Rattle.control_node.proofs.Tracking.{marked_more, tracks-agent}
use Rattle.control_node.proofs.Turning.{agent_is_idle}
use Rattle.control_node.proofs.ends.ControlEnds.open_agent.Goals as goal

pub greet_agent-requires : goal.greet_agent-requires
greet_agent-requires c =
    let inside = c.self.inside in
    let lt = among (λ (e : AgentEnd). e.id) inside.agents.items c.args.self.now.plan.agents c.args.place (ap (λ (v : Ends). v.plan.agents) c.self.view_is) c.requires.among in
    let n = many (λ (e : PeerEnd). e.session.peer) inside.peers.items c.args.self.now.plan.peers (ap (λ (v : Ends). v.plan.peers) c.self.view_is) in
    let at = c.requires.session ∙ ap (λ n. suc (n + c.args.place)) n in
    let idle = ap (λ (v : Ends). is_idle (post v.posts c.args.session).phase) c.self.view_is ∙ c.requires.idle in
    record {
      idle = ap (λ (e : AgentEnd). e.session.state) c.index_mut-end.ensures.value
          ∙ agent_is_idle inside.me inside.asn inside.feed inside.peers.items inside.agents.items inside.tables c.self.invariant.ends c.args.session c.args.place c.index_mut-end.result.now at lt idle;
    }

pub invariant_of-self : goal.invariant_of-self
invariant_of-self c =
    let inside = c.self.inside in
    let e = c.index_mut-end.result.now in
    let lt = among (λ (e : AgentEnd). e.id) inside.agents.items c.args.self.now.plan.agents c.args.place (ap (λ (v : Ends). v.plan.agents) c.self.view_is) c.requires.among in
    let opened = c.in_err-replies.ensures.opened ∙ ap opened_agent c.index_mut-end.ensures.value in
    let is = all-at IsAgentEnd inside.agents.items c.args.place e c.self.invariant.ends.agent_ends lt in
    let n = many (λ (e : PeerEnd). e.session.peer) inside.peers.items c.args.self.now.plan.peers (ap (λ (v : Ends). v.plan.peers) c.self.view_is) in
    let at : 1 + length inside.peers.items + c.args.place ≡ c.args.session = omega (arith, n, c.requires.session) in
    let address = ap (λ s. (told_in inside.tables.agents s).address) at ∙ sym c.address_of.ensures in
    record {
      ends = ends-agent inside.me inside.asn inside.feed inside.peers.items inside.agents.items inside.tables inside.tables c.self.invariant.ends (stays-same inside.tables)
          c.args.place c.greet_agent.new.end e lt
          (ap (λ (e : AgentEnd). e.id) opened) (subst IsAgentEnd (sym opened) (opened_is (get_or inside.agents.items c.args.place e) is));
      tracked = tracks-agent inside.dirty c.add_address.new.self inside.tables inside.tables inside.peers.items inside.agents.items
          c.self.invariant.tracked (marked_more _ _ inside.tables c.add_address.ensures.within) c.args.place c.greet_agent.new.end
          (λ all. λ sends none k clean.
          absurd (c.add_address.ensures.marked all (told_in inside.tables.agents (1 + length inside.peers.items + c.args.place)) address k clean));
    }

pub returns-in_err-replies-clause-plan : goal.returns-in_err-replies-clause-plan
returns-in_err-replies-clause-plan c =
    let inside = c.self.inside in
    let same = ap (λ (e : AgentEnd). e.id) (c.in_err-replies.ensures.opened ∙ ap opened_agent c.index_mut-end.ensures.value) in
    plan-agent inside.me inside.asn inside.peers.items inside.agents.items c.args.place c.greet_agent.new.end c.index_mut-end.result.now same ∙ ap (λ (v : Ends). v.plan) c.self.view_is

pub invariant_of-self-2 : goal.invariant_of-self-2
invariant_of-self-2 c =
    let inside = c.self.inside in
    let e = c.index_mut-end.result.now in
    let lt = among (λ (e : AgentEnd). e.id) inside.agents.items c.args.self.now.plan.agents c.args.place (ap (λ (v : Ends). v.plan.agents) c.self.view_is) c.requires.among in
    let opened = c.in_ok-replies.ensures.opened ∙ ap opened_agent c.index_mut-end.ensures.value in
    let is = all-at IsAgentEnd inside.agents.items c.args.place e c.self.invariant.ends.agent_ends lt in
    let n = many (λ (e : PeerEnd). e.session.peer) inside.peers.items c.args.self.now.plan.peers (ap (λ (v : Ends). v.plan.peers) c.self.view_is) in
    let at : 1 + length inside.peers.items + c.args.place ≡ c.args.session = omega (arith, n, c.requires.session) in
    let address = ap (λ s. (told_in inside.tables.agents s).address) at ∙ sym c.address_of.ensures in
    record {
      ends = ends-agent inside.me inside.asn inside.feed inside.peers.items inside.agents.items inside.tables inside.tables c.self.invariant.ends (stays-same inside.tables)
          c.args.place c.greet_agent.new.end e lt
          (ap (λ (e : AgentEnd). e.id) opened) (subst IsAgentEnd (sym opened) (opened_is (get_or inside.agents.items c.args.place e) is));
      tracked = tracks-agent inside.dirty c.add_address.new.self inside.tables inside.tables inside.peers.items inside.agents.items
          c.self.invariant.tracked (marked_more _ _ inside.tables c.add_address.ensures.within) c.args.place c.greet_agent.new.end
          (λ all. λ sends none k clean.
          absurd (c.add_address.ensures.marked all (told_in inside.tables.agents (1 + length inside.peers.items + c.args.place)) address k clean));
    }

pub returns-clause-plan : goal.returns-clause-plan
returns-clause-plan c =
    let inside = c.self.inside in
    let same = ap (λ (e : AgentEnd). e.id) (c.in_ok-replies.ensures.opened ∙ ap opened_agent c.index_mut-end.ensures.value) in
    plan-agent inside.me inside.asn inside.peers.items inside.agents.items c.args.place c.greet_agent.new.end c.index_mut-end.result.now same ∙ ap (λ (v : Ends). v.plan) c.self.view_is

pub returns-clause-begun : goal.returns-clause-begun
returns-clause-begun c =
    let inside = c.self.inside in
    let s = c.args.session in
    let lt = among (λ (e : AgentEnd). e.id) inside.agents.items c.args.self.now.plan.agents c.args.place (ap (λ (v : Ends). v.plan.agents) c.self.view_is) c.requires.among in
    let n = many (λ (e : PeerEnd). e.session.peer) inside.peers.items c.args.self.now.plan.peers (ap (λ (v : Ends). v.plan.peers) c.self.view_is) in
    let at = c.requires.session ∙ ap (λ n. suc (n + c.args.place)) n in
    let posts = posts_of inside.feed.state inside.peers.items (set inside.agents.items c.args.place c.greet_agent.new.end) inside.tables in
    subst (λ (v : Ends). IsBegun v.plan v.posts s (input.Opened s) c.in_ok-replies.replies None [] posts) c.self.view_is (
    agent-opened inside.me inside.asn inside.feed inside.peers.items inside.agents.items inside.tables c.self.invariant.ends s c.args.place
    c.greet_agent.new.end c.index_mut-end.result.now c.in_ok-replies.replies at lt
    (c.in_ok-replies.ensures.opened ∙ ap opened_agent c.index_mut-end.ensures.value) c.in_ok-replies.ensures.hello)
