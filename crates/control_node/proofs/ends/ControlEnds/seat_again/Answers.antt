use Rattle.std.proofs.Common.{◌+◌, ◌∙◌, ap, subst, suc}
use Rattle.node_core.specs.NodeModel.Paths.{Holdings}
use Rattle.vpn_tables.specs.Changes.{without}
use Rattle.vpn_tables.specs.Listing.{told_in}
use Rattle.vpn_tables.specs.NodeLaws.Quiet.{PublishesNothing}
use Rattle.control_node.specs.Ends.{Ends}
use Rattle.control_node.specs.declared.ends.AgentEnd.{AgentEnd}
use Rattle.control_node.specs.declared.ends.PeerEnd.{PeerEnd}
use Rattle.control_node.proofs.Keeping.{among, many}
use Rattle.control_node.proofs.Seated.{again_are, again_seen, seen_again}
use Rattle.control_node.proofs.Silent.{tracks-again}
use Rattle.control_node.proofs.ends.ControlEnds.seat_again.Goals as goal

pub invariant_of-self-2 : goal.invariant_of-self-2
invariant_of-self-2 c =
    let inside = c.self.inside in
    let lt = among (λ (e : AgentEnd). e.id) inside.agents.items c.args.self.now.plan.agents c.args.place (ap (λ (v : Ends). v.plan.agents) c.self.view_is) c.requires.among in
    let n = many (λ (e : PeerEnd). e.session.peer) inside.peers.items c.args.self.now.plan.peers (ap (λ (v : Ends). v.plan.peers) c.self.view_is) in
    let at = c.requires.session ∙ ap (λ n. suc (n + c.args.place)) n in
    let by = c.lose_agent.ensures.tables ∙ ap (λ (h : Holdings). without h c.args.session) c.in_ok-set_agent.ensures.ok in
    record {
      ends = again_are inside.me inside.asn inside.feed inside.peers.items inside.agents.items inside.tables c.self.invariant.ends c.args.agent.now
          c.args.session c.args.place c.hand_over.new.end c.lose_agent.new.tables c.hand_over.ensures by at lt;
      tracked = tracks-again inside.tables inside.peers.items inside.agents.items c.self.invariant.ends.peers_held c.self.invariant.ends.agents_held
          inside.dirty c.lose_agent.new.dirty c.self.invariant.tracked c.lose_agent.ensures.kept c.args.session c.args.place c.args.agent.now c.hand_over.new.end
          c.lose_agent.new.tables at lt c.hand_over.ensures by
          (λ all. subst (λ (h : Holdings). PublishesNothing (told_in h.agents c.args.session).map) c.in_ok-set_agent.ensures.ok (c.lose_agent.ensures.silent all));
    }

pub returns-clause-ok : goal.returns-clause-ok
returns-clause-ok c =
    let inside = c.self.inside in
    let lt = among (λ (e : AgentEnd). e.id) inside.agents.items c.args.self.now.plan.agents c.args.place (ap (λ (v : Ends). v.plan.agents) c.self.view_is) c.requires.among in
    let n = many (λ (e : PeerEnd). e.session.peer) inside.peers.items c.args.self.now.plan.peers (ap (λ (v : Ends). v.plan.peers) c.self.view_is) in
    let at = c.requires.session ∙ ap (λ n. suc (n + c.args.place)) n in
    let by = c.lose_agent.ensures.tables ∙ ap (λ (h : Holdings). without h c.args.session) c.in_ok-set_agent.ensures.ok in
    again_seen inside.me inside.asn inside.feed inside.peers.items inside.agents.items inside.tables c.self.invariant.ends c.args.agent.now
    c.args.session c.args.place c.hand_over.new.end c.lose_agent.new.tables c.hand_over.ensures by at lt
    ∙ ap (seen_again c.args.session c.args.place c.args.agent.now) c.self.view_is
