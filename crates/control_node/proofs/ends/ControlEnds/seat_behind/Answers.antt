use Rattle.std.proofs.Common.{◌≡◌, ◌+◌, ◌++◌, ◌∷◌, ◌∙◌, [], ap, arith, length, suc}
use Rattle.control_node.specs.Ends.{Ends}
use Rattle.control_node.specs.declared.ends.AgentEnd.{AgentEnd}
use Rattle.control_node.specs.declared.ends.PeerEnd.{PeerEnd}
use Rattle.control_node.proofs.Keeping.{many}
use Rattle.control_node.proofs.Seated.{behind_are, behind_seen, seen_behind}
use Rattle.control_node.proofs.Silent.{tracks-behind}
use Rattle.control_node.proofs.ends.ControlEnds.seat_behind.Goals as goal

pub invariant_of-self-2 : goal.invariant_of-self-2
invariant_of-self-2 c =
    let inside = c.self.inside in
    let n = many (λ (e : PeerEnd). e.session.peer) inside.peers.items c.args.self.now.plan.peers (ap (λ (v : Ends). v.plan.peers) c.self.view_is) in
    let m = many (λ (e : AgentEnd). e.id) inside.agents.items c.args.self.now.plan.agents (ap (λ (v : Ends). v.plan.agents) c.self.view_is) in
    let at : c.args.session ≡ suc (length inside.peers.items + length inside.agents.items) = omega (arith, n, m, c.requires.behind) in
    let is = c.push_reserved.ensures.items ∙ (λ i. c.reserve.ensures.items i ++ c.new_agent.ensures i ∷ []) in
    record {
      ends = behind_are inside.me inside.asn inside.feed inside.peers.items inside.agents.items inside.tables c.self.invariant.ends c.args.agent.now
          c.args.session c.push_reserved.new.self.items c.set_agent.new.self is c.in_ok-set_agent.ensures.ok at c.requires.few;
      tracked = tracks-behind inside.tables inside.peers.items inside.agents.items c.self.invariant.ends.peers_held c.self.invariant.ends.agents_held
          inside.dirty c.args.session c.args.agent.now c.push_reserved.new.self.items c.set_agent.new.self c.self.invariant.tracked at is c.in_ok-set_agent.ensures.ok;
    }

pub returns-clause-ok : goal.returns-clause-ok
returns-clause-ok c =
    let inside = c.self.inside in
    let n = many (λ (e : PeerEnd). e.session.peer) inside.peers.items c.args.self.now.plan.peers (ap (λ (v : Ends). v.plan.peers) c.self.view_is) in
    let m = many (λ (e : AgentEnd). e.id) inside.agents.items c.args.self.now.plan.agents (ap (λ (v : Ends). v.plan.agents) c.self.view_is) in
    let at : c.args.session ≡ suc (length inside.peers.items + length inside.agents.items) = omega (arith, n, m, c.requires.behind) in
    let is = c.push_reserved.ensures.items ∙ (λ i. c.reserve.ensures.items i ++ c.new_agent.ensures i ∷ []) in
    behind_seen inside.me inside.asn inside.feed inside.peers.items inside.agents.items inside.tables c.self.invariant.ends c.args.agent.now
    c.args.session c.push_reserved.new.self.items c.set_agent.new.self is c.in_ok-set_agent.ensures.ok at
    ∙ ap (seen_behind c.args.agent.now) c.self.view_is
