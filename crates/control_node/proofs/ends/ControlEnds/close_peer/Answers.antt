use Rattle.std.proofs.Common.{◌≡◌, ◌∙◌, ap, set}
use Rattle.node_core.specs.NodeModel.Step.{nothing}
use Rattle.control_node.specs.Ends.{Ends, closed_peer, posts_of}
use Rattle.control_node.specs.declared.ends.PeerEnd.{PeerEnd}
use Rattle.control_node.proofs.Closed.{peer-closed}
use Rattle.control_node.proofs.Keeping.{all-at, among, ends-peer, plan-peer, stays-without}
use Rattle.control_node.proofs.Tracking.{tracks-all}
use Rattle.control_node.proofs.ends.ControlEnds.close_peer.Goals as goal

pub invariant_of-self : goal.invariant_of-self
invariant_of-self c =
    let inside = c.self.inside in
    let e = c.index_mut.result.now in
    let lt = among (λ (e : PeerEnd). e.session.peer) inside.peers.items c.args.self.now.plan.peers c.args.place (ap (λ (v : Ends). v.plan.peers) c.self.view_is) c.requires.among in
    let asn = all-at (λ (e : PeerEnd). e.session.asn ≡ inside.asn) inside.peers.items c.args.place e c.self.invariant.ends.peer_ends lt in
    let stays = rw (← c.lose.ensures.tables) at (stays-without inside.tables c.args.session) in
    record {
      ends = ends-peer inside.me inside.asn inside.feed inside.peers.items inside.agents.items inside.tables c.lose.new.tables c.self.invariant.ends stays c.args.place c.shut_peer.new.end
          (ap (λ (e : PeerEnd). e.session.asn) (c.shut_peer.ensures ∙ ap closed_peer c.index_mut.ensures.value) ∙ asn);
      tracked = tracks-all c.lose.new.dirty c.lose.new.tables _ _ c.lose.ensures.all;
    }

pub returns-clause-plan : goal.returns-clause-plan
returns-clause-plan c =
    let inside = c.self.inside in
    let e = c.index_mut.result.now in
    let same = ap (λ (e : PeerEnd). e.session.peer) (c.shut_peer.ensures ∙ ap closed_peer c.index_mut.ensures.value) in
    plan-peer inside.me inside.asn inside.peers.items inside.agents.items c.args.place c.shut_peer.new.end e same
    ∙ ap (λ (v : Ends). v.plan) c.self.view_is

pub returns-clause-closed : goal.returns-clause-closed
returns-clause-closed c =
    let inside = c.self.inside in
    let lt = among (λ (e : PeerEnd). e.session.peer) inside.peers.items c.args.self.now.plan.peers c.args.place (ap (λ (v : Ends). v.plan.peers) c.self.view_is) c.requires.among in
    (λ i. posts_of inside.feed.state (set inside.peers.items c.args.place (c.shut_peer.ensures i)) inside.agents.items (c.lose.ensures.tables i))
    ∙ peer-closed inside.feed.state inside.peers.items inside.agents.items inside.tables c.self.invariant.ends.peers_held c.self.invariant.ends.agents_held c.args.session c.args.place c.index_mut.result.now c.requires.session lt
    ∙ ap (λ (v : Ends). set v.posts c.args.session nothing) c.self.view_is
