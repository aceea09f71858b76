use Rattle.std.proofs.Common.{◌≡◌, ◌∙◌, ap, sym, subst, set, drop}
use Rattle.ov_link.specs.declared.step.Input.TheVariants as input
use Rattle.control_node.specs.Begun.{IsHeard}
use Rattle.control_node.specs.Ends.{Ends, posts_of}
use Rattle.control_node.specs.Planning.{peer_sends}
use Rattle.control_node.specs.Taking.{RoutesHeard}
use Rattle.control_node.specs.declared.ends.PeerEnd.{PeerEnd}
use Rattle.control_node.proofs.Keeping.{all-at, among, ends-peer, plan-peer}
use Rattle.control_node.proofs.Starting.{peer-heard}
use Rattle.control_node.proofs.Tracking.{tracks-heard-peer}
use Rattle.control_node.proofs.ends.ControlEnds.hear_peer.Goals as goal

pub returns-in_err-heard-clause-plan : goal.returns-in_err-heard-clause-plan
returns-in_err-heard-clause-plan c =
    let inside = c.self.inside in
    let same = c.in_err-heard.ensures.peer ∙ ap (λ (e : PeerEnd). e.session.peer) c.index_mut-end.ensures.value in
    plan-peer inside.me inside.asn inside.peers.items inside.agents.items c.args.place c.hear_from_peer.new.end c.index_mut-end.result.now same ∙ ap (λ (v : Ends). v.plan) c.self.view_is

pub returns-clause-plan : goal.returns-clause-plan
returns-clause-plan c =
    let inside = c.self.inside in
    let same = c.in_ok-heard.ensures.peer ∙ ap (λ (e : PeerEnd). e.session.peer) c.index_mut-end.ensures.value in
    plan-peer inside.me inside.asn inside.peers.items inside.agents.items c.args.place c.hear_from_peer.new.end c.index_mut-end.result.now same ∙ ap (λ (v : Ends). v.plan) c.self.view_is

pub returns-clause-heard : goal.returns-clause-heard
returns-clause-heard c =
    let inside = c.self.inside in
    let s = c.args.session in
    let i = c.args.place in
    let e = c.hear_from_peer.new.end in
    let w = c.in_ok-heard.heard in
    let rest = drop w.taken c.args.bytes.now in
    let heard = c.in_ok-heard.ensures.heard in
    let cause = c.peer_cause.result in
    let lt = among (λ (e : PeerEnd). e.session.peer) inside.peers.items c.args.self.now.plan.peers i (ap (λ (v : Ends). v.plan.peers) c.self.view_is) c.requires.among in
    let sent = c.in_ok-heard.ensures.sent ∙ ap (λ (e : PeerEnd). e.sent) c.index_mut-end.ensures.value in
    let brought = subst (λ (x : PeerEnd). RoutesHeard inside.me.address x.session e.session c.args.bytes.now rest w.replies heard.0 w.cause) c.index_mut-end.ensures.value heard.1 in
    let posts = posts_of inside.feed.state (set inside.peers.items i e) inside.agents.items c.hear_from_peer.new.tables in
    subst (λ (v : Ends). IsHeard v.plan v.posts s (input.Bytes s c.args.bytes) w.replies cause rest posts) c.self.view_is (
    peer-heard inside.me inside.asn inside.feed inside.peers.items inside.agents.items inside.tables c.self.invariant.ends s i e c.index_mut-end.result.now
    c.args.bytes rest heard.0 w.cause cause w.replies c.hear_from_peer.new.tables c.requires.session lt sent brought c.peer_cause.ensures heard.2)

pub invariant_of-self : goal.invariant_of-self
invariant_of-self c =
    let inside = c.self.inside in
    let e = c.index_mut-end.result.now in
    let value = c.index_mut-end.ensures.value in
    let heard = c.in_err-heard.ensures in
    let lt = among (λ (e : PeerEnd). e.session.peer) inside.peers.items c.args.self.now.plan.peers c.args.place (ap (λ (v : Ends). v.plan.peers) c.self.view_is) c.requires.among in
    let asn = all-at (λ (e : PeerEnd). e.session.asn ≡ inside.asn) inside.peers.items c.args.place e c.self.invariant.ends.peer_ends lt in
    record {
      ends = ends-peer inside.me inside.asn inside.feed inside.peers.items inside.agents.items inside.tables c.hear_from_peer.new.tables c.self.invariant.ends heard.stays
          c.args.place c.hear_from_peer.new.end (heard.asn ∙ ap (λ (e : PeerEnd). e.session.asn) value ∙ asn);
      tracked = tracks-heard-peer inside.dirty c.hear_from_peer.new.dirty inside.tables c.hear_from_peer.new.tables inside.peers.items inside.agents.items
          c.self.invariant.tracked heard.marked c.args.place c.hear_from_peer.new.end e lt (heard.sent ∙ ap (λ (e : PeerEnd). e.sent) value)
          (λ all. sym (ap peer_sends value) ∙ heard.sends all);
    }

pub invariant_of-self-2 : goal.invariant_of-self-2
invariant_of-self-2 c =
    let inside = c.self.inside in
    let e = c.index_mut-end.result.now in
    let value = c.index_mut-end.ensures.value in
    let heard = c.in_ok-heard.ensures in
    let lt = among (λ (e : PeerEnd). e.session.peer) inside.peers.items c.args.self.now.plan.peers c.args.place (ap (λ (v : Ends). v.plan.peers) c.self.view_is) c.requires.among in
    let asn = all-at (λ (e : PeerEnd). e.session.asn ≡ inside.asn) inside.peers.items c.args.place e c.self.invariant.ends.peer_ends lt in
    record {
      ends = ends-peer inside.me inside.asn inside.feed inside.peers.items inside.agents.items inside.tables c.hear_from_peer.new.tables c.self.invariant.ends heard.stays
          c.args.place c.hear_from_peer.new.end (heard.asn ∙ ap (λ (e : PeerEnd). e.session.asn) value ∙ asn);
      tracked = tracks-heard-peer inside.dirty c.hear_from_peer.new.dirty inside.tables c.hear_from_peer.new.tables inside.peers.items inside.agents.items
          c.self.invariant.tracked heard.marked c.args.place c.hear_from_peer.new.end e lt (heard.sent ∙ ap (λ (e : PeerEnd). e.sent) value)
          (λ all. sym (ap peer_sends value) ∙ heard.sends all);
    }
