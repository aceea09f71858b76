use Rattle.std.proofs.Common.{◌∙◌, ap, subst, set, None, []}
use Rattle.ov_link.specs.declared.step.Input.TheVariants as input
use Rattle.node_core.specs.NodeModel.Step.{post}
use Rattle.control_node.specs.Begun.{IsBegun}
use Rattle.control_node.specs.Ends.{Ends, opened_peer, posts_of}
use Rattle.control_node.specs.Wanting.{is_idle}
use Rattle.control_node.specs.declared.ends.PeerEnd.{PeerEnd}
use Rattle.control_node.proofs.Keeping.{among, plan-peer}
use Rattle.control_node.proofs.Starting.{peer-opened}
use Rattle.control_node.proofs.Turning.{peer_is_idle}
use Rattle.control_node.proofs.ends.ControlEnds.open_peer.Goals as goal

pub greet_peer-requires-clause-idle : goal.greet_peer-requires-clause-idle
greet_peer-requires-clause-idle c =
    let inside = c.self.inside in
    let lt = among (λ (e : PeerEnd). e.session.peer) inside.peers.items c.args.self.now.plan.peers c.args.place (ap (λ (v : Ends). v.plan.peers) c.self.view_is) c.requires.among in
    let idle = ap (λ (v : Ends). is_idle (post v.posts c.args.session).phase) c.self.view_is ∙ c.requires.idle in
    ap (λ (e : PeerEnd). e.session.state) c.index_mut-end.ensures.value
    ∙ peer_is_idle inside.me inside.asn inside.feed inside.peers.items inside.agents.items inside.tables c.self.invariant.ends c.args.session c.args.place c.index_mut-end.result.now c.requires.session lt idle

pub returns-in_err-replies-clause-plan : goal.returns-in_err-replies-clause-plan
returns-in_err-replies-clause-plan c =
    let inside = c.self.inside in
    let same = ap (λ (e : PeerEnd). e.session.peer) (c.in_err-replies.ensures.opened ∙ ap opened_peer c.index_mut-end.ensures.value) in
    plan-peer inside.me inside.asn inside.peers.items inside.agents.items c.args.place c.greet_peer.new.end c.index_mut-end.result.now same ∙ ap (λ (v : Ends). v.plan) c.self.view_is

pub returns-clause-plan : goal.returns-clause-plan
returns-clause-plan c =
    let inside = c.self.inside in
    let same = ap (λ (e : PeerEnd). e.session.peer) (c.in_ok-replies.ensures.opened ∙ ap opened_peer c.index_mut-end.ensures.value) in
    plan-peer inside.me inside.asn inside.peers.items inside.agents.items c.args.place c.greet_peer.new.end c.index_mut-end.result.now same ∙ ap (λ (v : Ends). v.plan) c.self.view_is

pub returns-clause-begun : goal.returns-clause-begun
returns-clause-begun c =
    let inside = c.self.inside in
    let s = c.args.session in
    let lt = among (λ (e : PeerEnd). e.session.peer) inside.peers.items c.args.self.now.plan.peers c.args.place (ap (λ (v : Ends). v.plan.peers) c.self.view_is) c.requires.among in
    let posts = posts_of inside.feed.state (set inside.peers.items c.args.place c.greet_peer.new.end) inside.agents.items inside.tables in
    subst (λ (v : Ends). IsBegun v.plan v.posts s (input.Opened s) c.in_ok-replies.replies None [] posts) c.self.view_is (
    peer-opened inside.me inside.asn inside.feed inside.peers.items inside.agents.items inside.tables c.self.invariant.ends s c.args.place
    c.greet_peer.new.end c.index_mut-end.result.now c.in_ok-replies.replies c.requires.session lt
    (c.in_ok-replies.ensures.opened ∙ ap opened_peer c.index_mut-end.ensures.value) c.in_ok-replies.ensures.hello)
