use Rattle.std.proofs.Common.{◌≡◌, ◌+◌, ◌<◌, suc, length, take, drop, sym, ◌∙◌, ap, subst, set, arith}
use Rattle.std.proofs.Math.Seq.{map-set_same}
use Rattle.control_node.specs.Planning.{ArePeersTold, IsPeerTold, peer_plan}
use Rattle.control_node.specs.Tracking.{IsPeerTracked}
use Rattle.control_node.specs.declared.ends.PeerEnd.{PeerEnd}
use Rattle.control_node.proofs.Keeping.{all-at}
use Rattle.control_node.proofs.Planned.{end_at, peers_plans_more, peers_told_more, rest_more}
use Rattle.control_node.proofs.planning.plan_peers.Goals as goal

pub plan_peer-requires-clause-tracked : goal.plan_peer-requires-clause-tracked
plan_peer-requires-clause-tracked c =
    let l = c.loop-end in
    let d = c.args.dirty.now in let h = c.args.tables.now in
    let lt : l.end-index < length c.args.ends.now = omega arith in
    let is = sym c.end-item.is ∙ end_at c.args.ends.now l.ends l.end-index c.end-item.result l.invariant.rest c.end-item.is in
    λ sends all. subst (IsPeerTracked d h) (sym is)
    (all-at (IsPeerTracked d h) c.args.ends.now l.end-index c.end-item.result (c.requires.tracked all) lt) sends all

pub returns-in_err-plan_peer-clause-sessions : goal.returns-in_err-plan_peer-clause-sessions
returns-in_err-plan_peer-clause-sessions c =
    map-set_same (λ (e : PeerEnd). e.session) c.loop-end.ends c.loop-end.end-index c.plan_peer.new.end c.end-item.result
    c.in_err-plan_peer.ensures.session
    ∙ c.loop-end.invariant.sessions

pub returns-in_err-push-clause-sessions : goal.returns-in_err-push-clause-sessions
returns-in_err-push-clause-sessions c =
    map-set_same (λ (e : PeerEnd). e.session) c.loop-end.ends c.loop-end.end-index c.plan_peer.new.end c.end-item.result
    c.in_ok-plan_peer.ensures.session
    ∙ c.loop-end.invariant.sessions

pub loop-end-preserved : goal.loop-end-preserved
loop-end-preserved c =
    let l = c.loop-end in let inv = l.invariant in let h = c.args.tables.now in
    let lt : l.end-index < length c.args.ends.now = omega arith in
    let more : suc l.end-index ≡ l.end-index + 1 = omega arith in
    record {
      sessions = map-set_same (λ (e : PeerEnd). e.session) l.ends l.end-index c.plan_peer.new.end c.end-item.result
          c.in_ok-plan_peer.ensures.session
          ∙ inv.sessions;
      told = subst
          (λ j. ArePeersTold h (take j c.args.ends.now) (take j (set l.ends l.end-index c.plan_peer.new.end))) more
          (peers_told_more h c.args.ends.now l.ends l.end-index c.end-item.result c.plan_peer.new.end lt (omega arith)
          inv.rest c.end-item.is inv.told
          (subst (λ (e : PeerEnd). IsPeerTold h e c.plan_peer.new.end) (sym c.end-item.is)
          c.in_ok-plan_peer.ensures.told));
      rest = subst (λ j. drop j (set l.ends l.end-index c.plan_peer.new.end) ≡ drop j c.args.ends.now) more
          (rest_more c.args.ends.now l.ends l.end-index c.plan_peer.new.end inv.rest);
      plans = peers_plans_more h c.args.ends.now l.ends l.end-index c.end-item.result
          c.args.plans.now.items l.plans.items _ _ lt inv.rest c.end-item.is inv.plans
          (c.in_ok-plan_peer.ensures.plan ∙ ap (peer_plan h) (sym c.end-item.is)) c.in_ok-push.ensures.items;
    }
