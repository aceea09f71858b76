use Rattle.std.proofs.Common.{◌≡◌, ◌+◌, ◌<◌, suc, length, take, drop, sym, ◌∙◌, ap, subst, set, arith}
use Rattle.std.proofs.Math.Seq.{map-set_same}
use Rattle.config_node.specs.Ends.{HasSent}
use Rattle.config_node.specs.Planning.{AreEndsTold, IsEndTold, plan_of}
use Rattle.config_node.specs.declared.ends.FeedEnd.{FeedEnd}
use Rattle.node_core.proofs.Lists.{all-at, all-set}
use Rattle.config_node.proofs.Turning.{plans_more, rest_more, told_more}
use Rattle.config_node.proofs.planning.plan_all.Goals as goal

pub plan_one-requires-clause-sent : goal.plan_one-requires-clause-sent
plan_one-requires-clause-sent c =
    let l = c.loop-end in
    all-at (HasSent c.args.wants.now.entries c.args.changed.now) l.ends l.end-index c.end-item.result l.invariant.sent
    (omega arith)

pub loop-end-preserved : goal.loop-end-preserved
loop-end-preserved c =
    let l = c.loop-end in let inv = l.invariant in
    let wants = c.args.wants.now.entries in
    let lt : l.end-index < length c.args.ends.now = omega arith in
    let more : suc l.end-index ≡ l.end-index + 1 = omega arith in
    record {
      sessions = map-set_same (λ (e : FeedEnd). e.session) l.ends l.end-index c.plan_one.new.end c.end-item.result
          c.in_ok-plan_one.ensures.session
          ∙ inv.sessions;
      sent = all-set (HasSent wants c.args.changed.now) l.ends l.end-index c.plan_one.new.end inv.sent
          c.in_ok-plan_one.ensures.sent;
      told = subst
          (λ j. AreEndsTold wants (take j c.args.ends.now) (take j (set l.ends l.end-index c.plan_one.new.end))) more
          (told_more wants c.args.ends.now l.ends l.end-index c.end-item.result c.plan_one.new.end lt (omega arith)
          inv.rest c.end-item.is inv.told
          (subst (λ (e : FeedEnd). IsEndTold wants e c.plan_one.new.end) (sym c.end-item.is)
          c.in_ok-plan_one.ensures.told));
      rest = subst (λ j. drop j (set l.ends l.end-index c.plan_one.new.end) ≡ drop j c.args.ends.now) more
          (rest_more c.args.ends.now l.ends l.end-index c.plan_one.new.end inv.rest);
      plans = plans_more wants c.args.ends.now l.ends l.end-index c.end-item.result l.plans.items _ _ lt inv.rest
          c.end-item.is inv.plans (c.in_ok-plan_one.ensures.plan ∙ ap (plan_of wants) (sym c.end-item.is))
          c.in_ok-push.ensures.items;
    }

pub returns-in_err-plan_one-clause-sessions : goal.returns-in_err-plan_one-clause-sessions
returns-in_err-plan_one-clause-sessions c =
    map-set_same (λ (e : FeedEnd). e.session) c.loop-end.ends c.loop-end.end-index c.plan_one.new.end c.end-item.result
    c.in_err-plan_one.ensures.session
    ∙ c.loop-end.invariant.sessions

pub returns-in_err-push-clause-sessions : goal.returns-in_err-push-clause-sessions
returns-in_err-push-clause-sessions c =
    map-set_same (λ (e : FeedEnd). e.session) c.loop-end.ends c.loop-end.end-index c.plan_one.new.end c.end-item.result
    c.in_ok-plan_one.ensures.session
    ∙ c.loop-end.invariant.sessions
