use Rattle.std.proofs.Common.{refl, sym, ◌∙◌, ◌-◌, subst}
use Rattle.net_machine.specs.Deliveries.{DeliversMany}
use Rattle.net_machine.proofs.Going.{all_left, many_more, many_none, many_wait}
use Rattle.net_machine.proofs.Kept.{ends_kept, keeps_all, keeps_both}
use Rattle.net_machine.proofs.deliver.deliver_many.Goals as goal

pub loop-init : goal.loop-init
loop-init c = record {
  delivers = λ after h. subst (λ n. DeliversMany n c.args.nodes.now.seats c.args.ends after)
      (all_left c.args.n) h;
  keeps = keeps_all _ c.requires.long;
  failed = refl;
}

pub waiting-requires : goal.waiting-requires
waiting-requires c = ends_kept _ _ c.args.ends c.loop.invariant.keeps c.requires.seated

pub returns-then-waiting-eq0-clause-delivers : goal.returns-then-waiting-eq0-clause-delivers
returns-then-waiting-eq0-clause-delivers c =
    c.loop.invariant.delivers _ (many_wait (c.args.n - c.loop.counter) c.args.ends _
    (sym c.waiting.ensures ∙ c.if-waiting-eq0.true))

pub returns-then-waiting-eq0-clause-keeps : goal.returns-then-waiting-eq0-clause-keeps
returns-then-waiting-eq0-clause-keeps c = c.loop.invariant.keeps

pub returns-then-waiting-eq0-clause-failed : goal.returns-then-waiting-eq0-clause-failed
returns-then-waiting-eq0-clause-failed c = c.loop.invariant.failed

pub deliver-requires-clause-long : goal.deliver-requires-clause-long
deliver-requires-clause-long c = c.loop.invariant.keeps.long

pub deliver-requires-clause-seated : goal.deliver-requires-clause-seated
deliver-requires-clause-seated c = ends_kept _ _ c.args.ends c.loop.invariant.keeps c.requires.seated

pub loop-preserved : goal.loop-preserved
loop-preserved c = record {
  delivers = λ after h. c.loop.invariant.delivers after
      (many_more c.args.n c.loop.counter c.args.ends _ _ after c.loop-test.true c.in_ok-deliver.ensures.delivers h);
  keeps = keeps_both _ _ _ c.loop.invariant.keeps c.in_ok-deliver.ensures.keeps;
  failed = c.in_ok-deliver.ensures.failed ∙ c.loop.invariant.failed;
}

pub returns-clause-delivers : goal.returns-clause-delivers
returns-clause-delivers c =
    c.loop.invariant.delivers _ (many_none c.args.n c.loop.counter c.args.ends _ c.loop-test.false)

pub returns-clause-keeps : goal.returns-clause-keeps
returns-clause-keeps c = c.loop.invariant.keeps

pub returns-clause-failed : goal.returns-clause-failed
returns-clause-failed c = c.loop.invariant.failed
