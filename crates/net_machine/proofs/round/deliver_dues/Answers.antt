use Rattle.std.proofs.Common.{refl, ◌∙◌, subst}
use Rattle.net_machine.specs.Rounds.{DeliversDues}
use Rattle.net_machine.proofs.Going.{all_left, dues_more, dues_none}
use Rattle.net_machine.proofs.Kept.{ends_kept, keeps_all, keeps_both}
use Rattle.net_machine.proofs.round.deliver_dues.Goals as goal

pub loop-init : goal.loop-init
loop-init c = record {
  delivers = λ after h. subst (λ n. DeliversDues n c.args.due.now c.args.nodes.now.seats after)
      (all_left c.args.due.now.count) h;
  keeps = keeps_all _ c.requires.long;
  failed = refl;
}

pub deliver_due-requires-clause-long : goal.deliver_due-requires-clause-long
deliver_due-requires-clause-long c = c.loop.invariant.keeps.long

pub deliver_due-requires-clause-seated : goal.deliver_due-requires-clause-seated
deliver_due-requires-clause-seated c = ends_kept _ _ c.args.due.now.ends c.loop.invariant.keeps c.requires.seated

pub loop-preserved : goal.loop-preserved
loop-preserved c = record {
  delivers = λ after h. c.loop.invariant.delivers after
      (dues_more c.args.due.now.count c.loop.counter c.args.due.now _ _ after c.loop-test.true
      c.in_ok-deliver_due.ensures.delivers h);
  keeps = keeps_both _ _ _ c.loop.invariant.keeps c.in_ok-deliver_due.ensures.keeps;
  failed = c.in_ok-deliver_due.ensures.failed ∙ c.loop.invariant.failed;
}

pub returns-clause-delivers : goal.returns-clause-delivers
returns-clause-delivers c =
    c.loop.invariant.delivers _ (dues_none c.args.due.now.count c.loop.counter c.args.due.now _ c.loop-test.false)

pub returns-clause-keeps : goal.returns-clause-keeps
returns-clause-keeps c = c.loop.invariant.keeps

pub returns-clause-failed : goal.returns-clause-failed
returns-clause-failed c = c.loop.invariant.failed
