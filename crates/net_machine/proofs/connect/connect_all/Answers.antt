use Rattle.std.proofs.Common.{refl, ◌∙◌}
use Rattle.net_machine.proofs.Going.{connects_more, connects_none}
use Rattle.net_machine.proofs.Kept.{ends_kept, keeps_all, keeps_both}
use Rattle.net_machine.proofs.connect.connect_all.Goals as goal

pub loop-ends-init : goal.loop-ends-init
loop-ends-init c = record { connects = λ after h. h; keeps = keeps_all _ c.requires.long; failed = refl }

pub connect-requires-clause-long : goal.connect-requires-clause-long
connect-requires-clause-long c = c.loop-ends.invariant.keeps.long

pub connect-requires-clause-seated : goal.connect-requires-clause-seated
connect-requires-clause-seated c =
    ends_kept _ _ _ c.loop-ends.invariant.keeps (c.requires.seated c.loop-ends.ends-index _ c.loop-ends-test.true)

pub loop-ends-preserved : goal.loop-ends-preserved
loop-ends-preserved c = record {
  connects = λ after h. c.loop-ends.invariant.connects after
      (connects_more c.args.order.now c.loop-ends.ends-index _ _ _ after c.loop-ends-test.true
      c.in_ok-connect.ensures.connects h);
  keeps = keeps_both _ _ _ c.loop-ends.invariant.keeps c.in_ok-connect.ensures.keeps;
  failed = c.in_ok-connect.ensures.failed ∙ c.loop-ends.invariant.failed;
}

pub returns-clause-connects : goal.returns-clause-connects
returns-clause-connects c =
    c.loop-ends.invariant.connects _ (connects_none c.args.order.now c.loop-ends.ends-index _ c.loop-ends-test.false)

pub returns-clause-keeps : goal.returns-clause-keeps
returns-clause-keeps c = c.loop-ends.invariant.keeps

pub returns-clause-failed : goal.returns-clause-failed
returns-clause-failed c = c.loop-ends.invariant.failed
