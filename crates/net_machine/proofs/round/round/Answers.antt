use Rattle.std.proofs.Common.{refl, sym, ◌∙◌, List, subst}
use Rattle.std.specs.List.{All}
use Rattle.net_machine.specs.declared.round.Due.{Due}
use Rattle.net_machine.specs.Rounds.{DeliversAll, IsDueSeated}
use Rattle.net_machine.proofs.Going.{all_more, all_none}
use Rattle.net_machine.proofs.Kept.{ends_kept, keeps_all, keeps_both}
use Rattle.net_machine.proofs.round.round.Goals as goal

pub loop-one-init : goal.loop-one-init
loop-one-init c = record { delivers = λ after h. h; keeps = keeps_all _ c.requires.long; failed = refl }

pub deliver_dues-requires-clause-long : goal.deliver_dues-requires-clause-long
deliver_dues-requires-clause-long c = c.loop-one.invariant.keeps.long

pub deliver_dues-requires-clause-seated : goal.deliver_dues-requires-clause-seated
deliver_dues-requires-clause-seated c =
    let seated = subst (All (IsDueSeated c.args.nodes.now.seats)) (sym c.deref-one-items.ensures.value)
    c.in_ok-due.ensures.seated in
    ends_kept _ _ _ c.loop-one.invariant.keeps (seated c.loop-one.one-index _ c.loop-one-test.true)

pub loop-one-preserved : goal.loop-one-preserved
loop-one-preserved c = record {
  delivers = λ after h. c.loop-one.invariant.delivers after
      (all_more c.deref-one-items.result.now c.loop-one.one-index _ _ _ after c.loop-one-test.true
      c.in_ok-deliver_dues.ensures.delivers h);
  keeps = keeps_both _ _ _ c.loop-one.invariant.keeps c.in_ok-deliver_dues.ensures.keeps;
  failed = c.in_ok-deliver_dues.ensures.failed ∙ c.loop-one.invariant.failed;
}

pub returns-clause-round : goal.returns-clause-round
returns-clause-round c =
    let after = c.loop-one.nodes.seats in
    subst (λ (ds : List Due). DeliversAll ds c.args.nodes.now.seats after)
    (c.deref-one-items.ensures.value ∙ c.in_ok-due.ensures.dues)
    (c.loop-one.invariant.delivers after
    (all_none c.deref-one-items.result.now c.loop-one.one-index _ c.loop-one-test.false))

pub returns-clause-keeps : goal.returns-clause-keeps
returns-clause-keeps c = c.loop-one.invariant.keeps

pub returns-clause-failed : goal.returns-clause-failed
returns-clause-failed c = c.loop-one.invariant.failed
