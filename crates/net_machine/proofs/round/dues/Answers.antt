use Rattle.std.proofs.Common.{sym, ◌∙◌, ap, subst, arith, ◌++◌}
use Rattle.std.specs.List.{All}
use Rattle.net_machine.specs.Rounds.{IsDueSeated, dues}
use Rattle.net_machine.proofs.Ordering.{dues_all, dues_seated, dues_step}
use Rattle.net_machine.proofs.round.dues.Goals as goal

pub loop-ends-init : goal.loop-ends-init
loop-ends-init c = record {
  dues = ap (λ ds. ds ++ dues c.args.nodes.now.seats c.args.order.now) c.new-due.ensures.items;
  seated = subst (All (IsDueSeated c.args.nodes.now.seats)) (sym c.new-due.ensures.items)
      (λ k d h. absurd (omega (arith, h)));
}

pub loop-ends-preserved : goal.loop-ends-preserved
loop-ends-preserved c = record {
  dues = dues_step c.args.nodes.now.seats _ _ c.args.order.now c.loop-ends.ends-index _
      c.loop-ends-test.true c.in_ok-push_dues.ensures ∙ c.loop-ends.invariant.dues;
  seated = dues_seated c.args.nodes.now.seats _ _ _
      (c.requires c.loop-ends.ends-index _ c.loop-ends-test.true) c.loop-ends.invariant.seated
      c.in_ok-push_dues.ensures;
}

pub returns-clause-dues : goal.returns-clause-dues
returns-clause-dues c =
    dues_all c.args.nodes.now.seats _ _ c.args.order.now c.loop-ends.ends-index
    c.loop-ends-test.false c.loop-ends.invariant.dues

pub returns-clause-seated : goal.returns-clause-seated
returns-clause-seated c = c.loop-ends.invariant.seated
