use Rattle.std.proofs.Common.{refl, sym, ◌∙◌}
use Rattle.net_machine.specs.Settling.{is_rested}
use Rattle.net_machine.proofs.Along.{all_on, all_passed, not_all}
use Rattle.net_machine.proofs.settle.is_settled.Goals as goal

pub loop-ends-init : goal.loop-ends-init
loop-ends-init c = refl

pub loop-ends-preserved : goal.loop-ends-preserved
loop-ends-preserved c =
    sym (all_on (is_rested c.args.nodes.now.seats) c.args.order.now c.loop-ends.ends-index _
    c.loop-ends-test.true (sym c.is_rested.ensures ∙ c.if-not-is_rested.false))
    ∙ c.loop-ends.invariant

pub returns-then-not-is_rested : goal.returns-then-not-is_rested
returns-then-not-is_rested c =
    sym (not_all (is_rested c.args.nodes.now.seats) c.args.order.now c.loop-ends.ends-index _
    c.loop-ends-test.true (sym c.is_rested.ensures ∙ c.if-not-is_rested.true))
    ∙ c.loop-ends.invariant

pub returns : goal.returns
returns c =
    sym (all_passed (is_rested c.args.nodes.now.seats) c.args.order.now c.loop-ends.ends-index
    c.loop-ends-test.false)
    ∙ c.loop-ends.invariant
