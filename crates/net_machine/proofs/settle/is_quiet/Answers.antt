use Rattle.std.proofs.Common.{refl, sym, ◌∙◌}
use Rattle.net_machine.specs.Settling.{is_still}
use Rattle.net_machine.proofs.Along.{all_on, all_passed, not_all}
use Rattle.net_machine.proofs.settle.is_quiet.Goals as goal

pub loop-ends-init : goal.loop-ends-init
loop-ends-init c = refl

pub loop-ends-preserved : goal.loop-ends-preserved
loop-ends-preserved c =
    sym (all_on (is_still c.args.nodes.now.seats) c.args.order.now c.loop-ends.ends-index _
    c.loop-ends-test.true (sym c.is_still.ensures ∙ c.if-not-is_still.false))
    ∙ c.loop-ends.invariant

pub returns-then-not-is_still : goal.returns-then-not-is_still
returns-then-not-is_still c =
    sym (not_all (is_still c.args.nodes.now.seats) c.args.order.now c.loop-ends.ends-index _
    c.loop-ends-test.true (sym c.is_still.ensures ∙ c.if-not-is_still.true))
    ∙ c.loop-ends.invariant

pub returns : goal.returns
returns c =
    sym (all_passed (is_still c.args.nodes.now.seats) c.args.order.now c.loop-ends.ends-index
    c.loop-ends-test.false)
    ∙ c.loop-ends.invariant
