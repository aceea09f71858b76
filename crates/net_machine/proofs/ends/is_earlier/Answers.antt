use Rattle.std.proofs.Common.{refl, sym, ◌∙◌, ap}
use Rattle.std.proofs.lemmas.List.{drop_all}
use Rattle.net_machine.specs.Seating.{is_earlier, same_ends}
use Rattle.net_machine.proofs.Along.{earlier_here, earlier_on, later_here}
use Rattle.net_machine.proofs.ends.is_earlier.Goals as goal

pub loop-other-init : goal.loop-other-init
loop-other-init c = refl

pub returns-then-same_ends : goal.returns-then-same_ends
returns-then-same_ends c =
    sym (earlier_here c.args.order.now c.loop-other.other-index c.args.ends _ c.loop-other-test.true
    (sym c.same_ends.ensures ∙ c.if-same_ends.true))
    ∙ c.loop-other.invariant

pub returns-then-same_ends-2 : goal.returns-then-same_ends-2
returns-then-same_ends-2 c =
    sym (later_here c.args.order.now c.loop-other.other-index c.args.ends _ c.loop-other-test.true
    (sym c.same_ends.ensures ∙ c.if-same_ends.false)
    (ap (same_ends _) (sym c.turned.ensures) ∙ sym c.same_ends-in-loop-other.ensures ∙ c.if-same_ends-2.true))
    ∙ c.loop-other.invariant

pub loop-other-preserved : goal.loop-other-preserved
loop-other-preserved c =
    sym (earlier_on c.args.order.now c.loop-other.other-index c.args.ends _ c.loop-other-test.true
    (sym c.same_ends.ensures ∙ c.if-same_ends.false)
    (ap (same_ends _) (sym c.turned.ensures) ∙ sym c.same_ends-in-loop-other.ensures ∙ c.if-same_ends-2.false))
    ∙ c.loop-other.invariant

pub returns : goal.returns
returns c =
    sym (ap (λ ds. is_earlier ds c.args.ends)
    (drop_all c.loop-other.other-index c.args.order.now c.loop-other-test.false))
    ∙ c.loop-other.invariant
