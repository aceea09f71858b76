use Rattle.std.proofs.Common.{refl, sym, ◌∙◌}
use Rattle.config_check.proofs.Lists.{none_here, some_here}
use Rattle.config_check.proofs.asking.first_of.Goals as goal

pub loop-item-preserved : goal.loop-item-preserved
loop-item-preserved g c = λ f same.
    let is = same c.item-item.result c.answer.result (record { shown = _; shows = refl; says = record { met = c.answer.ensures } }) in
    none_here f c.args.items.now c.loop-item.item-index c.item-item.result _ c.loop-item-test.true c.item-item.is (sym is ∙ c.in_default.is) (c.loop-item.invariant f same)

pub returns-in-Some : goal.returns-in-Some
returns-in-Some g c = λ f same.
    let is = same c.item-item.result c.answer.result (record { shown = _; shows = refl; says = record { met = c.answer.ensures } }) in
    some_here f c.args.items.now c.loop-item.item-index c.item-item.result c.in-Some.found _ c.loop-item-test.true c.item-item.is (sym is ∙ c.in-Some.is) (c.loop-item.invariant f same)
