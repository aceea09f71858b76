use Rattle.rt_membership.proofs.ValueLemmas.{ValueLeft}
use Rattle.rt_membership.proofs.values.value_at.Given as goal

abbrev pub invariant-loop-item : goal.invariant-loop-item
invariant-loop-item l =
    (goal.iterator-loop-item).can_next l.item-iterator ×
    (goal.iterator-loop-item).is_finite l.item-iterator ×
    ValueLeft l.kind l.part.attributes.now l.item-iterator
