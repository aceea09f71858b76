use Rattle.std.proofs.Common.{subst, sym, ap, ◌∙◌}
use Rattle.ov_link.specs.Breaks.{IsDistinct, counted}
use Rattle.ov_link.proofs.BreakLemmas.{distinct_counted}
use Rattle.ov_link.proofs.failing.FailingLinkLink.send.Goals as goal

pub invariant_of-self : goal.invariant_of-self
invariant_of-self c = subst IsDistinct (sym (c.in_ok-later.ensures ∙ ap counted c.deref.ensures.value)) (distinct_counted c.self.inside.breaks.items c.self.invariant)

pub invariant_of-self-2 : goal.invariant_of-self-2
invariant_of-self-2 c = subst IsDistinct (sym (c.in_ok-later.ensures ∙ ap counted c.deref.ensures.value)) (distinct_counted c.self.inside.breaks.items c.self.invariant)
