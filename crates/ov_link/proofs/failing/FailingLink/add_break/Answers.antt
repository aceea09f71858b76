use Rattle.std.proofs.Common.{subst, sym, ap, ◌∙◌}
use Rattle.ov_link.specs.Breaks.{IsDistinct, is_break}
use Rattle.ov_link.proofs.BreakLemmas.{distinct_push}
use Rattle.ov_link.proofs.failing.FailingLink.add_break.Goals as goal

pub invariant_of-self-2 : goal.invariant_of-self-2
invariant_of-self-2 c =
    let absent = ap (λ breaks. is_break breaks c.args.n) (sym c.deref.ensures.value) ∙ sym c.contains.ensures.value ∙ c.if-contains.false in
    subst IsDistinct (sym c.in_ok-push.ensures.items) (distinct_push c.self.inside.breaks.items c.args.n c.self.invariant absent)
