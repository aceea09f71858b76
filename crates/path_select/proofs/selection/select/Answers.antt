use Rattle.std.proofs.Common.{sym, ap, ◌∙◌}
use Rattle.std.specs.Prelude.{option_copied}
use Rattle.std.proofs.lemmas.Option.{slice_get-get_or}
use Rattle.path_select.proofs.Best.{at_start, replaced, kept, moved, at_end}
use Rattle.path_select.proofs.selection.select.Goals.{then-better, else-better}
use Rattle.path_select.proofs.selection.select.Goals as goal

pub loop-index-init : goal.loop-index-init
loop-index-init c = at_start c.args.paths.now c.in_ok-best.best.now (sym c.first.ensures.value ∙ ap option_copied (c.in_ok-best.was {u = tt}))

pub loop-index-preserved : goal.loop-index-preserved
loop-index-preserved c =
    let stands = slice_get-get_or c.args.paths.now c.loop-index.index (record { session = 0; rd = record { 0 = 0 }; next_hop = record { 0 = 0 }; label = record { 0 = 0 } }) c.loop-index-test.true in
    elim c.if-better.branch [
      | then-better w ↦
          moved _ _ _ _ _ _ w.place-is (ap (λ b. b.now) w.best-is)
          (replaced c.args.paths.now c.loop-index.index c.loop-index.place c.loop-index.best.now _ c.loop-index.invariant stands (sym c.better.ensures ∙ w.if-better.true))
      | else-better w ↦
          moved _ _ _ _ _ _ w.place-is (ap (λ b. b.now) w.best-is)
          (kept c.args.paths.now c.loop-index.index c.loop-index.place c.loop-index.best.now _ c.loop-index.invariant stands (sym c.better.ensures ∙ w.if-better.false))
    ]

pub returns-clause-first : goal.returns-clause-first
returns-clause-first c = at_end c.args.paths.now c.loop-index.index c.loop-index.place c.loop-index.best.now c.loop-index.invariant c.loop-index-test.false
