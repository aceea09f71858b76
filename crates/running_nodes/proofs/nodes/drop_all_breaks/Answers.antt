use Rattle.std.proofs.Common.{List, ap, arith, get_or, set, ◌∙◌}
use Rattle.running_nodes.specs.Changes.{unbroken_outer}
use Rattle.running_nodes.specs.Halves.{Outer}
use Rattle.running_nodes.proofs.Cleared.{all_mapped, mapped_more}
use Rattle.running_nodes.proofs.nodes.drop_all_breaks.Goals as goal

pub loop-index-preserved : goal.loop-index-preserved
loop-index-preserved c =
    let i = c.loop-index.index in
    let before = c.index-edges-index.result in
    ap (λ (o : Outer). set c.loop-index.edges i o) c.drop_breaks.ensures
    ∙ (ap (λ (es : List Outer). set es i (unbroken_outer (get_or es i before))) c.loop-index.invariant
    ∙ mapped_more unbroken_outer i c.args.edges.now before)

pub returns : goal.returns
returns c = c.loop-index.invariant ∙ all_mapped unbroken_outer c.loop-index.index c.args.edges.now (omega (arith, c.loop-index-test.false))
