use Rattle.std.proofs.Common.{ap, sym, ◌∙◌, ◌<◌, ◌≤◌, ℕ, List, length, arith, refl}
use Rattle.ov_types.specs.First.{same_name}
use Rattle.running_nodes.specs.Halves.{Outer}
use Rattle.running_nodes.proofs.Found.{here, later, none_left}
use Rattle.running_nodes.proofs.finding.edge_named.Goals as goal

pub loop-index-init : goal.loop-index-init
loop-index-init c = refl

pub returns-then-eq : goal.returns-then-eq
returns-then-eq c =
    let below : c.loop-index.index < length c.args.edges.now = omega arith in
    sym (c.loop-index.invariant ∙ here (λ (e : Outer). same_name e.name c.args.name.now) c.args.edges.now c.loop-index.index c.index-edges-index.result below c.index-edges-index.is (ap (λ (m : List ℕ). same_name m c.args.name.now) (sym c.name.ensures) ∙ (sym c.eq.ensures ∙ c.if-eq.true)))

pub loop-index-preserved : goal.loop-index-preserved
loop-index-preserved c =
    let below : c.loop-index.index < length c.args.edges.now = omega arith in
    c.loop-index.invariant ∙ later (λ (e : Outer). same_name e.name c.args.name.now) c.args.edges.now c.loop-index.index c.index-edges-index.result below c.index-edges-index.is (ap (λ (m : List ℕ). same_name m c.args.name.now) (sym c.name.ensures) ∙ (sym c.eq.ensures ∙ c.if-eq.false))

pub returns : goal.returns
returns c =
    let all : length c.args.edges.now ≤ c.loop-index.index = omega arith in
    sym (c.loop-index.invariant ∙ none_left (λ (e : Outer). same_name e.name c.args.name.now) c.args.edges.now c.loop-index.index all)
