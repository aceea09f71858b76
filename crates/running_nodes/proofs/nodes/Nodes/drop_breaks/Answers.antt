use Rattle.std.proofs.Common.{◌≡◌, ◌++◌, List, ap, arith, drop, length, map, subst, sym, take, ◌∙◌}
use Rattle.std.proofs.lemmas.List.{length-map}
use Rattle.running_nodes.specs.Steps.{unbroken}
use Rattle.running_nodes.specs.Changes.{unbroken_outer}
use Rattle.running_nodes.specs.Halves.{AreAllHalves, Outer, Standing, joined}
use Rattle.running_nodes.proofs.Cleared.{all_written}
use Rattle.running_nodes.proofs.Halves.{halves_unbroken, joined_unbroken}
use Rattle.running_nodes.proofs.nodes.Nodes.drop_breaks.Goals as goal

-- the edges as they are written
written : (old new here later : List Outer) → here ≡ old → new ≡ map unbroken_outer here → later ≡ new → later ≡ map unbroken_outer old
written old new here later value drops all = all ∙ (drops ∙ ap (λ (os : List Outer). map unbroken_outer os) value)

as_many : (old new here : List Outer) → here ≡ old → new ≡ map unbroken_outer here → length new ≡ length old
as_many old new here value drops = ap length drops ∙ (length-map here unbroken_outer ∙ ap length value)

pub invariant_of-self : goal.invariant_of-self
invariant_of-self c =
    let old = c.self.inside.edges.items in
    let new = c.drop_all_breaks.new.edges in
    let many : c.self.inside.edges.len ≡ length old = omega (arith, c.self.inside.edges.ok.0) in
    let later = take c.self.inside.edges.len (new ++ drop (length new) old) in
    let is : later ≡ map unbroken_outer old =
    written old new c.deref_mut.result.now later c.deref_mut.ensures.value c.drop_all_breaks.ensures (all_written old new c.self.inside.edges.len many (as_many old new c.deref_mut.result.now c.deref_mut.ensures.value c.drop_all_breaks.ensures)) in (
      subst (λ (os : List Outer). AreAllHalves c.self.inside.cores os) (sym is) (halves_unbroken c.self.inside.cores old c.self.invariant.0),
      omega (arith, ap length is, length-map old unbroken_outer, c.self.invariant.1),
    )

pub returns-clause-dropped : goal.returns-clause-dropped
returns-clause-dropped c =
    let old = c.self.inside.edges.items in
    let new = c.drop_all_breaks.new.edges in
    let many : c.self.inside.edges.len ≡ length old = omega (arith, c.self.inside.edges.ok.0) in
    let later = take c.self.inside.edges.len (new ++ drop (length new) old) in
    let is : later ≡ map unbroken_outer old =
    written old new c.deref_mut.result.now later c.deref_mut.ensures.value c.drop_all_breaks.ensures (all_written old new c.self.inside.edges.len many (as_many old new c.deref_mut.result.now c.deref_mut.ensures.value c.drop_all_breaks.ensures)) in
    ap (λ (os : List Outer). joined c.self.inside.cores os) is
    ∙ (joined_unbroken c.self.inside.cores old ∙ ap (λ (s : Standing). map unbroken s.seats) c.self.view_is)
