use Rattle.std.proofs.Common.{[], List, ap, arith, drop, get_or, length, set, subst, sym, ◌≡◌, ◌∙◌}
use Rattle.std.specs.List.{slice_get}
use Rattle.std.proofs.lemmas.List.{length-set}
use Rattle.running_nodes.specs.Seats.{Seat, seat}
use Rattle.running_nodes.specs.Halves.{IsEven, Outer, Standing, inner, joined, whole}
use Rattle.running_nodes.proofs.Standing.{below_all, edge_changed, edge_kept, even_links, halves_are, others_are, whole_is}
use Rattle.running_nodes.proofs.nodes.Nodes.pop.Goals as goal

pub index_mut-requires : goal.index_mut-requires
index_mut-requires c =
    let below = (below_all c.self.inside.cores c.self.inside.edges.items c.args.self.now.seats c.args.place.node c.self.invariant.0 (ap (λ (s : Standing). s.seats) c.self.view_is) c.requires.node) in
    omega (arith, c.from.ensures, c.self.inside.edges.ok.0)

pub pop-requires : goal.pop-requires
pop-requires c =
    let posts : length (seat c.args.self.now.seats c.args.place.node).posts ≡ length c.index_mut.result.now.others =
    ap (λ (ss : List Seat). length (seat ss c.args.place.node).posts) (sym (ap (λ (s : Standing). s.seats) c.self.view_is)) ∙ others_are c.self.inside.cores c.self.inside.edges.items c.self.invariant.0 c.from.result c.args.place.node c.from.ensures (below_all c.self.inside.cores c.self.inside.edges.items c.args.self.now.seats c.args.place.node c.self.invariant.0 (ap (λ (s : Standing). s.seats) c.self.view_is) c.requires.node) c.index_mut.result.now c.index_mut.ensures.value in
    omega (arith, c.requires.session)

pub invariant_of-self : goal.invariant_of-self
invariant_of-self c =
    let even : IsEven c.pop.new.self =
    subst IsEven (sym c.pop.ensures.rest) (even_links c.index_mut.result.now (set c.index_mut.result.now.links c.args.place.session (drop 1 (get_or c.index_mut.result.now.links c.args.place.session []))) (halves_are c.self.inside.cores c.self.inside.edges.items c.self.invariant.0 c.from.result c.args.place.node c.from.ensures (below_all c.self.inside.cores c.self.inside.edges.items c.args.self.now.seats c.args.place.node c.self.invariant.0 (ap (λ (s : Standing). s.seats) c.self.view_is) c.requires.node) c.index_mut.result.now c.index_mut.ensures.value).even (length-set c.index_mut.result.now.links c.args.place.session _)) in (
      edge_kept c.self.inside.cores c.self.inside.edges.items c.self.invariant.0 c.from.result c.args.place.node c.from.ensures (below_all c.self.inside.cores c.self.inside.edges.items c.args.self.now.seats c.args.place.node c.self.invariant.0 (ap (λ (s : Standing). s.seats) c.self.view_is) c.requires.node) c.index_mut.result.now c.pop.new.self c.index_mut.ensures.value (ap (λ (o : Outer). o.name) c.pop.ensures.rest) (ap (λ (o : Outer). o.others) c.pop.ensures.rest) even,
      omega (arith, length-set c.self.inside.edges.items c.from.result c.pop.new.self, c.self.invariant.1),
    )

pub returns-clause-rest : goal.returns-clause-rest
returns-clause-rest c =
    edge_changed c.self.inside.cores c.self.inside.edges.items c.self.invariant.0 c.from.result c.args.place.node c.from.ensures (below_all c.self.inside.cores c.self.inside.edges.items c.args.self.now.seats c.args.place.node c.self.invariant.0 (ap (λ (s : Standing). s.seats) c.self.view_is) c.requires.node) c.pop.new.self
    ∙ (ap (λ (o : Outer). set (joined c.self.inside.cores c.self.inside.edges.items) c.args.place.node (whole (inner c.self.inside.cores c.args.place.node) o)) c.pop.ensures.rest
    ∙ (ap (λ (n : Seat). set (joined c.self.inside.cores c.self.inside.edges.items) c.args.place.node (record n { links = set n.links c.args.place.session (drop 1 (get_or n.links c.args.place.session [])) })) (sym (whole_is c.self.inside.cores c.self.inside.edges.items c.self.invariant.0 c.from.result c.args.place.node c.from.ensures (below_all c.self.inside.cores c.self.inside.edges.items c.args.self.now.seats c.args.place.node c.self.invariant.0 (ap (λ (s : Standing). s.seats) c.self.view_is) c.requires.node) c.index_mut.result.now c.index_mut.ensures.value))
    ∙ ap (λ (ss : List Seat). let n : Seat = seat ss c.args.place.node in set ss c.args.place.node (record n { links = set n.links c.args.place.session (drop 1 (get_or n.links c.args.place.session [])) })) (ap (λ (s : Standing). s.seats) c.self.view_is)))

pub returns-clause-first : goal.returns-clause-first
returns-clause-first c =
    c.pop.ensures.first
    ∙ (ap (λ (n : Seat). slice_get (get_or n.links c.args.place.session []) 0) (sym (whole_is c.self.inside.cores c.self.inside.edges.items c.self.invariant.0 c.from.result c.args.place.node c.from.ensures (below_all c.self.inside.cores c.self.inside.edges.items c.args.self.now.seats c.args.place.node c.self.invariant.0 (ap (λ (s : Standing). s.seats) c.self.view_is) c.requires.node) c.index_mut.result.now c.index_mut.ensures.value))
    ∙ ap (λ (ss : List Seat). slice_get (get_or (seat ss c.args.place.node).links c.args.place.session []) 0) (ap (λ (s : Standing). s.seats) c.self.view_is))
