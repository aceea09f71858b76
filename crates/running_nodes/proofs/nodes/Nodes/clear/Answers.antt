use Rattle.std.proofs.Common.{[], List, ap, arith, length, set, subst, sym, ◌≡◌, ◌∙◌}
use Rattle.std.proofs.lemmas.List.{length-set}
use Rattle.running_nodes.specs.Seats.{Seat, seat}
use Rattle.running_nodes.specs.Halves.{IsEven, Outer, Standing, inner, joined, whole}
use Rattle.running_nodes.proofs.Standing.{below_all, edge_changed, edge_kept, even_links, halves_are, others_are, whole_is}
use Rattle.running_nodes.proofs.nodes.Nodes.clear.Goals as goal

pub index_mut-requires : goal.index_mut-requires
index_mut-requires c =
    let below = (below_all c.self.inside.cores c.self.inside.edges.items c.args.self.now.seats c.args.place.node c.self.invariant.0 (ap (λ (s : Standing). s.seats) c.self.view_is) c.requires.node) in
    omega (arith, c.from.ensures, c.self.inside.edges.ok.0)

pub clear-requires : goal.clear-requires
clear-requires c =
    let posts : length (seat c.args.self.now.seats c.args.place.node).posts ≡ length c.index_mut.result.now.others =
    ap (λ (ss : List Seat). length (seat ss c.args.place.node).posts) (sym (ap (λ (s : Standing). s.seats) c.self.view_is)) ∙ others_are c.self.inside.cores c.self.inside.edges.items c.self.invariant.0 c.from.result c.args.place.node c.from.ensures (below_all c.self.inside.cores c.self.inside.edges.items c.args.self.now.seats c.args.place.node c.self.invariant.0 (ap (λ (s : Standing). s.seats) c.self.view_is) c.requires.node) c.index_mut.result.now c.index_mut.ensures.value in
    omega (arith, c.requires.session)

pub invariant_of-self : goal.invariant_of-self
invariant_of-self c =
    let even : IsEven c.clear.new.self =
    subst IsEven (sym c.clear.ensures) (even_links c.index_mut.result.now (set c.index_mut.result.now.links c.args.place.session []) (halves_are c.self.inside.cores c.self.inside.edges.items c.self.invariant.0 c.from.result c.args.place.node c.from.ensures (below_all c.self.inside.cores c.self.inside.edges.items c.args.self.now.seats c.args.place.node c.self.invariant.0 (ap (λ (s : Standing). s.seats) c.self.view_is) c.requires.node) c.index_mut.result.now c.index_mut.ensures.value).even (length-set c.index_mut.result.now.links c.args.place.session _)) in (
      edge_kept c.self.inside.cores c.self.inside.edges.items c.self.invariant.0 c.from.result c.args.place.node c.from.ensures (below_all c.self.inside.cores c.self.inside.edges.items c.args.self.now.seats c.args.place.node c.self.invariant.0 (ap (λ (s : Standing). s.seats) c.self.view_is) c.requires.node) c.index_mut.result.now c.clear.new.self c.index_mut.ensures.value (ap (λ (o : Outer). o.name) c.clear.ensures) (ap (λ (o : Outer). o.others) c.clear.ensures) even,
      omega (arith, length-set c.self.inside.edges.items c.from.result c.clear.new.self, c.self.invariant.1),
    )

pub returns-clause-cleared : goal.returns-clause-cleared
returns-clause-cleared c =
    edge_changed c.self.inside.cores c.self.inside.edges.items c.self.invariant.0 c.from.result c.args.place.node c.from.ensures (below_all c.self.inside.cores c.self.inside.edges.items c.args.self.now.seats c.args.place.node c.self.invariant.0 (ap (λ (s : Standing). s.seats) c.self.view_is) c.requires.node) c.clear.new.self
    ∙ (ap (λ (o : Outer). set (joined c.self.inside.cores c.self.inside.edges.items) c.args.place.node (whole (inner c.self.inside.cores c.args.place.node) o)) c.clear.ensures
    ∙ (ap (λ (n : Seat). set (joined c.self.inside.cores c.self.inside.edges.items) c.args.place.node (record n { links = set n.links c.args.place.session [] })) (sym (whole_is c.self.inside.cores c.self.inside.edges.items c.self.invariant.0 c.from.result c.args.place.node c.from.ensures (below_all c.self.inside.cores c.self.inside.edges.items c.args.self.now.seats c.args.place.node c.self.invariant.0 (ap (λ (s : Standing). s.seats) c.self.view_is) c.requires.node) c.index_mut.result.now c.index_mut.ensures.value))
    ∙ ap (λ (ss : List Seat). let n : Seat = seat ss c.args.place.node in set ss c.args.place.node (record n { links = set n.links c.args.place.session [] })) (ap (λ (s : Standing). s.seats) c.self.view_is)))
