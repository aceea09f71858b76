use Rattle.std.proofs.Common.{[], List, ap, arith, get_or, length, sym, ◌≡◌, ◌∙◌}
use Rattle.running_nodes.specs.Seats.{Seat, seat}
use Rattle.running_nodes.specs.Halves.{Standing}
use Rattle.running_nodes.proofs.Standing.{below_all, others_are, whole_is}
use Rattle.running_nodes.proofs.nodes.Nodes.sent.Goals as goal

pub index-requires : goal.index-requires
index-requires c =
    let below = (below_all c.self.inside.cores c.self.inside.edges.items c.args.self.now.seats c.args.place.node c.self.invariant.0 (ap (λ (s : Standing). s.seats) c.self.view_is) c.requires.node) in
    omega (arith, c.from.ensures, c.self.inside.edges.ok.0)

pub sent-requires : goal.sent-requires
sent-requires c =
    let posts : length (seat c.args.self.now.seats c.args.place.node).posts ≡ length c.index.result.now.others =
    ap (λ (ss : List Seat). length (seat ss c.args.place.node).posts) (sym (ap (λ (s : Standing). s.seats) c.self.view_is)) ∙ others_are c.self.inside.cores c.self.inside.edges.items c.self.invariant.0 c.from.result c.args.place.node c.from.ensures (below_all c.self.inside.cores c.self.inside.edges.items c.args.self.now.seats c.args.place.node c.self.invariant.0 (ap (λ (s : Standing). s.seats) c.self.view_is) c.requires.node) c.index.result.now c.index.ensures in
    omega (arith, c.requires.session)

pub returns : goal.returns
returns c =
    c.sent.ensures
    ∙ (ap (λ (n : Seat). length (get_or n.links c.args.place.session [])) (sym (whole_is c.self.inside.cores c.self.inside.edges.items c.self.invariant.0 c.from.result c.args.place.node c.from.ensures (below_all c.self.inside.cores c.self.inside.edges.items c.args.self.now.seats c.args.place.node c.self.invariant.0 (ap (λ (s : Standing). s.seats) c.self.view_is) c.requires.node) c.index.result.now c.index.ensures))
    ∙ ap (λ (ss : List Seat). let n : Seat = seat ss c.args.place.node in length (get_or n.links c.args.place.session [])) (ap (λ (s : Standing). s.seats) c.self.view_is))
