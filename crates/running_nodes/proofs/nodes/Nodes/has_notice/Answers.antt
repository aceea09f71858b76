use Rattle.std.proofs.Common.{List, ap, arith, false, get_or, length, sym, ◌≡◌, ◌∙◌}
use Rattle.running_nodes.specs.Seats.{Seat, seat}
use Rattle.running_nodes.specs.Halves.{Standing}
use Rattle.running_nodes.proofs.Standing.{below_all, others_are, whole_is}
use Rattle.running_nodes.proofs.nodes.Nodes.has_notice.Goals as goal

pub index-requires : goal.index-requires
index-requires c =
    let below = (below_all c.self.inside.cores c.self.inside.edges.items c.args.self.now.seats c.args.place.node c.self.invariant.0 (ap (λ (s : Standing). s.seats) c.self.view_is) c.requires.node) in
    omega (arith, c.from.ensures, c.self.inside.edges.ok.0)

pub has_notice-requires : goal.has_notice-requires
has_notice-requires c =
    let posts : length (seat c.args.self.now.seats c.args.place.node).posts ≡ length c.index.result.now.others =
    ap (λ (ss : List Seat). length (seat ss c.args.place.node).posts) (sym (ap (λ (s : Standing). s.seats) c.self.view_is)) ∙ others_are c.self.inside.cores c.self.inside.edges.items c.self.invariant.0 c.from.result c.args.place.node c.from.ensures (below_all c.self.inside.cores c.self.inside.edges.items c.args.self.now.seats c.args.place.node c.self.invariant.0 (ap (λ (s : Standing). s.seats) c.self.view_is) c.requires.node) c.index.result.now c.index.ensures in
    omega (arith, c.requires.session)

pub returns : goal.returns
returns c =
    c.has_notice.ensures
    ∙ (ap (λ (n : Seat). get_or n.notices c.args.place.session false) (sym (whole_is c.self.inside.cores c.self.inside.edges.items c.self.invariant.0 c.from.result c.args.place.node c.from.ensures (below_all c.self.inside.cores c.self.inside.edges.items c.args.self.now.seats c.args.place.node c.self.invariant.0 (ap (λ (s : Standing). s.seats) c.self.view_is) c.requires.node) c.index.result.now c.index.ensures))
    ∙ ap (λ (ss : List Seat). let n : Seat = seat ss c.args.place.node in get_or n.notices c.args.place.session false) (ap (λ (s : Standing). s.seats) c.self.view_is))
