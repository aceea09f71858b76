use Rattle.std.proofs.Common.{List, ap, arith, length, sym, ◌≡◌, ◌∙◌, refl}
use Rattle.running_nodes.specs.Seats.{Seat, kept_in, seat}
use Rattle.running_nodes.specs.Halves.{Standing, joined}
use Rattle.running_nodes.proofs.Halves.{seat_at}
use Rattle.running_nodes.proofs.Standing.{below_all, below_inner, posts_are}
use Rattle.running_nodes.proofs.nodes.Nodes.kept.Goals as goal

pub pending-requires-clause-node : goal.pending-requires-clause-node
pending-requires-clause-node c = below_inner c.self.inside.cores c.self.inside.edges.items c.args.place.node c.self.invariant.0 (below_all c.self.inside.cores c.self.inside.edges.items c.args.self.now.seats c.args.place.node c.self.invariant.0 (ap (λ (s : Standing). s.seats) c.self.view_is) c.requires.node)

pub pending-requires-clause-session : goal.pending-requires-clause-session
pending-requires-clause-session c =
    let was = posts_are c.self.inside.cores c.self.inside.edges.items c.self.invariant.0 c.args.place.node c.args.place.node refl (below_all c.self.inside.cores c.self.inside.edges.items c.args.self.now.seats c.args.place.node c.self.invariant.0 (ap (λ (s : Standing). s.seats) c.self.view_is) c.requires.node) in
    let same : length (seat (joined c.self.inside.cores c.self.inside.edges.items) c.args.place.node).posts ≡ length (seat c.args.self.now.seats c.args.place.node).posts = ap (λ (ss : List Seat). length (seat ss c.args.place.node).posts) (ap (λ (s : Standing). s.seats) c.self.view_is) in
    omega (arith, c.requires.session)

pub returns : goal.returns
returns c =
    c.pending.ensures
    ∙ (ap (λ (n : Seat). length (kept_in n c.args.place.session)) (sym (seat_at c.self.inside.cores c.self.inside.edges.items c.args.place.node c.self.invariant.0 (below_all c.self.inside.cores c.self.inside.edges.items c.args.self.now.seats c.args.place.node c.self.invariant.0 (ap (λ (s : Standing). s.seats) c.self.view_is) c.requires.node)))
    ∙ ap (λ (ss : List Seat). length (kept_in (seat ss c.args.place.node) c.args.place.session)) (ap (λ (s : Standing). s.seats) c.self.view_is))
