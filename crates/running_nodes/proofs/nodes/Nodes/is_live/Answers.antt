use Rattle.std.proofs.Common.{List, ap, arith, length, sym, ◌≡◌, ◌∙◌, refl}
use Rattle.running_nodes.specs.Seats.{Seat, seat, is_live}
use Rattle.running_nodes.specs.Halves.{Standing, joined}
use Rattle.running_nodes.proofs.Halves.{seat_at}
use Rattle.running_nodes.proofs.Standing.{below_all, below_inner, posts_are}
use Rattle.running_nodes.proofs.nodes.Nodes.is_live.Goals as goal

pub is_live-requires-clause-node : goal.is_live-requires-clause-node
is_live-requires-clause-node c = below_inner c.self.inside.cores c.self.inside.edges.items c.args.place.node c.self.invariant.0 (below_all c.self.inside.cores c.self.inside.edges.items c.args.self.now.seats c.args.place.node c.self.invariant.0 (ap (λ (s : Standing). s.seats) c.self.view_is) c.requires.node)

pub is_live-requires-clause-session : goal.is_live-requires-clause-session
is_live-requires-clause-session c =
    let was = posts_are c.self.inside.cores c.self.inside.edges.items c.self.invariant.0 c.args.place.node c.args.place.node refl (below_all c.self.inside.cores c.self.inside.edges.items c.args.self.now.seats c.args.place.node c.self.invariant.0 (ap (λ (s : Standing). s.seats) c.self.view_is) c.requires.node) in
    let same : length (seat (joined c.self.inside.cores c.self.inside.edges.items) c.args.place.node).posts ≡ length (seat c.args.self.now.seats c.args.place.node).posts = ap (λ (ss : List Seat). length (seat ss c.args.place.node).posts) (ap (λ (s : Standing). s.seats) c.self.view_is) in
    omega (arith, c.requires.session)

pub returns : goal.returns
returns c =
    c.is_live.ensures
    ∙ (ap (λ (n : Seat). is_live n c.args.place.session) (sym (seat_at c.self.inside.cores c.self.inside.edges.items c.args.place.node c.self.invariant.0 (below_all c.self.inside.cores c.self.inside.edges.items c.args.self.now.seats c.args.place.node c.self.invariant.0 (ap (λ (s : Standing). s.seats) c.self.view_is) c.requires.node)))
    ∙ ap (λ (ss : List Seat). is_live (seat ss c.args.place.node) c.args.place.session) (ap (λ (s : Standing). s.seats) c.self.view_is))
