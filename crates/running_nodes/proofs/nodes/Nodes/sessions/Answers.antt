use Rattle.std.proofs.Common.{List, ap, arith, length, sym, ◌∙◌}
use Rattle.running_nodes.specs.Seats.{Seat, seat}
use Rattle.running_nodes.specs.Halves.{Standing}
use Rattle.running_nodes.proofs.Standing.{below_all, others_are}
use Rattle.running_nodes.proofs.nodes.Nodes.sessions.Goals as goal

pub index-requires : goal.index-requires
index-requires c =
    let below = (below_all c.self.inside.cores c.self.inside.edges.items c.args.self.now.seats c.args.node c.self.invariant.0 (ap (λ (s : Standing). s.seats) c.self.view_is) c.requires) in
    omega (arith, c.from.ensures, c.self.inside.edges.ok.0)

pub returns : goal.returns
returns c =
    c.sessions.ensures.sessions
    ∙ (sym (others_are c.self.inside.cores c.self.inside.edges.items c.self.invariant.0 c.from.result c.args.node c.from.ensures (below_all c.self.inside.cores c.self.inside.edges.items c.args.self.now.seats c.args.node c.self.invariant.0 (ap (λ (s : Standing). s.seats) c.self.view_is) c.requires) c.index.result.now c.index.ensures) ∙ ap (λ (ss : List Seat). length (seat ss c.args.node).posts) (ap (λ (s : Standing). s.seats) c.self.view_is))
