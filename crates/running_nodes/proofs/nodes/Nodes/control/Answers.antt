use Rattle.std.proofs.Common.{List, ap, option_copied, subst, sym, ◌∙◌}
use Rattle.running_nodes.specs.Seats.{Seat, seat}
use Rattle.running_nodes.specs.Cores.{HoldsAs, held_by}
use Rattle.running_nodes.specs.Halves.{Standing}
use Rattle.running_nodes.proofs.Halves.{seat_at}
use Rattle.running_nodes.proofs.Standing.{below_all, below_inner}
use Rattle.running_nodes.proofs.nodes.Nodes.control.Goals as goal

pub control-requires : goal.control-requires
control-requires c = below_inner c.self.inside.cores c.self.inside.edges.items c.args.node c.self.invariant.0 (below_all c.self.inside.cores c.self.inside.edges.items c.args.self.now.seats c.args.node c.self.invariant.0 (ap (λ (s : Standing). s.seats) c.self.view_is) c.requires)

pub returns : goal.returns
returns c =
    subst (λ (n : Seat). HoldsAs (option_copied c.control.result) (held_by n.who n.posts))
    (sym (seat_at c.self.inside.cores c.self.inside.edges.items c.args.node c.self.invariant.0 (below_all c.self.inside.cores c.self.inside.edges.items c.args.self.now.seats c.args.node c.self.invariant.0 (ap (λ (s : Standing). s.seats) c.self.view_is) c.requires)) ∙ ap (λ (ss : List Seat). seat ss c.args.node) (ap (λ (s : Standing). s.seats) c.self.view_is))
    c.control.ensures
