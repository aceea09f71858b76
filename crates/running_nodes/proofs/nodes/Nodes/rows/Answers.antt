use Rattle.std.proofs.Common.{List, IfOk, ap, subst, sym, ◌≡◌, ◌∙◌}
use Rattle.running_nodes.specs.Seats.{Seat, seat}
use Rattle.running_nodes.specs.Halves.{Standing}
use Rattle.running_nodes.proofs.Halves.{seat_at}
use Rattle.running_nodes.proofs.Standing.{below_all, below_inner}
use Rattle.ov_types.specs.declared.rows.NodeRows.{NodeRows}
use Rattle.running_nodes.specs.Steps.{shown_by}
use Rattle.running_nodes.proofs.nodes.Nodes.rows.Goals as goal

pub rows-requires-clause-node : goal.rows-requires-clause-node
rows-requires-clause-node c = below_inner c.self.inside.cores c.self.inside.edges.items c.args.node c.self.invariant.0 (below_all c.self.inside.cores c.self.inside.edges.items c.args.self.now.seats c.args.node c.self.invariant.0 (ap (λ (s : Standing). s.seats) c.self.view_is) c.requires.node)

pub returns : goal.returns
returns c =
    subst (λ (n : Seat). IfOk c.rows.result (λ (rows : NodeRows). rows ≡ shown_by n))
    (sym (seat_at c.self.inside.cores c.self.inside.edges.items c.args.node c.self.invariant.0 (below_all c.self.inside.cores c.self.inside.edges.items c.args.self.now.seats c.args.node c.self.invariant.0 (ap (λ (s : Standing). s.seats) c.self.view_is) c.requires.node)) ∙ ap (λ (ss : List Seat). seat ss c.args.node) (ap (λ (s : Standing). s.seats) c.self.view_is))
    c.rows.ensures
