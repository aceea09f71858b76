use Rattle.std.proofs.Common.{List, ap, ◌∙◌}
use Rattle.ov_types.specs.First.{same_name}
use Rattle.running_nodes.specs.Seats.{Seat, index_from, seat_named}
use Rattle.running_nodes.specs.Halves.{Outer, Standing}
use Rattle.running_nodes.proofs.Halves.{named_at}
use Rattle.running_nodes.proofs.nodes.Nodes.seat_named.Goals as goal

pub returns : goal.returns
returns c = (c.edge_named.ensures ∙ (ap (λ (os : List Outer). index_from 0 (λ (o : Outer). same_name o.name c.args.name.now) os) c.deref.ensures.value ∙ (named_at c.self.inside.cores c.self.inside.edges.items 0 c.args.name.now c.self.invariant.0 ∙ ap (λ (ss : List Seat). seat_named ss c.args.name.now) (ap (λ (s : Standing). s.seats) c.self.view_is))))
