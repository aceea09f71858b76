use Rattle.std.proofs.Common.{List, ap, sym, ◌∙◌}
use Rattle.running_nodes.specs.Seats.{Seat}
use Rattle.running_nodes.specs.Halves.{Standing}
use Rattle.running_nodes.proofs.Halves.{forwarded_by}
use Rattle.route_targets.specs.Forwarding.{Forwarder, forwarding}
use Rattle.running_nodes.specs.Steps.{forwarders_of}
use Rattle.running_nodes.proofs.nodes.Nodes.trace.Goals as goal

pub returns-clause-outcome : goal.returns-clause-outcome
returns-clause-outcome c =
    c.trace.ensures.outcome
    ∙ (ap (λ (fs : List Forwarder). forwarding fs c.args.packet) (sym (forwarded_by c.self.inside.cores c.self.inside.edges.items c.self.invariant.0))
    ∙ ap (λ (ss : List Seat). forwarding (forwarders_of ss) c.args.packet) (ap (λ (s : Standing). s.seats) c.self.view_is))
