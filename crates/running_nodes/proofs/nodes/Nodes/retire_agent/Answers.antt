use Rattle.std.proofs.Common.{ap}
use Rattle.running_nodes.specs.Halves.{Standing}
use Rattle.running_nodes.proofs.Seating.{alone_there}
use Rattle.running_nodes.proofs.nodes.Nodes.retire_agent.Goals as goal

pub leave_at-requires-clause-alone : goal.leave_at-requires-clause-alone
leave_at-requires-clause-alone c =
    alone_there c.self.inside.cores c.self.inside.edges.items c.args.self.now.seats c.args.place.node c.args.place.session c.args.name.now c.self.invariant.0
    (ap (λ (s : Standing). s.seats) c.self.view_is) c.requires.node c.requires.agent c.requires.there c.requires.alone
