use Rattle.std.proofs.Common.{ap, arith, length, ◌≡◌}
use Rattle.running_nodes.specs.Halves.{Standing, joined}
use Rattle.running_nodes.proofs.Halves.{as_many_seats}
use Rattle.running_nodes.proofs.nodes.Nodes.reseat.Goals as goal

pub reseat_at-requires-clause-few : goal.reseat_at-requires-clause-few
reseat_at-requires-clause-few c =
    let many = as_many_seats c.self.inside.cores c.self.inside.edges.items c.self.invariant.0 in
    let same : length (joined c.self.inside.cores c.self.inside.edges.items) ≡ length c.args.self.now.seats = ap (λ (s : Standing). length s.seats) c.self.view_is in
    omega (arith, many, same, c.requires.few)
