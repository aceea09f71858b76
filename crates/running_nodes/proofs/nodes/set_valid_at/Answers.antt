use Rattle.std.proofs.Common.{arith, ap, length, sym, ◌<◌, ◌≡◌, ◌∙◌, refl}
use Rattle.running_nodes.specs.Seats.{Seat}
use Rattle.running_nodes.proofs.Halves.{as_many, seat_at}
use Rattle.running_nodes.proofs.Standing.{sets_at}
use Rattle.running_nodes.proofs.nodes.set_valid_at.Goals as goal

pub set_valid-requires-clause-same : goal.set_valid-requires-clause-same
set_valid-requires-clause-same c =
    let many : length c.args.cores.now ≡ length c.args.edges.now = as_many c.args.cores.now c.args.edges.now c.requires.halves in
    let some : 0 < length c.args.edges.now = omega (arith, c.valid-valid.ensures.some) in
    λ x who. c.requires.same x (ap (λ (n : Seat). n.who) (seat_at c.args.cores.now c.args.edges.now 0 c.requires.halves some) ∙ who)

pub returns-clause-configures : goal.returns-clause-configures
returns-clause-configures c =
    sets_at c.args.cores.now c.args.edges.now c.requires.halves 0 0 refl (let many : length c.args.cores.now ≡ length c.args.edges.now = as_many c.args.cores.now c.args.edges.now c.requires.halves in let lt : 0 < length c.args.edges.now = omega (arith, c.valid-valid.ensures.some) in lt) c.set_valid.new.self
    c.edge.inside.name c.edge.inside.others.items c.edge.inside.notices.items c.edge.inside.links c.set_valid.new.links c.index-edges-0.result c.index-edges-0.is (c.edge.view_is ∙ sym c.index-edges-0.is)
    c.set_valid.result c.args.valid c.set_valid.ensures.one.one refl c.set_valid.ensures.sets
