use Rattle.std.proofs.Common.{ap, arith, length, subst, sym, ◌<◌, ◌≡◌, ◌∙◌}
use Rattle.std.proofs.lemmas.Result.{IfOk-weaker}
use Rattle.running_nodes.specs.Moving.{vacated}
use Rattle.running_nodes.specs.Seats.{Seat}
use Rattle.running_nodes.specs.Steps.{with_seat}
use Rattle.running_nodes.specs.Halves.{AreHalves, Outer, inner, joined, whole}
use Rattle.running_nodes.proofs.Halves.{as_many_seats}
use Rattle.running_nodes.proofs.Seating.{halves_now}
use Rattle.running_nodes.proofs.Standing.{below_inner, halves_are, seat_changed, whole_is}
use Rattle.running_nodes.proofs.nodes.leave_at.Goals as goal

pub bounds-edges-from : goal.bounds-edges-from
bounds-edges-from c =
    let many : length (joined c.args.cores.now c.args.edges.now) ≡ length c.args.edges.now = as_many_seats c.args.cores.now c.args.edges.now c.requires.halves in
    omega (arith, c.from.ensures, c.requires.node, many)

pub leave_over-requires-clause-node : goal.leave_over-requires-clause-node
leave_over-requires-clause-node c = below_inner c.args.cores.now c.args.edges.now c.args.place.node c.requires.halves (let many : length (joined c.args.cores.now c.args.edges.now) ≡ length c.args.edges.now = as_many_seats c.args.cores.now c.args.edges.now c.requires.halves in let lt : c.args.place.node < length c.args.edges.now = omega (arith, c.requires.node) in lt)

pub leave_over-requires-clause-halves : goal.leave_over-requires-clause-halves
leave_over-requires-clause-halves c =
    subst (λ (o : Outer). AreHalves (inner c.args.cores.now c.args.place.node) o) c.index-edges-from.is
    (halves_are c.args.cores.now c.args.edges.now c.requires.halves c.from.result c.args.place.node c.from.ensures (let many : length (joined c.args.cores.now c.args.edges.now) ≡ length c.args.edges.now = as_many_seats c.args.cores.now c.args.edges.now c.requires.halves in let lt : c.args.place.node < length c.args.edges.now = omega (arith, c.requires.node) in lt) c.index-edges-from.result c.index-edges-from.is)

pub returns-clause-halves : goal.returns-clause-halves
returns-clause-halves c =
    halves_now c.args.cores.now c.leave_over.new.cores c.args.edges.now c.from.result c.args.place.node c.leave_over.new.edge c.requires.halves c.from.ensures c.leave_over.ensures.one c.leave_over.ensures.halves

pub returns-clause-left : goal.returns-clause-left
returns-clause-left c =
    let below : c.args.place.node < length c.args.edges.now = (let many : length (joined c.args.cores.now c.args.edges.now) ≡ length c.args.edges.now = as_many_seats c.args.cores.now c.args.edges.now c.requires.halves in let lt : c.args.place.node < length c.args.edges.now = omega (arith, c.requires.node) in lt) in
    IfOk-weaker c.leave_over.result _ _
    (λ _ is. seat_changed c.args.cores.now c.args.edges.now c.requires.halves c.from.result c.args.place.node c.from.ensures below
    c.leave_over.new.cores c.index-edges-from.result c.leave_over.new.edge c.index-edges-from.is c.leave_over.ensures.one
    ∙ ap (λ (n : Seat). with_seat c.args.place.node n (joined c.args.cores.now c.args.edges.now))
    (is ∙ ap (λ (o : Outer). vacated c.args.name.now (whole (inner c.args.cores.now c.args.place.node) o)) (sym c.index-edges-from.is)
    ∙ ap (vacated c.args.name.now)
    (sym (whole_is c.args.cores.now c.args.edges.now c.requires.halves c.from.result c.args.place.node c.from.ensures below
    c.index-edges-from.result c.index-edges-from.is))))
    c.leave_over.ensures.left
