use Rattle.std.proofs.Common.{List, ap, arith, length, set, sym, ◌<◌, ◌≡◌, ◌∙◌}
use Rattle.std.proofs.lemmas.List.{get_or-set_same}
use Rattle.running_nodes.specs.Seats.{Seat}
use Rattle.running_nodes.specs.Steps.{emptied}
use Rattle.running_nodes.specs.Changes.{emptied_inner}
use Rattle.running_nodes.specs.Halves.{Inner, Outer, inner, joined, no_inner, whole}
use Rattle.running_nodes.proofs.Halves.{as_many_seats, halves_at}
use Rattle.running_nodes.proofs.Standing.{below_inner, halves_are, seat_changed, seat_kept, whole_is}
use Rattle.running_nodes.proofs.Emptied.{emptied_even, emptied_one, emptied_outer}
use Rattle.running_nodes.proofs.nodes.restart_at.Goals as goal

pub restart-requires-clause-node : goal.restart-requires-clause-node
restart-requires-clause-node c = below_inner c.args.cores.now c.args.edges.now c.args.node c.requires.halves (let many : length (joined c.args.cores.now c.args.edges.now) ≡ length c.args.edges.now = as_many_seats c.args.cores.now c.args.edges.now c.requires.halves in let lt : c.args.node < length c.args.edges.now = omega (arith, c.requires.node) in lt)

pub restart-requires-clause-long : goal.restart-requires-clause-long
restart-requires-clause-long c = (halves_at c.args.cores.now c.args.edges.now c.args.node c.requires.halves (let many : length (joined c.args.cores.now c.args.edges.now) ≡ length c.args.edges.now = as_many_seats c.args.cores.now c.args.edges.now c.requires.halves in let lt : c.args.node < length c.args.edges.now = omega (arith, c.requires.node) in lt)).posts

pub restart-requires-clause-kept : goal.restart-requires-clause-kept
restart-requires-clause-kept c = (halves_at c.args.cores.now c.args.edges.now c.args.node c.requires.halves (let many : length (joined c.args.cores.now c.args.edges.now) ≡ length c.args.edges.now = as_many_seats c.args.cores.now c.args.edges.now c.requires.halves in let lt : c.args.node < length c.args.edges.now = omega (arith, c.requires.node) in lt)).kept

pub bounds-edges-from : goal.bounds-edges-from
bounds-edges-from c = let below : c.args.node < length c.args.edges.now = (let many : length (joined c.args.cores.now c.args.edges.now) ≡ length c.args.edges.now = as_many_seats c.args.cores.now c.args.edges.now c.requires.halves in let lt : c.args.node < length c.args.edges.now = omega (arith, c.requires.node) in lt) in omega (arith, c.from.ensures)

pub returns-clause-halves : goal.returns-clause-halves
returns-clause-halves c =
    seat_kept c.args.cores.now c.args.edges.now c.requires.halves c.from.result c.args.node c.from.ensures (let many : length (joined c.args.cores.now c.args.edges.now) ≡ length c.args.edges.now = as_many_seats c.args.cores.now c.args.edges.now c.requires.halves in let lt : c.args.node < length c.args.edges.now = omega (arith, c.requires.node) in lt) c.restart.new.self c.index-edges-from.result c.restart-2.new.self c.index-edges-from.is (let below : c.args.node < length c.args.cores.now = below_inner c.args.cores.now c.args.edges.now c.args.node c.requires.halves (let many : length (joined c.args.cores.now c.args.edges.now) ≡ length c.args.edges.now = as_many_seats c.args.cores.now c.args.edges.now c.requires.halves in let lt : c.args.node < length c.args.edges.now = omega (arith, c.requires.node) in lt) in
    emptied_one c.args.cores.now c.restart.new.self c.args.node c.restart.ensures below)
    (ap (λ (o : Outer). o.name) (c.restart-2.ensures ∙ ap emptied_outer (sym c.index-edges-from.is))) (ap (λ (o : Outer). o.others) (c.restart-2.ensures ∙ ap emptied_outer (sym c.index-edges-from.is)))
    (emptied_even c.index-edges-from.result c.restart-2.new.self (c.restart-2.ensures ∙ ap emptied_outer (sym c.index-edges-from.is)) (halves_are c.args.cores.now c.args.edges.now c.requires.halves c.from.result c.args.node c.from.ensures (let many : length (joined c.args.cores.now c.args.edges.now) ≡ length c.args.edges.now = as_many_seats c.args.cores.now c.args.edges.now c.requires.halves in let lt : c.args.node < length c.args.edges.now = omega (arith, c.requires.node) in lt) c.index-edges-from.result c.index-edges-from.is).even)

pub returns-clause-emptied : goal.returns-clause-emptied
returns-clause-emptied c =
    let below : c.args.node < length c.args.cores.now = below_inner c.args.cores.now c.args.edges.now c.args.node c.requires.halves (let many : length (joined c.args.cores.now c.args.edges.now) ≡ length c.args.edges.now = as_many_seats c.args.cores.now c.args.edges.now c.requires.halves in let lt : c.args.node < length c.args.edges.now = omega (arith, c.requires.node) in lt) in
    let now : inner c.restart.new.self c.args.node ≡ emptied_inner (inner c.args.cores.now c.args.node) =
    ap (λ (ns : List Inner). inner ns c.args.node) c.restart.ensures ∙ get_or-set_same c.args.cores.now c.args.node (emptied_inner (inner c.args.cores.now c.args.node)) no_inner below in
    seat_changed c.args.cores.now c.args.edges.now c.requires.halves c.from.result c.args.node c.from.ensures (let many : length (joined c.args.cores.now c.args.edges.now) ≡ length c.args.edges.now = as_many_seats c.args.cores.now c.args.edges.now c.requires.halves in let lt : c.args.node < length c.args.edges.now = omega (arith, c.requires.node) in lt) c.restart.new.self c.index-edges-from.result c.restart-2.new.self c.index-edges-from.is (emptied_one c.args.cores.now c.restart.new.self c.args.node c.restart.ensures below).one
    ∙ (ap (λ (n : Inner). set (joined c.args.cores.now c.args.edges.now) c.args.node (whole n c.restart-2.new.self)) now
    ∙ (ap (λ (o : Outer). set (joined c.args.cores.now c.args.edges.now) c.args.node (whole (emptied_inner (inner c.args.cores.now c.args.node)) o)) (c.restart-2.ensures ∙ ap emptied_outer (sym c.index-edges-from.is))
    ∙ ap (λ (n : Seat). set (joined c.args.cores.now c.args.edges.now) c.args.node (emptied n)) (sym (whole_is c.args.cores.now c.args.edges.now c.requires.halves c.from.result c.args.node c.from.ensures (let many : length (joined c.args.cores.now c.args.edges.now) ≡ length c.args.edges.now = as_many_seats c.args.cores.now c.args.edges.now c.requires.halves in let lt : c.args.node < length c.args.edges.now = omega (arith, c.requires.node) in lt) c.index-edges-from.result c.index-edges-from.is))))
