use Rattle.std.proofs.Common.{ap, arith, get_or, length, sym, ◌<◌, ◌≡◌, ◌∙◌}
use Rattle.std.proofs.lemmas.List.{length-set}
use Rattle.running_nodes.specs.Moving.{joined as joined_by_agent}
use Rattle.running_nodes.specs.Steps.{with_seat}
use Rattle.running_nodes.specs.Seats.{Configuring, Controlling, Seat, nobody}
use Rattle.running_nodes.specs.Halves.{inner, joined}
use Rattle.running_nodes.proofs.Halves.{as_many_seats, seat_at}
use Rattle.running_nodes.proofs.Seating.{first_left, halves_now, not_first}
use Rattle.running_nodes.proofs.Standing.{below_inner, halves_are, seat_changed, whole_is}
use Rattle.running_nodes.proofs.nodes.join_at.Goals as goal

pub index_mut-requires : goal.index_mut-requires
index_mut-requires c =
    let many : length (joined c.args.cores.now c.args.edges.now.items) ≡ length c.args.edges.now.items = as_many_seats c.args.cores.now c.args.edges.now.items c.requires.halves in
    omega (arith, c.from.ensures, c.requires.node, many, c.args.edges.now.ok.0)

pub join_over-requires-clause-node : goal.join_over-requires-clause-node
join_over-requires-clause-node c = below_inner c.args.cores.now c.args.edges.now.items c.args.node c.requires.halves (let many : length (joined c.args.cores.now c.args.edges.now.items) ≡ length c.args.edges.now.items = as_many_seats c.args.cores.now c.args.edges.now.items c.requires.halves in let lt : c.args.node < length c.args.edges.now.items = omega (arith, c.requires.node) in lt)

pub join_over-requires-clause-halves : goal.join_over-requires-clause-halves
join_over-requires-clause-halves c =
    halves_are c.args.cores.now c.args.edges.now.items c.requires.halves c.from.result c.args.node c.from.ensures (let many : length (joined c.args.cores.now c.args.edges.now.items) ≡ length c.args.edges.now.items = as_many_seats c.args.cores.now c.args.edges.now.items c.requires.halves in let lt : c.args.node < length c.args.edges.now.items = omega (arith, c.requires.node) in lt) c.index_mut.result.now c.index_mut.ensures.value

pub join_over-requires-clause-control : goal.join_over-requires-clause-control
join_over-requires-clause-control c = (
  c.requires.control.0,
  ap (λ (n : Seat). n.who) (sym (seat_at c.args.cores.now c.args.edges.now.items c.args.node c.requires.halves (let many : length (joined c.args.cores.now c.args.edges.now.items) ≡ length c.args.edges.now.items = as_many_seats c.args.cores.now c.args.edges.now.items c.requires.halves in let lt : c.args.node < length c.args.edges.now.items = omega (arith, c.requires.node) in lt))) ∙ c.requires.control.1,
)

pub join_over-requires-clause-room : goal.join_over-requires-clause-room
join_over-requires-clause-room c =
    let long : length (inner c.args.cores.now c.args.node).posts ≡ length (get_or (joined c.args.cores.now c.args.edges.now.items) c.args.node nobody).posts =
    ap (λ (n : Seat). length n.posts) (sym (seat_at c.args.cores.now c.args.edges.now.items c.args.node c.requires.halves (let many : length (joined c.args.cores.now c.args.edges.now.items) ≡ length c.args.edges.now.items = as_many_seats c.args.cores.now c.args.edges.now.items c.requires.halves in let lt : c.args.node < length c.args.edges.now.items = omega (arith, c.requires.node) in lt))) in
    omega (arith, long, c.requires.room)

pub returns-in-Ok-clause-halves : goal.returns-in-Ok-clause-halves
returns-in-Ok-clause-halves c =
    halves_now c.args.cores.now c.join_over.new.cores c.args.edges.now.items c.from.result c.args.node c.join_over.new.edge c.requires.halves c.from.ensures c.join_over.ensures.one c.in-Ok.ensures.halves

pub returns-in-Ok-clause-joined : goal.returns-in-Ok-clause-joined
returns-in-Ok-clause-joined c =
    seat_changed c.args.cores.now c.args.edges.now.items c.requires.halves c.from.result c.args.node c.from.ensures
    (let many : length (joined c.args.cores.now c.args.edges.now.items) ≡ length c.args.edges.now.items = as_many_seats c.args.cores.now c.args.edges.now.items c.requires.halves in let lt : c.args.node < length c.args.edges.now.items = omega (arith, c.requires.node) in lt)
    c.join_over.new.cores c.index_mut.result.now c.join_over.new.edge c.index_mut.ensures.value c.join_over.ensures.one
    ∙ ap (λ (n : Seat). with_seat c.args.node n (joined c.args.cores.now c.args.edges.now.items))
    (c.in-Ok.ensures.joined ∙ ap (λ (n : Seat). joined_by_agent c.args.agent n)
    (sym (whole_is c.args.cores.now c.args.edges.now.items c.requires.halves c.from.result c.args.node c.from.ensures
    (let many : length (joined c.args.cores.now c.args.edges.now.items) ≡ length c.args.edges.now.items = as_many_seats c.args.cores.now c.args.edges.now.items c.requires.halves in let lt : c.args.node < length c.args.edges.now.items = omega (arith, c.requires.node) in lt)
    c.index_mut.result.now c.index_mut.ensures.value)))

pub returns-in-Ok-clause-few : goal.returns-in-Ok-clause-few
returns-in-Ok-clause-few c =
    let long = length-set c.args.edges.now.items c.from.result c.join_over.new.edge in
    omega (arith, long, c.requires.few)

pub returns-in-Err-clause-halves : goal.returns-in-Err-clause-halves
returns-in-Err-clause-halves c =
    let many : length (joined c.args.cores.now c.args.edges.now.items) ≡ length c.args.edges.now.items = as_many_seats c.args.cores.now c.args.edges.now.items c.requires.halves in
    let below : c.args.node < length c.args.edges.now.items = omega (arith, c.requires.node) in
    let above : 0 < c.args.node =
    not_first c.args.cores.now c.args.edges.now.items c.args.node (Configuring c.valid-valid.result.now) c.requires.halves c.requires.node c.valid-valid.ensures.who
    (λ d e. let both : Configuring c.valid-valid.result.now ≡ Controlling d = e in cc) c.requires.control in
    first_left c.args.cores.now c.join_over.new.cores c.keep_first.new.self c.args.edges.now.items c.truncate.new.self.items c.from.result c.args.node c.join_over.new.edge
    (inner c.join_over.new.cores c.args.node) c.requires.halves c.from.ensures above below c.join_over.ensures.one c.keep_first.ensures.first c.truncate.ensures.items

pub returns-in-Err-clause-few : goal.returns-in-Err-clause-few
returns-in-Err-clause-few c =
    let long = length-set c.args.edges.now.items c.from.result c.join_over.new.edge in
    omega (arith, long, c.requires.few, c.truncate.ensures.len)
