use Rattle.std.proofs.Common.{ap, arith, true, false, length, subst, sym, ◌<◌, ◌≡◌, ◌∙◌}
use Rattle.node_core.specs.Whole.{Comes, session_of}
use Rattle.running_nodes.specs.Seats.{Seat, is_live, other}
use Rattle.running_nodes.specs.Halves.{Outer, joined}
use Rattle.running_nodes.proofs.Halves.{as_many_seats, halves_at, seat_at}
use Rattle.running_nodes.proofs.Links.{edge_of, even_of, links_long}
use Rattle.running_nodes.proofs.Standing.{below_inner, links_are, posts_are, seat_kept, takes_at}
use Rattle.running_nodes.proofs.nodes.take_at.Goals as goal

pub bounds-edges-from : goal.bounds-edges-from
bounds-edges-from c = let below : c.args.node < length c.args.edges.now = (let many : length (joined c.args.cores.now c.args.edges.now) ≡ length c.args.edges.now = as_many_seats c.args.cores.now c.args.edges.now c.requires.halves in let lt : c.args.node < length c.args.edges.now = omega (arith, c.requires.node) in lt) in omega (arith, c.from.ensures)

pub take-requires-clause-node : goal.take-requires-clause-node
take-requires-clause-node c = below_inner c.args.cores.now c.args.edges.now c.args.node c.requires.halves (let many : length (joined c.args.cores.now c.args.edges.now) ≡ length c.args.edges.now = as_many_seats c.args.cores.now c.args.edges.now c.requires.halves in let lt : c.args.node < length c.args.edges.now = omega (arith, c.requires.node) in lt)

pub take-requires-clause-known : goal.take-requires-clause-known
take-requires-clause-known c =
    let was = posts_are c.args.cores.now c.args.edges.now c.requires.halves c.from.result c.args.node c.from.ensures (let many : length (joined c.args.cores.now c.args.edges.now) ≡ length c.args.edges.now = as_many_seats c.args.cores.now c.args.edges.now c.requires.halves in let lt : c.args.node < length c.args.edges.now = omega (arith, c.requires.node) in lt) in omega (arith, c.requires.session)

pub take-requires-clause-long : goal.take-requires-clause-long
take-requires-clause-long c = (halves_at c.args.cores.now c.args.edges.now c.args.node c.requires.halves (let many : length (joined c.args.cores.now c.args.edges.now) ≡ length c.args.edges.now = as_many_seats c.args.cores.now c.args.edges.now c.requires.halves in let lt : c.args.node < length c.args.edges.now = omega (arith, c.requires.node) in lt)).posts

pub take-requires-clause-kept : goal.take-requires-clause-kept
take-requires-clause-kept c = (halves_at c.args.cores.now c.args.edges.now c.args.node c.requires.halves (let many : length (joined c.args.cores.now c.args.edges.now) ≡ length c.args.edges.now = as_many_seats c.args.cores.now c.args.edges.now c.requires.halves in let lt : c.args.node < length c.args.edges.now = omega (arith, c.requires.node) in lt)).kept

pub take-requires-clause-linked : goal.take-requires-clause-linked
take-requires-clause-linked c =
    links_long c.edge.inside.name c.edge.inside.others.items c.edge.inside.notices.items c.edge.inside.links c.index-edges-from.result (c.edge.view_is ∙ sym c.index-edges-from.is)
    ∙ links_are c.args.cores.now c.args.edges.now c.requires.halves c.from.result c.args.node c.from.ensures (let many : length (joined c.args.cores.now c.args.edges.now) ≡ length c.args.edges.now = as_many_seats c.args.cores.now c.args.edges.now c.requires.halves in let lt : c.args.node < length c.args.edges.now = omega (arith, c.requires.node) in lt) c.index-edges-from.result c.index-edges-from.is

pub take-requires-clause-comes : goal.take-requires-clause-comes
take-requires-clause-comes c =
    subst (λ (n : Seat). Comes (λ i. is_live n i ≡ true) (λ i. is_live n i ≡ false) c.args.input)
    (seat_at c.args.cores.now c.args.edges.now c.args.node c.requires.halves (let many : length (joined c.args.cores.now c.args.edges.now) ≡ length c.args.edges.now = as_many_seats c.args.cores.now c.args.edges.now c.requires.halves in let lt : c.args.node < length c.args.edges.now = omega (arith, c.requires.node) in lt)) c.requires.comes

pub returns-clause-halves : goal.returns-clause-halves
returns-clause-halves c =
    let later = edge_of c.edge.inside.name c.edge.inside.others.items c.edge.inside.notices.items c.take.new.links in
    let even = even_of c.edge.inside.name c.edge.inside.others.items c.edge.inside.notices.items c.edge.inside.links c.take.new.links c.edge.invariant c.take.ensures.links in
    seat_kept c.args.cores.now c.args.edges.now c.requires.halves c.from.result c.args.node c.from.ensures (let many : length (joined c.args.cores.now c.args.edges.now) ≡ length c.args.edges.now = as_many_seats c.args.cores.now c.args.edges.now c.requires.halves in let lt : c.args.node < length c.args.edges.now = omega (arith, c.requires.node) in lt) c.take.new.self c.index-edges-from.result later c.index-edges-from.is c.take.ensures.one
    (ap (λ (o : Outer). o.name) (c.edge.view_is ∙ sym c.index-edges-from.is)) (ap (λ (o : Outer). o.others) (c.edge.view_is ∙ sym c.index-edges-from.is)) even

pub returns-clause-takes : goal.returns-clause-takes
returns-clause-takes c =
    takes_at c.args.cores.now c.args.edges.now c.requires.halves c.from.result c.args.node c.from.ensures (let many : length (joined c.args.cores.now c.args.edges.now) ≡ length c.args.edges.now = as_many_seats c.args.cores.now c.args.edges.now c.requires.halves in let lt : c.args.node < length c.args.edges.now = omega (arith, c.requires.node) in lt) c.take.new.self
    c.edge.inside.name c.edge.inside.others.items c.edge.inside.notices.items c.edge.inside.links c.take.new.links c.index-edges-from.result c.index-edges-from.is (c.edge.view_is ∙ sym c.index-edges-from.is)
    c.take.result c.args.input c.take.ensures.one.one c.take.ensures.takes

pub take-requires-clause-taken : goal.take-requires-clause-taken
take-requires-clause-taken c = (
  c.requires.taken.0,
  ap (λ (n : Seat). other n (session_of c.args.input))
      (sym (seat_at c.args.cores.now c.args.edges.now c.args.node c.requires.halves (let many : length (joined c.args.cores.now c.args.edges.now) ≡ length c.args.edges.now = as_many_seats c.args.cores.now c.args.edges.now c.requires.halves in let lt : c.args.node < length c.args.edges.now = omega (arith, c.requires.node) in lt)))
      ∙ c.requires.taken.1,
)
