use Rattle.std.proofs.Common.{ap, arith, length, sym, ◌<◌, ◌≡◌, ◌∙◌}
use Rattle.running_nodes.specs.Seats.{Seat}
use Rattle.running_nodes.specs.Halves.{Outer, joined}
use Rattle.running_nodes.proofs.Halves.{as_many_seats, halves_at, seat_at}
use Rattle.running_nodes.proofs.Links.{edge_of, even_of, links_long}
use Rattle.running_nodes.proofs.Standing.{below_inner, links_are, passes_at, seat_kept}
use Rattle.running_nodes.proofs.nodes.tell_at.Goals as goal

pub bounds-edges-from : goal.bounds-edges-from
bounds-edges-from c = let below : c.args.node < length c.args.edges.now = (let many : length (joined c.args.cores.now c.args.edges.now) ≡ length c.args.edges.now = as_many_seats c.args.cores.now c.args.edges.now c.requires.halves in let lt : c.args.node < length c.args.edges.now = omega (arith, c.requires.node) in lt) in omega (arith, c.from.ensures)

pub tell-requires-clause-node : goal.tell-requires-clause-node
tell-requires-clause-node c = below_inner c.args.cores.now c.args.edges.now c.args.node c.requires.halves (let many : length (joined c.args.cores.now c.args.edges.now) ≡ length c.args.edges.now = as_many_seats c.args.cores.now c.args.edges.now c.requires.halves in let lt : c.args.node < length c.args.edges.now = omega (arith, c.requires.node) in lt)

pub tell-requires-clause-long : goal.tell-requires-clause-long
tell-requires-clause-long c = (halves_at c.args.cores.now c.args.edges.now c.args.node c.requires.halves (let many : length (joined c.args.cores.now c.args.edges.now) ≡ length c.args.edges.now = as_many_seats c.args.cores.now c.args.edges.now c.requires.halves in let lt : c.args.node < length c.args.edges.now = omega (arith, c.requires.node) in lt)).posts

pub tell-requires-clause-kept : goal.tell-requires-clause-kept
tell-requires-clause-kept c = (halves_at c.args.cores.now c.args.edges.now c.args.node c.requires.halves (let many : length (joined c.args.cores.now c.args.edges.now) ≡ length c.args.edges.now = as_many_seats c.args.cores.now c.args.edges.now c.requires.halves in let lt : c.args.node < length c.args.edges.now = omega (arith, c.requires.node) in lt)).kept

pub tell-requires-clause-linked : goal.tell-requires-clause-linked
tell-requires-clause-linked c =
    links_long c.edge.inside.name c.edge.inside.others.items c.edge.inside.notices.items c.edge.inside.links c.index-edges-from.result (c.edge.view_is ∙ sym c.index-edges-from.is)
    ∙ links_are c.args.cores.now c.args.edges.now c.requires.halves c.from.result c.args.node c.from.ensures (let many : length (joined c.args.cores.now c.args.edges.now) ≡ length c.args.edges.now = as_many_seats c.args.cores.now c.args.edges.now c.requires.halves in let lt : c.args.node < length c.args.edges.now = omega (arith, c.requires.node) in lt) c.index-edges-from.result c.index-edges-from.is

pub returns-clause-halves : goal.returns-clause-halves
returns-clause-halves c =
    let later = edge_of c.edge.inside.name c.edge.inside.others.items c.edge.inside.notices.items c.tell.new.links in
    let even = even_of c.edge.inside.name c.edge.inside.others.items c.edge.inside.notices.items c.edge.inside.links c.tell.new.links c.edge.invariant c.tell.ensures.links in
    seat_kept c.args.cores.now c.args.edges.now c.requires.halves c.from.result c.args.node c.from.ensures (let many : length (joined c.args.cores.now c.args.edges.now) ≡ length c.args.edges.now = as_many_seats c.args.cores.now c.args.edges.now c.requires.halves in let lt : c.args.node < length c.args.edges.now = omega (arith, c.requires.node) in lt) c.tell.new.self c.index-edges-from.result later c.index-edges-from.is c.tell.ensures.one
    (ap (λ (o : Outer). o.name) (c.edge.view_is ∙ sym c.index-edges-from.is)) (ap (λ (o : Outer). o.others) (c.edge.view_is ∙ sym c.index-edges-from.is)) even

pub returns-clause-passes : goal.returns-clause-passes
returns-clause-passes c =
    passes_at c.args.cores.now c.args.edges.now c.requires.halves c.from.result c.args.node c.from.ensures (let many : length (joined c.args.cores.now c.args.edges.now) ≡ length c.args.edges.now = as_many_seats c.args.cores.now c.args.edges.now c.requires.halves in let lt : c.args.node < length c.args.edges.now = omega (arith, c.requires.node) in lt) c.tell.new.self
    c.edge.inside.name c.edge.inside.others.items c.edge.inside.notices.items c.edge.inside.links c.tell.new.links c.index-edges-from.result c.index-edges-from.is (c.edge.view_is ∙ sym c.index-edges-from.is)
    c.tell.result c.tell.ensures.one.one c.tell.ensures.passes

pub tell-requires-clause-control : goal.tell-requires-clause-control
tell-requires-clause-control c = (
  c.requires.control.0,
  ap (λ (n : Seat). n.who)
      (sym (seat_at c.args.cores.now c.args.edges.now c.args.node c.requires.halves (let many : length (joined c.args.cores.now c.args.edges.now) ≡ length c.args.edges.now = as_many_seats c.args.cores.now c.args.edges.now c.requires.halves in let lt : c.args.node < length c.args.edges.now = omega (arith, c.requires.node) in lt)))
      ∙ c.requires.control.1,
)
