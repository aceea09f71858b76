use Rattle.std.proofs.Common.{[], ap, arith, get_or, set}
use Rattle.std.proofs.lemmas.List.{length-set}
use Rattle.std.proofs.lemmas.Result.{on_err_weaker, on_ok_weaker}
use Rattle.ov_link.specs.Breaks.{with_break}
use Rattle.running_nodes.specs.Seats.{Seat}
use Rattle.running_nodes.specs.Halves.{Outer, Standing, inner, whole}
use Rattle.running_nodes.proofs.Standing.{edge_there, halves_with, seats_same, seats_with, sessions_are}
use Rattle.running_nodes.proofs.nodes.Nodes.add_break.Goals as goal

pub index_mut-requires : goal.index_mut-requires
index_mut-requires c =
    let below = edge_there c.self.inside.cores c.self.inside.edges.items c.self.invariant.0 c.args.self.now.seats (ap (λ (s : Standing). s.seats) c.self.view_is) c.from.result c.args.place.node c.from.ensures c.requires.node in
    omega (arith, c.self.inside.edges.ok.0)

pub add_break-requires-clause-session : goal.add_break-requires-clause-session
add_break-requires-clause-session c =
    let posts = sessions_are c.self.inside.cores c.self.inside.edges.items c.self.invariant.0 c.args.self.now.seats (ap (λ (s : Standing). s.seats) c.self.view_is) c.from.result c.args.place.node c.from.ensures c.requires.node c.index_mut.result.now c.index_mut.ensures.value in
    omega (arith, c.requires.session)

pub invariant_of-self : goal.invariant_of-self
invariant_of-self c = (
  halves_with c.self.inside.cores c.self.inside.edges.items c.self.invariant.0 c.args.self.now.seats (ap (λ (s : Standing). s.seats) c.self.view_is) c.from.result c.args.place.node c.from.ensures c.requires.node c.index_mut.result.now c.index_mut.ensures.value
      c.add_break.new.self c.add_break.ensures.name c.add_break.ensures.others c.add_break.ensures.even,
  omega (arith, length-set c.self.inside.edges.items c.from.result c.add_break.new.self, c.self.invariant.1),
)

pub returns-clause-ok : goal.returns-clause-ok
returns-clause-ok c =
    on_ok_weaker c.add_break.result
    (λ is. seats_with c.self.inside.cores c.self.inside.edges.items c.self.invariant.0 c.args.self.now.seats (ap (λ (s : Standing). s.seats) c.self.view_is) c.from.result c.args.place.node c.from.ensures c.requires.node c.index_mut.result.now c.index_mut.ensures.value
    (λ (n : Seat). record n { breaks = set n.breaks c.args.place.session (with_break c.args.n (get_or n.breaks c.args.place.session [])) })
    c.add_break.new.self (ap (λ (o : Outer). whole (inner c.self.inside.cores c.args.place.node) o) is))
    c.add_break.ensures.ok

pub returns-clause-err : goal.returns-clause-err
returns-clause-err c =
    on_err_weaker c.add_break.result
    (λ is. seats_same c.self.inside.cores c.self.inside.edges.items c.self.invariant.0 c.args.self.now.seats (ap (λ (s : Standing). s.seats) c.self.view_is) c.from.result c.args.place.node c.from.ensures c.requires.node c.index_mut.result.now c.index_mut.ensures.value
    c.add_break.new.self is)
    c.add_break.ensures.err
