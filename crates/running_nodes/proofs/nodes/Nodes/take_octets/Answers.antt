use Rattle.std.proofs.Common.{[], ◌+◌, ◌∙◌, ap, arith, drop, get_or, set, sym, take}
use Rattle.std.proofs.lemmas.List.{length-set}
use Rattle.std.specs.List.{concat}
use Rattle.running_nodes.specs.Seats.{Seat}
use Rattle.running_nodes.specs.Steps.{untaken}
use Rattle.running_nodes.specs.Halves.{Outer, Standing, inner, whole}
use Rattle.running_nodes.proofs.Standing.{edge_there, halves_with, seat_there, seats_with, sessions_are}
use Rattle.running_nodes.proofs.nodes.Nodes.take_octets.Goals as goal

pub index_mut-requires : goal.index_mut-requires
index_mut-requires c =
    let below = edge_there c.self.inside.cores c.self.inside.edges.items c.self.invariant.0 c.args.self.now.seats (ap (λ (s : Standing). s.seats) c.self.view_is) c.from.result c.args.place.node c.from.ensures c.requires.node in
    omega (arith, c.self.inside.edges.ok.0)

pub take_octets-requires : goal.take_octets-requires
take_octets-requires c =
    let posts = sessions_are c.self.inside.cores c.self.inside.edges.items c.self.invariant.0 c.args.self.now.seats (ap (λ (s : Standing). s.seats) c.self.view_is) c.from.result c.args.place.node c.from.ensures c.requires.node c.index_mut.result.now c.index_mut.ensures.value in
    omega (arith, c.requires.session)

pub invariant_of-self : goal.invariant_of-self
invariant_of-self c = (
  halves_with c.self.inside.cores c.self.inside.edges.items c.self.invariant.0 c.args.self.now.seats (ap (λ (s : Standing). s.seats) c.self.view_is) c.from.result c.args.place.node c.from.ensures c.requires.node c.index_mut.result.now c.index_mut.ensures.value
      c.take_octets.new.self c.take_octets.ensures.name c.take_octets.ensures.others c.take_octets.ensures.even,
  omega (arith, length-set c.self.inside.edges.items c.from.result c.take_octets.new.self, c.self.invariant.1),
)

pub invariant_of-self-in-Err : goal.invariant_of-self-in-Err
invariant_of-self-in-Err c = (
  halves_with c.self.inside.cores c.self.inside.edges.items c.self.invariant.0 c.args.self.now.seats (ap (λ (s : Standing). s.seats) c.self.view_is) c.from.result c.args.place.node c.from.ensures c.requires.node c.index_mut.result.now c.index_mut.ensures.value
      c.take_octets.new.self c.take_octets.ensures.name c.take_octets.ensures.others c.take_octets.ensures.even,
  omega (arith, length-set c.self.inside.edges.items c.from.result c.take_octets.new.self, c.self.invariant.1),
)

pub returns-in-Ok-clause-octets : goal.returns-in-Ok-clause-octets
returns-in-Ok-clause-octets c =
    c.in-Ok.ensures.octets
    ∙ ap (λ (n : Seat). take c.args.n (drop c.args.skip (concat (get_or n.links c.args.place.session []))))
    (sym (seat_there c.self.inside.cores c.self.inside.edges.items c.self.invariant.0 c.args.self.now.seats (ap (λ (s : Standing). s.seats) c.self.view_is) c.from.result c.args.place.node c.from.ensures c.requires.node c.index_mut.result.now c.index_mut.ensures.value))

pub returns-in-Ok-clause-rest : goal.returns-in-Ok-clause-rest
returns-in-Ok-clause-rest c =
    seats_with c.self.inside.cores c.self.inside.edges.items c.self.invariant.0 c.args.self.now.seats (ap (λ (s : Standing). s.seats) c.self.view_is) c.from.result c.args.place.node c.from.ensures c.requires.node c.index_mut.result.now c.index_mut.ensures.value
    (λ (n : Seat). record n { links = set n.links c.args.place.session (untaken (c.args.skip + c.args.n) (get_or n.links c.args.place.session [])) })
    c.take_octets.new.self (ap (λ (o : Outer). whole (inner c.self.inside.cores c.args.place.node) o) c.in-Ok.ensures.rest)
