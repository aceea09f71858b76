use Rattle.std.proofs.Common.{List, Option, None, Some, ap, arith, get_or, length, option_and_then, sym, ◌<◌, ◌≡◌, ◌∙◌}
use Rattle.running_nodes.specs.MachineModel.Setup.{Name}
use Rattle.running_nodes.specs.Seats.{Seat, name_of, other, place_of, seat}
use Rattle.running_nodes.specs.Halves.{Standing}
use Rattle.running_nodes.proofs.Standing.{below_all, halves_are, others_are, whole_is}
use Rattle.running_nodes.proofs.nodes.Nodes.far_of.Goals as goal

pub index-edge-requires : goal.index-edge-requires
index-edge-requires c =
    let below : c.args.place.node < length c.self.inside.edges.items = (below_all c.self.inside.cores c.self.inside.edges.items c.args.self.now.seats c.args.place.node c.self.invariant.0 (ap (λ (s : Standing). s.seats) c.self.view_is) c.requires.node) in
    omega (arith, c.from.ensures, c.self.inside.edges.ok.0)

pub other-requires : goal.other-requires
other-requires c =
    let posts : length (seat c.args.self.now.seats c.args.place.node).posts ≡ length c.index-edge.result.now.others =
    ap (λ (ss : List Seat). length (seat ss c.args.place.node).posts) (sym (ap (λ (s : Standing). s.seats) c.self.view_is)) ∙ others_are c.self.inside.cores c.self.inside.edges.items c.self.invariant.0 c.from.result c.args.place.node c.from.ensures (below_all c.self.inside.cores c.self.inside.edges.items c.args.self.now.seats c.args.place.node c.self.invariant.0 (ap (λ (s : Standing). s.seats) c.self.view_is) c.requires.node) c.index-edge.result.now c.index-edge.ensures in
    omega (arith, c.requires.session)

pub returns-in-None : goal.returns-in-None
returns-in-None c =
    let its_other : None ≡ other (seat c.args.self.now.seats c.args.place.node) c.args.place.session =
    sym c.in-None.is ∙ (c.other.ensures ∙ (ap (λ (names : List (Option Name)). get_or names c.args.place.session None) (halves_are c.self.inside.cores c.self.inside.edges.items c.self.invariant.0 c.from.result c.args.place.node c.from.ensures (below_all c.self.inside.cores c.self.inside.edges.items c.args.self.now.seats c.args.place.node c.self.invariant.0 (ap (λ (s : Standing). s.seats) c.self.view_is) c.requires.node) c.index-edge.result.now c.index-edge.ensures).others
    ∙ (ap (λ (n : Seat). other n c.args.place.session) (sym (whole_is c.self.inside.cores c.self.inside.edges.items c.self.invariant.0 c.from.result c.args.place.node c.from.ensures (below_all c.self.inside.cores c.self.inside.edges.items c.args.self.now.seats c.args.place.node c.self.invariant.0 (ap (λ (s : Standing). s.seats) c.self.view_is) c.requires.node) c.index-edge.result.now c.index-edge.ensures)) ∙ ap (λ (ss : List Seat). other (seat ss c.args.place.node) c.args.place.session) (ap (λ (s : Standing). s.seats) c.self.view_is)))) in
    ap (λ (o : Option Name). option_and_then (λ b. place_of c.args.self.now.seats b (name_of (seat c.args.self.now.seats c.args.place.node).who)) o) its_other

pub returns-in-Some : goal.returns-in-Some
returns-in-Some c =
    let its_other : Some c.in-Some.name ≡ other (seat c.args.self.now.seats c.args.place.node) c.args.place.session =
    sym c.in-Some.is ∙ (c.other.ensures ∙ (ap (λ (names : List (Option Name)). get_or names c.args.place.session None) (halves_are c.self.inside.cores c.self.inside.edges.items c.self.invariant.0 c.from.result c.args.place.node c.from.ensures (below_all c.self.inside.cores c.self.inside.edges.items c.args.self.now.seats c.args.place.node c.self.invariant.0 (ap (λ (s : Standing). s.seats) c.self.view_is) c.requires.node) c.index-edge.result.now c.index-edge.ensures).others
    ∙ (ap (λ (n : Seat). other n c.args.place.session) (sym (whole_is c.self.inside.cores c.self.inside.edges.items c.self.invariant.0 c.from.result c.args.place.node c.from.ensures (below_all c.self.inside.cores c.self.inside.edges.items c.args.self.now.seats c.args.place.node c.self.invariant.0 (ap (λ (s : Standing). s.seats) c.self.view_is) c.requires.node) c.index-edge.result.now c.index-edge.ensures)) ∙ ap (λ (ss : List Seat). other (seat ss c.args.place.node) c.args.place.session) (ap (λ (s : Standing). s.seats) c.self.view_is)))) in
    let its_name : c.name.result.now ≡ name_of (seat c.args.self.now.seats c.args.place.node).who =
    c.name.ensures ∙ ((halves_are c.self.inside.cores c.self.inside.edges.items c.self.invariant.0 c.from.result c.args.place.node c.from.ensures (below_all c.self.inside.cores c.self.inside.edges.items c.args.self.now.seats c.args.place.node c.self.invariant.0 (ap (λ (s : Standing). s.seats) c.self.view_is) c.requires.node) c.index-edge.result.now c.index-edge.ensures).name
    ∙ (ap (λ (n : Seat). name_of n.who) (sym (whole_is c.self.inside.cores c.self.inside.edges.items c.self.invariant.0 c.from.result c.args.place.node c.from.ensures (below_all c.self.inside.cores c.self.inside.edges.items c.args.self.now.seats c.args.place.node c.self.invariant.0 (ap (λ (s : Standing). s.seats) c.self.view_is) c.requires.node) c.index-edge.result.now c.index-edge.ensures)) ∙ ap (λ (ss : List Seat). name_of (seat ss c.args.place.node).who) (ap (λ (s : Standing). s.seats) c.self.view_is))) in
    c.place_of.ensures
    ∙ (ap (λ (name : Name). place_of c.args.self.now.seats c.in-Some.name name) its_name
    ∙ ap (λ (o : Option Name). option_and_then (λ b. place_of c.args.self.now.seats b (name_of (seat c.args.self.now.seats c.args.place.node).who)) o) its_other)
