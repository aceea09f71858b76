use Rattle.std.proofs.Common.{List, ap, arith, length, sym, ◌<◌, ◌≡◌, ◌∙◌, ◌+◌, ℕ, Some}
use Rattle.std.specs.declared.option.Option.{Option}
use Rattle.std.specs.Option.{option_map}
use Rattle.ov_types.specs.First.{same_name}
use Rattle.running_nodes.specs.MachineModel.Setup.{Name}
use Rattle.running_nodes.specs.Seats.{Seat, index_from, is_name, place_at, seat, seat_named, session_with}
use Rattle.running_nodes.specs.declared.place.SessionPlace.{SessionPlace}
use Rattle.running_nodes.specs.Halves.{Outer, Standing}
use Rattle.running_nodes.proofs.Found.{found_below}
use Rattle.running_nodes.proofs.Halves.{named_at}
use Rattle.running_nodes.proofs.Standing.{halves_are, whole_is}
use Rattle.running_nodes.proofs.nodes.Nodes.place_of.Goals as goal

pub index-requires : goal.index-requires
index-requires c =
    let below : c.in-Some.node < length c.self.inside.edges.items = (let found : index_from 0 (λ (o : Outer). same_name o.name c.args.a.now) c.self.inside.edges.items ≡ Some c.in-Some.node = ap (λ (os : List Outer). index_from 0 (λ (o : Outer). same_name o.name c.args.a.now) os) (sym c.deref.ensures.value) ∙ (sym c.edge_named.ensures ∙ c.in-Some.is) in let lt : c.in-Some.node < 0 + length c.self.inside.edges.items = found_below (λ (o : Outer). same_name o.name c.args.a.now) c.self.inside.edges.items 0 c.in-Some.node found in let there : c.in-Some.node < length c.self.inside.edges.items = omega arith in there) in
    omega (arith, c.from.ensures, c.self.inside.edges.ok.0)

pub returns-in-None : goal.returns-in-None
returns-in-None c =
    ap (λ (r : Option ℕ). place_at c.args.self.now.seats c.args.b.now r) (sym c.in-None.is ∙ (c.edge_named.ensures ∙ (ap (λ (os : List Outer). index_from 0 (λ (o : Outer). same_name o.name c.args.a.now) os) c.deref.ensures.value ∙ (named_at c.self.inside.cores c.self.inside.edges.items 0 c.args.a.now c.self.invariant.0 ∙ ap (λ (ss : List Seat). seat_named ss c.args.a.now) (ap (λ (s : Standing). s.seats) c.self.view_is)))))

pub returns-in-None-session_with : goal.returns-in-None-session_with
returns-in-None-session_with c =
    ap (λ (r : Option ℕ). option_map (λ (i : ℕ). let p : SessionPlace = record { node = c.in-Some.node; session = i } in p) r) (sym c.in-None-session_with.is ∙ (c.session_with.ensures ∙ (ap (λ (names : List (Option Name)). index_from 0 (is_name c.args.b.now) names) (halves_are c.self.inside.cores c.self.inside.edges.items c.self.invariant.0 c.from.result c.in-Some.node c.from.ensures (let found : index_from 0 (λ (o : Outer). same_name o.name c.args.a.now) c.self.inside.edges.items ≡ Some c.in-Some.node = ap (λ (os : List Outer). index_from 0 (λ (o : Outer). same_name o.name c.args.a.now) os) (sym c.deref.ensures.value) ∙ (sym c.edge_named.ensures ∙ c.in-Some.is) in let lt : c.in-Some.node < 0 + length c.self.inside.edges.items = found_below (λ (o : Outer). same_name o.name c.args.a.now) c.self.inside.edges.items 0 c.in-Some.node found in let there : c.in-Some.node < length c.self.inside.edges.items = omega arith in there) c.index.result.now c.index.ensures).others ∙ (ap (λ (n : Seat). session_with n c.args.b.now) (sym (whole_is c.self.inside.cores c.self.inside.edges.items c.self.invariant.0 c.from.result c.in-Some.node c.from.ensures (let found : index_from 0 (λ (o : Outer). same_name o.name c.args.a.now) c.self.inside.edges.items ≡ Some c.in-Some.node = ap (λ (os : List Outer). index_from 0 (λ (o : Outer). same_name o.name c.args.a.now) os) (sym c.deref.ensures.value) ∙ (sym c.edge_named.ensures ∙ c.in-Some.is) in let lt : c.in-Some.node < 0 + length c.self.inside.edges.items = found_below (λ (o : Outer). same_name o.name c.args.a.now) c.self.inside.edges.items 0 c.in-Some.node found in let there : c.in-Some.node < length c.self.inside.edges.items = omega arith in there) c.index.result.now c.index.ensures)) ∙ ap (λ (ss : List Seat). session_with (seat ss c.in-Some.node) c.args.b.now) (ap (λ (s : Standing). s.seats) c.self.view_is)))))
    ∙ ap (λ (r : Option ℕ). place_at c.args.self.now.seats c.args.b.now r) (sym c.in-Some.is ∙ (c.edge_named.ensures ∙ (ap (λ (os : List Outer). index_from 0 (λ (o : Outer). same_name o.name c.args.a.now) os) c.deref.ensures.value ∙ (named_at c.self.inside.cores c.self.inside.edges.items 0 c.args.a.now c.self.invariant.0 ∙ ap (λ (ss : List Seat). seat_named ss c.args.a.now) (ap (λ (s : Standing). s.seats) c.self.view_is)))))

pub returns-in-Some-session_with : goal.returns-in-Some-session_with
returns-in-Some-session_with c =
    ap (λ (r : Option ℕ). option_map (λ (i : ℕ). let p : SessionPlace = record { node = c.in-Some.node; session = i } in p) r) (sym c.in-Some-session_with.is ∙ (c.session_with.ensures ∙ (ap (λ (names : List (Option Name)). index_from 0 (is_name c.args.b.now) names) (halves_are c.self.inside.cores c.self.inside.edges.items c.self.invariant.0 c.from.result c.in-Some.node c.from.ensures (let found : index_from 0 (λ (o : Outer). same_name o.name c.args.a.now) c.self.inside.edges.items ≡ Some c.in-Some.node = ap (λ (os : List Outer). index_from 0 (λ (o : Outer). same_name o.name c.args.a.now) os) (sym c.deref.ensures.value) ∙ (sym c.edge_named.ensures ∙ c.in-Some.is) in let lt : c.in-Some.node < 0 + length c.self.inside.edges.items = found_below (λ (o : Outer). same_name o.name c.args.a.now) c.self.inside.edges.items 0 c.in-Some.node found in let there : c.in-Some.node < length c.self.inside.edges.items = omega arith in there) c.index.result.now c.index.ensures).others ∙ (ap (λ (n : Seat). session_with n c.args.b.now) (sym (whole_is c.self.inside.cores c.self.inside.edges.items c.self.invariant.0 c.from.result c.in-Some.node c.from.ensures (let found : index_from 0 (λ (o : Outer). same_name o.name c.args.a.now) c.self.inside.edges.items ≡ Some c.in-Some.node = ap (λ (os : List Outer). index_from 0 (λ (o : Outer). same_name o.name c.args.a.now) os) (sym c.deref.ensures.value) ∙ (sym c.edge_named.ensures ∙ c.in-Some.is) in let lt : c.in-Some.node < 0 + length c.self.inside.edges.items = found_below (λ (o : Outer). same_name o.name c.args.a.now) c.self.inside.edges.items 0 c.in-Some.node found in let there : c.in-Some.node < length c.self.inside.edges.items = omega arith in there) c.index.result.now c.index.ensures)) ∙ ap (λ (ss : List Seat). session_with (seat ss c.in-Some.node) c.args.b.now) (ap (λ (s : Standing). s.seats) c.self.view_is)))))
    ∙ ap (λ (r : Option ℕ). place_at c.args.self.now.seats c.args.b.now r) (sym c.in-Some.is ∙ (c.edge_named.ensures ∙ (ap (λ (os : List Outer). index_from 0 (λ (o : Outer). same_name o.name c.args.a.now) os) c.deref.ensures.value ∙ (named_at c.self.inside.cores c.self.inside.edges.items 0 c.args.a.now c.self.invariant.0 ∙ ap (λ (ss : List Seat). seat_named ss c.args.a.now) (ap (λ (s : Standing). s.seats) c.self.view_is)))))
