-- Nothing differs between two ports exactly where both configurations offer both ways with one track each.
use Rattle.std.proofs.Common.{◌≡◌, ℕ, ◌&&◌, ◌||◌, not, eqb, Bool, true, false, IsTrue, List, Option, Some, None, map, refl, sym, ap, ◌∙◌, subst}
use Rattle.std.proofs.lemmas.Bool.{and_parts, eqb-true}
use Rattle.ov_types.specs.Prefix.{Block}
use Rattle.ov_types.specs.declared.numbers.InstanceId.{InstanceId}
use Rattle.ov_types.specs.declared.numbers.PortNo.{PortNo}
use Rattle.ov_types.specs.declared.packet.Packet.{Packet}
use Rattle.ov_types.specs.declared.prefix.Addr.{Addr}
use Rattle.config_types.specs.Form.{has_config_form}
use Rattle.config_check.specs.Checked.{Checked}
use Rattle.config_check.specs.Finding.{node_named}
use Rattle.config_check.specs.Sentences.{IsValid}
use Rattle.hitless_cells.specs.Keeping.{OfferAlike}
use Rattle.hitless_cells.specs.Ways.{Offers, Track}
use Rattle.hitless_cells.specs.Courses.{way_of}
use Rattle.hitless_cells.specs.Lines.{difference_by, difference_of, first_difference, leads, same_found, same_subnet, subnet_at, subnet_counts}
use Rattle.hitless_cells.specs.Openings.{change_found, opened, opening_by, opening_of, stops_change, worse}
use Rattle.hitless_cells.specs.declared.cells.Cell.{Cell}
use Rattle.hitless_cells.specs.declared.changes.Change.{Change}
use Rattle.hitless_cells.specs.declared.changes.Change.TheVariants.{Same, Listening, Place}
use Rattle.hitless_cells.specs.declared.course.Course.{Course}
use Rattle.hitless_cells.specs.declared.course.Course.TheVariants.{Inside, Passing, Through}
use Rattle.hitless_cells.specs.declared.ends.Ends.{Ends}
use Rattle.hitless_cells.specs.declared.joints.Joint.{Joint}
use Rattle.hitless_cells.specs.declared.stops.Stop.{Stop}
use Rattle.hitless_cells.proofs.Chains.{stop_from, stops_apart}
use Rattle.hitless_cells.proofs.Sameness.{both_true, found_block_is, found_block_self, found_node_is, node_self, none_worse, same_number, stops_are, stops_self, worse_none}
use Rattle.hitless_cells.proofs.Sides.{Parts, Side, held_by, offered_where_open, parts_of, subnet_on}

-- what differs first

first_none : (n : Bool) (nodes services : Change) (other : Bool) → first_difference n nodes services other ≡ None
    → (n ≡ true) × (nodes ≡ Same) × (services ≡ Same) × (other ≡ false)
first_none false nodes services other h = absurd cc
first_none true Place services other h = absurd cc
first_none true Same Place other h = absurd cc
first_none true Same Same true h = absurd cc
first_none true Same Same false h = (refl, refl, refl, refl)
first_none true Same Listening true h = absurd cc
first_none true Same Listening false h = absurd cc
first_none true Listening Place other h = absurd cc
first_none true Listening Same true h = absurd cc
first_none true Listening Same false h = absurd cc
first_none true Listening Listening true h = absurd cc
first_none true Listening Listening false h = absurd cc

-- both ways lie open in both configurations, each with the same services
record AreOpen (was_before was_after becomes_before becomes_after : Option (List Stop)) : Type 0 where
  was : List Stop
  becomes : List Stop
  before : was_before ≡ Some was
  after : was_after ≡ Some was
  becomes_so : becomes_before ≡ Some becomes
  becomes_still : becomes_after ≡ Some becomes

module _ (from to : Ends) (j k : Joint) (cell : Cell) where
  abbrev numbers : Bool
  numbers = eqb from.before.id.0 from.after.id.0 && eqb to.before.id.0 to.after.id.0

  abbrev nodes : Change
  nodes = worse j.change k.change

  abbrev others : Bool
  others = subnet_counts to k.before.address.0 cell

  by_none : (o1 o2 o3 o4 : Option (List Stop)) → difference_by from to j k cell (opening_by o1 o2 o3 o4) ≡ None
      → AreOpen o3 o2 o1 o4 × (numbers ≡ true) × (nodes ≡ Same) × (others ≡ false)
  by_none None o2 o3 o4 h = absurd cc
  by_none (Some s) None o3 o4 h = absurd cc
  by_none (Some s) (Some r) None o4 h = let f = first_none numbers nodes Place others h in let never = f.2 in absurd cc
  by_none (Some s) (Some r) (Some p) None h = let f = first_none numbers nodes Place others h in let never = f.2 in absurd cc
  by_none (Some s) (Some r) (Some p) (Some q) h =
      let f = first_none numbers nodes (worse (stops_change p r) (stops_change s q)) others h in
      let both = none_worse (stops_change p r) (stops_change s q) f.2 in
      let first : p ≡ r = stops_are p r both.0 in
      let second : s ≡ q = stops_are s q both.1 in (
        record { was = p; becomes = s; before = refl; after = ap Some (sym first); becomes_so = refl; becomes_still = ap Some (sym second) },
        f.0,
        f.1,
        f.3,
      )

  none_by : (o1 o2 o3 o4 : Option (List Stop)) → AreOpen o3 o2 o1 o4 → numbers ≡ true → nodes ≡ Same → others ≡ false
      → difference_by from to j k cell (opening_by o1 o2 o3 o4) ≡ None
  none_by o1 o2 o3 o4 h e f g =
      (λ i. difference_by from to j k cell (opening_by (h.becomes_so i) (h.after i) (h.before i) (h.becomes_still i)))
      ∙ (λ i. first_difference (e i) (f i) (worse (stops_self h.was i) (stops_self h.becomes i)) (g i))

-- subnets

or_false : (a b : Bool) → (a || b) ≡ false → (a ≡ false) × (b ≡ false)
or_false true b h = absurd cc
or_false false b h = (refl, h)

same_where : (a b : Bool) → (a && not b) ≡ false → a ≡ true → b ≡ true
same_where true true h k = refl
same_where true false h k = absurd cc
same_where false b h k = absurd cc

or_left_true : (a b : Bool) → a ≡ true → (a || b) ≡ true
or_left_true true b h = refl
or_left_true false b h = absurd cc

or_right_true : (a b : Bool) → b ≡ true → (a || b) ≡ true
or_right_true true b h = refl
or_right_true false b h = h

subnet_same : (to : Ends) (address : ℕ) (w : Course) → (leads w ≡ true → same_subnet to address ≡ true) → subnet_on w to.before address ≡ subnet_on w to.after address
subnet_same to address Inside h = refl
subnet_same to address Passing h = refl
subnet_same to address (Through use_no mirrored) h = found_block_is (subnet_at to.before address) (subnet_at to.after address) (h refl)

same_subnets : (to : Ends) (address : ℕ) (t : Block) (w : Course) → subnet_at to.before address ≡ Some t → subnet_on w to.before address ≡ subnet_on w to.after address
    → leads w ≡ true → same_subnet to address ≡ true
same_subnets to address t Inside e h k = absurd cc
same_subnets to address t Passing e h k = absurd cc
same_subnets to address t (Through use_no mirrored) e h k =
    (λ i. same_found (e i) ((sym h ∙ e) i)) ∙ found_block_self t

not_counted : (a b s : Bool) → (a ≡ true → s ≡ true) → (b ≡ true → s ≡ true) → ((a || b) && not s) ≡ false
not_counted true b s h k = ap not (h refl)
not_counted false true s h k = ap not (k refl)
not_counted false false s h k = refl

-- between two ports

module _ (x y : Checked) (v : IsValid x.topology x.config) (w : IsValid y.topology y.config) (form_x : IsTrue (has_config_form x.config)) (form_y : IsTrue (has_config_form y.config))
    (p : Packet) (number : PortNo) (from to : Ends) (j k : Joint) (s : Side x p number from.before to.before j.before k.before) (r : Side y p number from.after to.after j.after k.after)
  where
    -- the facts under which a way is offered alike
    record IsAlike (course : Course) : Type 0 where
      numbers_from : from.before.id ≡ from.after.id
      numbers_to : to.before.id ≡ to.after.id
      source : node_named x.topology j.before.node ≡ node_named y.topology j.after.node
      arrival : node_named x.topology k.before.node ≡ node_named y.topology k.after.node
      stops : List Stop
      before : opened x from.before to.before course ≡ Some stops
      after : opened y from.after to.after course ≡ Some stops
      subnet : subnet_on course to.before p.destination.0 ≡ subnet_on course to.after p.destination.0

    offers_alike : (course : Course) → IsAlike course → OfferAlike x y p number (way_of course)
    offers_alike course h =
        let g = offered_where_open x v form_x p number from.before to.before j.before k.before s course h.stops h.before in
        let f = offered_where_open y w form_y p number from.after to.after j.after k.after r course h.stops h.after in
        let m : Track = g.0 in
        let l : Track = f.0 in
        let first : l.from ≡ m.from = sym f.2.from ∙ sym h.numbers_from ∙ g.2.from in
        let second : l.to ≡ m.to = sym f.2.to ∙ sym h.numbers_to ∙ g.2.to in
        let source : Some l.source_node ≡ Some m.source_node = sym f.2.source ∙ sym h.source ∙ g.2.source in
        let arrival : Some l.arrival_node ≡ Some m.arrival_node = sym f.2.arrival ∙ sym h.arrival ∙ g.2.arrival in
        let left : l.source_node ≡ m.source_node = cc in
        let right : l.arrival_node ≡ m.arrival_node = cc in
        let stops : Some (map stop_from l.stops) ≡ Some (map stop_from m.stops) = sym f.2.stops ∙ h.after ∙ sym h.before ∙ g.2.stops in
        let mapped : map stop_from l.stops ≡ map stop_from m.stops = cc in
        let same : l.stops ≡ m.stops = stops_apart l.stops m.stops mapped in
        let subnet : l.subnet ≡ m.subnet = f.2.subnet ∙ sym h.subnet ∙ sym g.2.subnet in
        let one : l ≡ m = λ i. record { from = first i; to = second i; source_node = left i; arrival_node = right i; stops = same i; subnet = subnet i } in
        (m, g.1, subst (Offers y p number (way_of course)) one f.1)

    alike_offers : (course : Course) → OfferAlike x y p number (way_of course) → IsAlike course
    alike_offers course h =
        let m : Track = h.0 in
        let g : Parts x p from.before to.before j.before k.before course m = parts_of x v form_x p number from.before to.before j.before k.before s course m h.1 in
        let f : Parts y p from.after to.after j.after k.after course m = parts_of y w form_y p number from.after to.after j.after k.after r course m h.2 in
        record {
          numbers_from = g.from ∙ sym f.from;
          numbers_to = g.to ∙ sym f.to;
          source = g.source ∙ sym f.source;
          arrival = g.arrival ∙ sym f.arrival;
          stops = map stop_from m.stops;
          before = g.stops;
          after = f.stops;
          subnet = sym g.subnet ∙ f.subnet;
        }

    module _ (cell : Cell) (opens : cell.opening ≡ opening_of x from.before to.before y from.after to.after cell.was cell.becomes)
        (at_source : j.change ≡ change_found (node_named x.topology j.before.node) (node_named y.topology j.after.node))
        (at_arrival : k.change ≡ change_found (node_named x.topology k.before.node) (node_named y.topology k.after.node)) where
      address_is : k.before.address.0 ≡ p.destination.0
      address_is = ap (λ (a : Addr). a.0) s.arrival_address

      pub kept_where_none : difference_of from to j k cell ≡ None → OfferAlike x y p number (way_of cell.was) × OfferAlike x y p number (way_of cell.becomes)
      kept_where_none h =
          let n = by_none from to j k cell (opened x from.before to.before cell.becomes) (opened y from.after to.after cell.was) (opened x from.before to.before cell.was)
          (opened y from.after to.after cell.becomes) (ap (difference_by from to j k cell) (sym opens) ∙ h) in
          let ids = and_parts (eqb from.before.id.0 from.after.id.0) (eqb to.before.id.0 to.after.id.0) n.1 in
          let both = none_worse j.change k.change n.2 in
          let first : from.before.id ≡ from.after.id = ap (λ m. record { 0 = m }) (eqb-true from.before.id.0 from.after.id.0 ids.0) in
          let second : to.before.id ≡ to.after.id = ap (λ m. record { 0 = m }) (eqb-true to.before.id.0 to.after.id.0 ids.1) in
          let source = found_node_is (node_named x.topology j.before.node) (node_named y.topology j.after.node) (sym at_source ∙ both.0) in
          let arrival = found_node_is (node_named x.topology k.before.node) (node_named y.topology k.after.node) (sym at_arrival ∙ both.1) in
          let counts : subnet_counts to p.destination.0 cell ≡ false = subst (λ (m : ℕ). subnet_counts to m cell ≡ false) address_is n.3 in
          let same : (leads cell.was || leads cell.becomes) ≡ true → same_subnet to p.destination.0 ≡ true =
          same_where (leads cell.was || leads cell.becomes) (same_subnet to p.destination.0) counts in (
            offers_alike cell.was (record {
              numbers_from = first;
              numbers_to = second;
              source = source;
              arrival = arrival;
              stops = n.0.was;
              before = n.0.before;
              after = n.0.after;
              subnet = subnet_same to p.destination.0 cell.was (λ l. same (or_left_true (leads cell.was) (leads cell.becomes) l));
            }),
            offers_alike cell.becomes (record {
              numbers_from = first;
              numbers_to = second;
              source = source;
              arrival = arrival;
              stops = n.0.becomes;
              before = n.0.becomes_so;
              after = n.0.becomes_still;
              subnet = subnet_same to p.destination.0 cell.becomes (λ l. same (or_right_true (leads cell.was) (leads cell.becomes) l));
            }),
          )

      pub none_where_kept : OfferAlike x y p number (way_of cell.was) → OfferAlike x y p number (way_of cell.becomes) → difference_of from to j k cell ≡ None
      none_where_kept h g =
          let a = alike_offers cell.was h in
          let b = alike_offers cell.becomes g in
          let first : eqb from.before.id.0 from.after.id.0 ≡ true =
          ap (λ (m : ℕ). eqb from.before.id.0 m) (sym (ap (λ (n : InstanceId). n.0) a.numbers_from)) ∙ same_number from.before.id.0 in
          let second : eqb to.before.id.0 to.after.id.0 ≡ true =
          ap (λ (m : ℕ). eqb to.before.id.0 m) (sym (ap (λ (n : InstanceId). n.0) a.numbers_to)) ∙ same_number to.before.id.0 in
          let numbers_are = both_true (eqb from.before.id.0 from.after.id.0) (eqb to.before.id.0 to.after.id.0) first second in
          let parts = parts_of x v form_x p number from.before to.before j.before k.before s cell.was h.0 h.1 in
          let source : j.change ≡ Same =
          at_source ∙ (λ i. change_found (parts.source i) ((sym a.source ∙ parts.source) i)) ∙ node_self h.0.source_node in
          let arrival : k.change ≡ Same =
          at_arrival ∙ (λ i. change_found (parts.arrival i) ((sym a.arrival ∙ parts.arrival) i)) ∙ node_self h.0.arrival_node in
          let t = held_by x v form_x p number from.before to.before j.before k.before s in
          let counts : subnet_counts to p.destination.0 cell ≡ false =
          not_counted (leads cell.was) (leads cell.becomes) (same_subnet to p.destination.0)
          (same_subnets to p.destination.0 t.0 cell.was t.1 a.subnet) (same_subnets to p.destination.0 t.0 cell.becomes t.1 b.subnet) in
          ap (difference_by from to j k cell) opens
          ∙ none_by from to j k cell (opened x from.before to.before cell.becomes) (opened y from.after to.after cell.was) (opened x from.before to.before cell.was)
          (opened y from.after to.after cell.becomes)
          (record { was = a.stops; becomes = b.stops; before = a.before; after = a.after; becomes_so = b.before; becomes_still = b.after })
          numbers_are (worse_none j.change k.change source arrival) (subst (λ (m : ℕ). subnet_counts to m cell ≡ false) (sym address_is) counts)
