-- What a line says of the ways is so.
use Rattle.std.proofs.Common.{◌≡◌, ◌≢◌, ◌⊎◌, inl, inr, ℕ, ◌&&◌, ◌||◌, not, eqb, Bool, true, false, cond, IsTrue, List, [], ◌∷◌, Option, Some, None, map, refl, sym, ap, ◌∙◌, subst}
use Rattle.std.specs.Cmp.Lexicographic.{pointwise}
use Rattle.ov_types.specs.First.{same_name}
use Rattle.ov_types.specs.declared.numbers.InstanceId.{InstanceId}
use Rattle.ov_types.specs.declared.numbers.PortNo.{PortNo}
use Rattle.ov_types.specs.declared.numbers.ServiceNo.{ServiceNo}
use Rattle.ov_types.specs.declared.packet.Packet.{Packet}
use Rattle.ov_types.specs.declared.prefix.Addr.{Addr}
use Rattle.ov_types.proofs.FirstLemmas.{same_name_iff}
use Rattle.config_types.specs.Form.{has_config_form}
use Rattle.config_types.specs.declared.topology.Node.{Node}
use Rattle.config_check.specs.Checked.{Checked}
use Rattle.config_check.specs.Finding.{node_named}
use Rattle.config_check.specs.Sentences.{IsValid}
use Rattle.hitless_cells.specs.Ways.{LeadsTo, Offers, Track}
use Rattle.hitless_cells.proofs.Offered.{offered}
use Rattle.hitless_cells.specs.Courses.{way_of}
use Rattle.hitless_cells.specs.Interrupted.{AreOtherNetworks, AreOtherPlaces, AreOtherServices, AreOtherSubnets, AreOtherTracks, IsNotOffered, OffersOtherwise, SaysOfWays, place_of, places_of}
use Rattle.hitless_cells.specs.Lines.{difference_by, difference_of, first_difference, leads, same_found, same_subnet, subnet_counts}
use Rattle.hitless_cells.specs.Openings.{change_found, change_of, opened, opening_by, opening_of, stops_change, worse}
use Rattle.hitless_cells.specs.declared.cells.Cell.{Cell}
use Rattle.hitless_cells.specs.declared.changes.Change.{Change}
use Rattle.hitless_cells.specs.declared.changes.Change.TheVariants.{Same, Listening, Place}
use Rattle.hitless_cells.specs.declared.course.Course.{Course}
use Rattle.hitless_cells.specs.declared.course.Course.TheVariants.{Inside, Passing, Through}
use Rattle.hitless_cells.specs.declared.ends.Ends.{Ends}
use Rattle.hitless_cells.specs.declared.joints.Joint.{Joint}
use Rattle.hitless_cells.specs.declared.lines.Difference.{Difference}
use Rattle.hitless_cells.specs.declared.lines.Difference.TheVariants as Is
use Rattle.hitless_cells.specs.declared.stops.Stop.{Stop}
use Rattle.hitless_cells.proofs.Chains.{stop_from}
use Rattle.hitless_cells.proofs.Sameness.{both_true, found_block_self, node_self, same_number, stops_self}
use Rattle.hitless_cells.proofs.Sides.{Parts, Side, held_by, offered_where_open, parts_of, subnet_on}

-- what the first difference says of its parts
abbrev FirstSays : Bool → Change → Change → Bool → Difference → Type 0
FirstSays n nodes services other Is.Network = n ≡ false
FirstSays n nodes services other Is.Node = nodes ≡ Place
FirstSays n nodes services other Is.Services = services ≡ Place
FirstSays n nodes services other Is.Subnet = other ≡ true
FirstSays n nodes services other Is.ControlNodes = (nodes ≢ Same) ⊎ (services ≢ Same)
FirstSays n nodes services other Is.NotOfferedBefore = ⊥
FirstSays n nodes services other Is.NotOfferedAfter = ⊥
FirstSays n nodes services other (Is.AnotherPort after) = ⊥

first_says : (n : Bool) (nodes services : Change) (other : Bool) (d : Difference) → first_difference n nodes services other ≡ Some d → FirstSays n nodes services other d
first_says false nodes services other d h = let e : Is.Network ≡ d = cc in subst (FirstSays false nodes services other) e refl
first_says true Place services other d h = let e : Is.Node ≡ d = cc in subst (FirstSays true Place services other) e refl
first_says true Same Place other d h = let e : Is.Services ≡ d = cc in subst (FirstSays true Same Place other) e refl
first_says true Listening Place other d h = let e : Is.Services ≡ d = cc in subst (FirstSays true Listening Place other) e refl
first_says true Same Same true d h = let e : Is.Subnet ≡ d = cc in subst (FirstSays true Same Same true) e refl
first_says true Same Listening true d h = let e : Is.Subnet ≡ d = cc in subst (FirstSays true Same Listening true) e refl
first_says true Listening Same true d h = let e : Is.Subnet ≡ d = cc in subst (FirstSays true Listening Same true) e refl
first_says true Listening Listening true d h = let e : Is.Subnet ≡ d = cc in subst (FirstSays true Listening Listening true) e refl
first_says true Same Same false d h = absurd cc
first_says true Same Listening false d h = let e : Is.ControlNodes ≡ d = cc in subst (FirstSays true Same Listening false) e (inr (λ same. absurd cc))
first_says true Listening Same false d h = let e : Is.ControlNodes ≡ d = cc in subst (FirstSays true Listening Same false) e (inl (λ same. absurd cc))
first_says true Listening Listening false d h = let e : Is.ControlNodes ≡ d = cc in subst (FirstSays true Listening Listening false) e (inl (λ same. absurd cc))

-- of two changes one is as great as the greater
worse_place : (a b : Change) → worse a b ≡ Place → (a ≡ Place) ⊎ (b ≡ Place)
worse_place Same b h = inr h
worse_place Place b h = inl refl
worse_place Listening Place h = inr refl
worse_place Listening Same h = absurd cc
worse_place Listening Listening h = absurd cc

worse_some : (a b : Change) → worse a b ≢ Same → (a ≢ Same) ⊎ (b ≢ Same)
worse_some Same b h = inr h
worse_some Place b h = inl (λ same. absurd cc)
worse_some Listening b h = inl (λ same. absurd cc)

-- places

not_place : (b e : Bool) → b ≡ true → cond b (cond e Same Listening) Place ≢ Place
not_place true true h k = cc
not_place true false h k = cc
not_place false e h k = absurd cc

other_place : (n m : Node) → change_of n m ≡ Place → place_of n ≢ place_of m
other_place n m h same =
    let name : n.name ≡ m.name = ap (λ (p : List ℕ × Addr). p.0) same in
    let address : n.address.0 ≡ m.address.0 = ap (λ (p : List ℕ × Addr). p.1.0) same in
    not_place (same_name n.name m.name && eqb n.address.0 m.address.0) (pointwise same_name n.controllers m.controllers)
    (both_true (same_name n.name m.name) (eqb n.address.0 m.address.0) ((same_name_iff n.name m.name).1 name) (ap (λ k. eqb n.address.0 k) (sym address) ∙ same_number n.address.0)) h

other_found : (o u : Option Node) (n m : Node) → o ≡ Some n → u ≡ Some m → change_found o u ≡ Place → place_of n ≢ place_of m
other_found o u n m e f h = other_place n m ((λ i. change_found (sym e i) (sym f i)) ∙ h)

stop_not_place : (b : Bool) (c : Change) → b ≡ true → c ≢ Place → cond b c Place ≢ Place
stop_not_place true c h k = k
stop_not_place false c h k = absurd cc

worse_not : (a b : Change) → a ≢ Place → b ≢ Place → worse a b ≢ Place
worse_not a b h k e = elim (worse_place a b e) [ inl one ↦ h one | inr two ↦ k two ]

same_places : (ks ls : List (ServiceNo × Node)) → places_of ks ≡ places_of ls → stops_change (map stop_from ks) (map stop_from ls) ≢ Place
same_places [] [] e h = absurd cc
same_places [] (l ∷ ls) e h = absurd cc
same_places (k ∷ ks) [] e h = absurd cc
same_places (k ∷ ks) (l ∷ ls) e h =
    let KeyedPlace : Type 0 = ServiceNo × (List ℕ × Addr) in
    let one : KeyedPlace = (k.0, place_of k.1) in
    let two : KeyedPlace = (l.0, place_of l.1) in
    let first : one ≡ two = cc in
    let more : places_of ks ≡ places_of ls = cc in
    let number : k.0.0 ≡ l.0.0 = ap (λ (p : ServiceNo × (List ℕ × Addr)). p.0.0) first in
    let place : place_of k.1 ≡ place_of l.1 = ap (λ (p : ServiceNo × (List ℕ × Addr)). p.1) first in
    stop_not_place (eqb k.0.0 l.0.0) (worse (change_of k.1 l.1) (stops_change (map stop_from ks) (map stop_from ls)))
    (ap (λ m. eqb k.0.0 m) (sym number) ∙ same_number k.0.0)
    (worse_not (change_of k.1 l.1) (stops_change (map stop_from ks) (map stop_from ls)) (λ f. other_place k.1 l.1 f place) (same_places ks ls more)) h

either_false : (a b : Bool) → (a && b) ≡ false → (a ≡ false) ⊎ (b ≡ false)
either_false true b h = inr h
either_false false b h = inl refl

both_parts : (a b : Bool) → (a && b) ≡ true → (a ≡ true) × (b ≡ true)
both_parts true b h = (refl, h)
both_parts false b h = absurd cc

either_true : (a b : Bool) → (a || b) ≡ true → (a ≡ true) ⊎ (b ≡ true)
either_true true b h = inl refl
either_true false b h = inr h

not_true : (b : Bool) → not b ≡ true → b ≡ true → ⊥
not_true true h k = absurd cc
not_true false h k = absurd cc

numbers_apart : (a b : InstanceId) → eqb a.0 b.0 ≡ false → a ≢ b
numbers_apart a b e same = let never : false ≡ true = sym e ∙ ap (λ (n : InstanceId). eqb a.0 n.0) (sym same) ∙ same_number a.0 in absurd cc

module _ (x y : Checked) (v : IsValid x.topology x.config) (w : IsValid y.topology y.config) (form_x : IsTrue (has_config_form x.config)) (form_y : IsTrue (has_config_form y.config))
    (p : Packet) (number : PortNo) (from to : Ends) (j k : Joint) (s : Side x p number from.before to.before j.before k.before) (r : Side y p number from.after to.after j.after k.after)
    (cell : Cell) (lead_x : LeadsTo x.config p number (way_of cell.was)) (lead_y : LeadsTo y.config p number (way_of cell.becomes)) where
  abbrev in_x : Course → Track → Type 0
  in_x course t = Parts x p from.before to.before j.before k.before course t

  abbrev in_y : Course → Track → Type 0
  in_y course t = Parts y p from.after to.after j.after k.after course t

  parts_x : (course : Course) (t : Track) → Offers x p number (way_of course) t → in_x course t
  parts_x = parts_of x v form_x p number from.before to.before j.before k.before s

  parts_y : (course : Course) (t : Track) → Offers y p number (way_of course) t → in_y course t
  parts_y = parts_of y w form_y p number from.after to.after j.after k.after r

  closed_x : (course : Course) → opened x from.before to.before course ≡ None → IsNotOffered x p number (way_of course)
  closed_x course e t h = let never : None ≡ Some (map stop_from t.stops) = sym e ∙ (parts_x course t h).stops in absurd cc

  closed_y : (course : Course) → opened y from.after to.after course ≡ None → IsNotOffered y p number (way_of course)
  closed_y course e t h = let never : None ≡ Some (map stop_from t.stops) = sym e ∙ (parts_y course t h).stops in absurd cc

  -- a way that lies open before and after, with both tracks
  record IsOpenTwice (course : Course) (ps rs : List Stop) : Type 0 where
    one : Track
    two : Track
    offers_one : Offers x p number (way_of course) one
    offers_two : Offers y p number (way_of course) two
    parts_one : in_x course one
    parts_two : in_y course two
    stops_one : ps ≡ map stop_from one.stops
    stops_two : rs ≡ map stop_from two.stops

  open_twice : (course : Course) (ps rs : List Stop) → opened x from.before to.before course ≡ Some ps → opened y from.after to.after course ≡ Some rs → IsOpenTwice course ps rs
  open_twice course ps rs e f =
      let g = offered_where_open x v form_x p number from.before to.before j.before k.before s course ps e in
      let h = offered_where_open y w form_y p number from.after to.after j.after k.after r course rs f in
      let first : Some ps ≡ Some (map stop_from g.0.stops) = sym e ∙ g.2.stops in
      let second : Some rs ≡ Some (map stop_from h.0.stops) = sym f ∙ h.2.stops in
      record {
        one = g.0;
        two = h.0;
        offers_one = g.1;
        offers_two = h.1;
        parts_one = g.2;
        parts_two = h.2;
        stops_one = cc;
        stops_two = cc;
      }

  otherwise : (course : Course) (ps rs : List Stop) (o : IsOpenTwice course ps rs) (AreOther : Track → Track → Type 0) → AreOther o.one o.two → OffersOtherwise x y p number (way_of course) AreOther
  otherwise course ps rs o AreOther h = record { before = o.one; after = o.two; offers_before = o.offers_one; offers_after = o.offers_two; are_other = h }

  other_services : (course : Course) (ps rs : List Stop) (o : IsOpenTwice course ps rs) → stops_change ps rs ≡ Place → AreOtherServices o.one o.two
  other_services course ps rs o h same = same_places o.one.stops o.two.stops same ((λ i. stops_change (sym o.stops_one i) (sym o.stops_two i)) ∙ h)

  some_services : (course : Course) (ps rs : List Stop) (o : IsOpenTwice course ps rs) → stops_change ps rs ≢ Same → AreOtherTracks o.one o.two
  some_services course ps rs o h same =
      h ((λ i. stops_change (o.stops_one i) ((o.stops_two ∙ ap (λ (t : Track). map stop_from t.stops) (sym same)) i)) ∙ stops_self (map stop_from o.one.stops))

  other_subnet : (course : Course) (ps rs : List Stop) (o : IsOpenTwice course ps rs) → leads course ≡ true → not (same_subnet to p.destination.0) ≡ true → AreOtherSubnets o.one o.two
  other_subnet course ps rs o h other same = not_true (same_subnet to p.destination.0) other (led course h (sym o.parts_one.subnet ∙ same ∙ o.parts_two.subnet)) where
    led : (course : Course) → leads course ≡ true → subnet_on course to.before p.destination.0 ≡ subnet_on course to.after p.destination.0 → same_subnet to p.destination.0 ≡ true
    led Inside h e = absurd cc
    led Passing h e = absurd cc
    led (Through use_no mirrored) h e =
        let t = held_by x v form_x p number from.before to.before j.before k.before s in
        (λ i. same_found (t.1 i) ((sym e ∙ t.1) i)) ∙ found_block_self t.0

  module _ (at_source : j.change ≡ change_found (node_named x.topology j.before.node) (node_named y.topology j.after.node))
      (at_arrival : k.change ≡ change_found (node_named x.topology k.before.node) (node_named y.topology k.after.node)) (address_is : k.before.address.0 ≡ p.destination.0) where
    abbrev numbers : Bool
    numbers = eqb from.before.id.0 from.after.id.0 && eqb to.before.id.0 to.after.id.0

    source_other : (course : Course) (ps rs : List Stop) (o : IsOpenTwice course ps rs) → j.change ≡ Place → place_of o.one.source_node ≢ place_of o.two.source_node
    source_other course ps rs o h =
        other_found (node_named x.topology j.before.node) (node_named y.topology j.after.node) o.one.source_node o.two.source_node o.parts_one.source o.parts_two.source (sym at_source ∙ h)

    arrival_other : (course : Course) (ps rs : List Stop) (o : IsOpenTwice course ps rs) → k.change ≡ Place → place_of o.one.arrival_node ≢ place_of o.two.arrival_node
    arrival_other course ps rs o h =
        other_found (node_named x.topology k.before.node) (node_named y.topology k.after.node) o.one.arrival_node o.two.arrival_node o.parts_one.arrival o.parts_two.arrival (sym at_arrival ∙ h)

    source_some : (course : Course) (ps rs : List Stop) (o : IsOpenTwice course ps rs) → j.change ≢ Same → AreOtherTracks o.one o.two
    source_some course ps rs o h same =
        h (at_source ∙ (λ i. change_found (o.parts_one.source i) ((o.parts_two.source ∙ ap (λ (t : Track). Some t.source_node) (sym same)) i)) ∙ node_self o.one.source_node)

    arrival_some : (course : Course) (ps rs : List Stop) (o : IsOpenTwice course ps rs) → k.change ≢ Same → AreOtherTracks o.one o.two
    arrival_some course ps rs o h same =
        h (at_arrival ∙ (λ i. change_found (o.parts_one.arrival i) ((o.parts_two.arrival ∙ ap (λ (t : Track). Some t.arrival_node) (sym same)) i)) ∙ node_self o.one.arrival_node)

    module _ (ps rs ss qs : List Stop) (o : IsOpenTwice cell.was ps rs) (u : IsOpenTwice cell.becomes ss qs) where
      abbrev services : Change
      services = worse (stops_change ps rs) (stops_change ss qs)

      abbrev nodes : Change
      nodes = worse j.change k.change

      abbrev others : Bool
      others = subnet_counts to k.before.address.0 cell

      says_first : (d : Difference) → FirstSays numbers nodes services others d → SaysOfWays x y p number (way_of cell.was) (way_of cell.becomes) d
      says_first Is.NotOfferedBefore h = absurd h
      says_first Is.NotOfferedAfter h = absurd h
      says_first (Is.AnotherPort after) h = absurd h
      says_first Is.Network h =
          otherwise cell.was ps rs o AreOtherNetworks (elim (either_false (eqb from.before.id.0 from.after.id.0) (eqb to.before.id.0 to.after.id.0) h) [
            | inl one ↦ inl (λ same. numbers_apart from.before.id from.after.id one (o.parts_one.from ∙ same ∙ sym o.parts_two.from))
            | inr two ↦ inr (λ same. numbers_apart to.before.id to.after.id two (o.parts_one.to ∙ same ∙ sym o.parts_two.to))
          ])
      says_first Is.Node h =
          otherwise cell.was ps rs o AreOtherPlaces (elim (worse_place j.change k.change h) [ inl one ↦ inl (source_other cell.was ps rs o one) | inr two ↦ inr (arrival_other cell.was ps rs o two) ])
      says_first Is.Services h =
          elim (worse_place (stops_change ps rs) (stops_change ss qs) h) [
            | inl one ↦ inl (otherwise cell.was ps rs o AreOtherServices (other_services cell.was ps rs o one))
            | inr two ↦ inr (otherwise cell.becomes ss qs u AreOtherServices (other_services cell.becomes ss qs u two))
          ]
      says_first Is.Subnet h =
          let here : subnet_counts to p.destination.0 cell ≡ true = subst (λ (m : ℕ). subnet_counts to m cell ≡ true) address_is h in
          let parts = both_parts (leads cell.was || leads cell.becomes) (not (same_subnet to p.destination.0)) here in
          elim (either_true (leads cell.was) (leads cell.becomes) parts.0) [
            | inl one ↦ inl (otherwise cell.was ps rs o AreOtherSubnets (other_subnet cell.was ps rs o one parts.1))
            | inr two ↦ inr (otherwise cell.becomes ss qs u AreOtherSubnets (other_subnet cell.becomes ss qs u two parts.1))
          ]
      says_first Is.ControlNodes h =
          elim h [
            | inl ends ↦ elim (worse_some j.change k.change ends) [
              | inl one ↦ inl (otherwise cell.was ps rs o AreOtherTracks (source_some cell.was ps rs o one))
              | inr two ↦ inl (otherwise cell.was ps rs o AreOtherTracks (arrival_some cell.was ps rs o two))
            ]
            | inr stops ↦ elim (worse_some (stops_change ps rs) (stops_change ss qs) stops) [
              | inl one ↦ inl (otherwise cell.was ps rs o AreOtherTracks (some_services cell.was ps rs o one))
              | inr two ↦ inr (otherwise cell.becomes ss qs u AreOtherTracks (some_services cell.becomes ss qs u two))
            ]
          ]

    says_by : (o1 o2 o3 o4 : Option (List Stop)) → opened x from.before to.before cell.becomes ≡ o1 → opened y from.after to.after cell.was ≡ o2 → opened x from.before to.before cell.was ≡ o3
        → opened y from.after to.after cell.becomes ≡ o4 → (d : Difference) → difference_by from to j k cell (opening_by o1 o2 o3 o4) ≡ Some d
        → SaysOfWays x y p number (way_of cell.was) (way_of cell.becomes) d
    says_by None o2 o3 o4 e1 e2 e3 e4 d h =
        let is : Is.NotOfferedBefore ≡ d = cc in
        subst (SaysOfWays x y p number (way_of cell.was) (way_of cell.becomes)) is (closed_x cell.becomes e1)
    says_by (Some ss) None o3 o4 e1 e2 e3 e4 d h =
        let is : Is.NotOfferedAfter ≡ d = cc in
        subst (SaysOfWays x y p number (way_of cell.was) (way_of cell.becomes)) is (closed_y cell.was e2)
    says_by (Some ss) (Some rs) None o4 e1 e2 e3 e4 d h =
        let t = offered x v p number (way_of cell.was) lead_x in absurd (closed_x cell.was e3 t.0 t.1)
    says_by (Some ss) (Some rs) (Some ps) None e1 e2 e3 e4 d h =
        let t = offered y w p number (way_of cell.becomes) lead_y in absurd (closed_y cell.becomes e4 t.0 t.1)
    says_by (Some ss) (Some rs) (Some ps) (Some qs) e1 e2 e3 e4 d h =
        says_first ps rs ss qs (open_twice cell.was ps rs e3 e2) (open_twice cell.becomes ss qs e1 e4) d
        (first_says numbers (worse j.change k.change) (worse (stops_change ps rs) (stops_change ss qs)) (subnet_counts to k.before.address.0 cell) d h)

    pub says_so : cell.opening ≡ opening_of x from.before to.before y from.after to.after cell.was cell.becomes → (d : Difference) → difference_of from to j k cell ≡ Some d
        → SaysOfWays x y p number (way_of cell.was) (way_of cell.becomes) d
    says_so opens d h =
        says_by (opened x from.before to.before cell.becomes) (opened y from.after to.after cell.was) (opened x from.before to.before cell.was) (opened y from.after to.after cell.becomes)
        refl refl refl refl d (ap (difference_by from to j k cell) (sym opens) ∙ h)
