-- Each place among the seats of a topology's nodes is found by its two names, and has a far place.
use Rattle.std.specs.Cmp.Lexicographic.{bytes_decides}
use Rattle.std.specs.List.{filter}
use Rattle.std.specs.Option.{option_map, unwrap_or}
use Rattle.std.specs.Prelude.{List, length, map, not, option_and_then, slice_index_or, suc, zero, ℕ, [], ◌++◌, ◌<◌, ◌∷◌, ◌≡◌}
use Rattle.std.specs.declared.option.Option.TheVariants.{None, Some}
use Rattle.std.specs.declared.option.Option.{Option}
use Rattle.std.proofs.Common.{ap, arith, inl, inr, refl, subst, sym, ◌∙◌}
use Rattle.std.proofs.lemmas.Option.{same_Some}
use Rattle.std.proofs.lemmas.List.{map-append}
use Rattle.ov_types.specs.First.{same_name}
use Rattle.ov_types.specs.declared.rows.NodeId.{NodeId}
use Rattle.config_types.specs.declared.topology.Node.{Node}
use Rattle.schedule_script.specs.ConfigCheck.Rules.{controller_names, node_names}
use Rattle.schedule_script.specs.ConfigCheck.Sentences.{AreDistinct}
use Rattle.node_model.specs.Members.{Member}
use Rattle.node_model.proofs.Members.{from_filter, in_either, in_map, none_some}
use Rattle.machine_laws.specs.MachineModel.Moments.{HasNumbers}
use Rattle.machine_laws.specs.MachineModel.Network.{config}
use Rattle.machine_laws.specs.MachineModel.Session.{Agent}
use Rattle.machine_laws.specs.MachineModel.Setup.{Name, Setup, agents_of, checked}
use Rattle.machine_laws.specs.Goal.{Party}
use Rattle.machine_laws.specs.Setups.{IsNamed}
use Rattle.machine_laws.proofs.MachineModel.Apart.{NamesApart}
use Rattle.machine_laws.proofs.MachineModel.Distinct.{Apart, apart_of}
use Rattle.machine_laws.proofs.KindNames.{apart_names}
use Rattle.running_nodes.specs.Seats.{Configuring, Controlling, Forwarding, Seat, Who, agent_plan, control_plan, far_of, index_from, is_name, name_of, name_there, names_of, nobody, other, others_of, place_at, place_of, role_of, seat, seat_named, session_with, whos}
use Rattle.running_nodes.specs.declared.place.SessionPlace.{SessionPlace}
use Rattle.running_laws.specs.Wiring.{AreSeats, HasFar, IsPlace, IsPlaceOf, name_at, other_at}
use Rattle.running_laws.proofs.FirstPlaces.{apart_kept, at_map, at_of_member, index_here, index_found, index_of_map, map_twice, member_of_at, mapped_length}
use Rattle.running_laws.proofs.Parties.{Ties, by_kind, holder_of, name_of_party, others_than_root, parties_named, parties_of, party_of_name, plan_names, self, ties_of, ties_turned}
use Rattle.running_laws.proofs.VacantNames.{AreNamedOnce, from_named, from_there, number_found, number_here, once_both, once_named, once_there, some_member, some_within, somebody_is}

-- the control nodes that a compute node lists are different
abbrev pub ListsApart : Setup → Type 0
ListsApart x = (n : Node) → Member n x.topology.nodes → AreDistinct n.controllers

module _ (x : Setup) (named : IsNamed x.topology) (numbers : HasNumbers x) (listed : ListsApart x) where
  names : NamesApart x.topology
  names = apart_names x.topology named.apart

  -- ---- the names of all nodes
  abbrev all_names : List Name
  all_names = config ∷ (controller_names x.topology ++ node_names x.topology)

  whos_named : map name_of (whos x) ≡ all_names
  whos_named =
      let t = x.topology in
      ap (λ ns. config ∷ ns)
      (map-append name_of (map (λ c. Controlling (control_plan x c)) t.controllers) (map (λ n. Forwarding (agent_plan t n)) t.nodes)
      ∙ (λ i. map_twice name_of (λ c. Controlling (control_plan x c)) t.controllers i ++ map_twice name_of (λ n. Forwarding (agent_plan t n)) t.nodes i))

  -- ---- a node has one session with a node
  site_once : (c : NodeId) → Member c x.topology.controllers → AreNamedOnce (others_of (Controlling (control_plan x c)))
  site_once c m =
      let t = x.topology in
      let peers = filter (λ (d : NodeId). not (same_name d.name c.name)) t.controllers in
      let agents = agents_of x c.name in
      let fit = numbers c m in
      let peer : (n : Name) → Member (Some n) (names_of peers) → Member n (controller_names t) = λ n i. let q = from_named n peers i in subst (λ n. Member n (controller_names t)) q.2 (in_map (λ (d : NodeId). d.name) q.0 t.controllers (from_filter (λ (d : NodeId). not (same_name d.name c.name)) q.0 t.controllers q.1).0) in
      let agent : (n : Name) → Member (Some n) (map name_there agents) → Member n (node_names t) = λ n i. let q = from_there n agents i in let k = fit.only q.0 q.1 in subst (λ n. Member n (node_names t)) (ap (λ (d : NodeId). d.name) k.2 ∙ q.2) (in_map (λ (n : Node). n.name) k.0 t.nodes k.1) in (
        (λ n i e. elim (in_either (Some n) (names_of peers) (map name_there agents) i) as (λ _. ⊥) [ inl l ↦ names.no_site_config n (peer n l) (sym e) | inr r ↦ names.no_computer_config n (agent n r) (sym e) ]),
        once_both (names_of peers) (map name_there agents)
            (once_named peers (apart_kept (λ (d : NodeId). d.name) (λ (d : NodeId). not (same_name d.name c.name)) t.controllers names.sites_apart))
            (once_there agents fit.once)
            (λ m n i j e. names.kinds_apart m n (peer m i) (agent n j) e),
      )

  computer_once : (n : Node) → Member n x.topology.nodes → AreNamedOnce (others_of (Forwarding (agent_plan x.topology n)))
  computer_once n k = once_named (agent_plan x.topology n).controllers (subst Apart (sym (plan_names x named numbers n k)) (apart_of n.controllers (listed n k)))

  others_once : (w : Who) → Member w (whos x) → AreNamedOnce (others_of w)
  others_once w m = by_kind x named numbers (λ w. AreNamedOnce (others_of w)) (once_named x.topology.controllers names.sites_apart) site_once computer_once w m

  -- ---- the seats
  module _ (seats : List Seat) (are : AreSeats x seats) where
    abbrev who_of : Seat → Who
    who_of n = n.who

    who_at : (k : ℕ) → (seat seats k).who ≡ slice_index_or (whos x) k nobody.who
    who_at k = sym (at_map who_of seats k nobody) ∙ ap (λ ws. slice_index_or ws k nobody.who) are

    pub seats_long : length seats ≡ length (whos x)
    seats_long = mapped_length who_of seats (whos x) are

    pub who_in : (k : ℕ) → k < length seats → Member (seat seats k).who (whos x)
    who_in k h = subst (λ w. Member w (whos x)) (sym (who_at k)) (member_of_at (whos x) k nobody.who (subst (λ n. k < n) seats_long h))

    -- the first is the configuration node's, and each other is a control node's or an agent's
    pub root_at : (seat seats 0).who ≡ Configuring (checked x)
    root_at = who_at 0

    pub who_above : (k : ℕ) → 0 < k → k < length seats → Member (seat seats k).who (others_than_root x named numbers)
    who_above zero above h = absurd (omega (arith, above))
    who_above (suc k) above h = subst (λ w. Member w (others_than_root x named numbers)) (sym (who_at (suc k))) (member_of_at (others_than_root x named numbers) k nobody.who (omega (arith, h, seats_long)))

    -- a node has a seat
    pub seat_of : (w : Who) → Member w (whos x) → (k : ℕ) × (k < length seats) × ((seat seats k).who ≡ w)
    seat_of w m =
        let q = at_of_member w (whos x) nobody.who m in
        (q.0, subst (λ n. q.0 < n) (sym seats_long) q.1, who_at q.0 ∙ q.2)

    abbrev seat_names : List Name
    seat_names = map (λ (n : Seat). name_of n.who) seats

    seats_named : seat_names ≡ all_names
    seats_named = sym (map_twice name_of who_of seats) ∙ ap (map name_of) are ∙ whos_named

    names_long : length seats ≡ length seat_names
    names_long = mapped_length (λ (n : Seat). name_of n.who) seats seat_names refl

    pub seat_found : (k : ℕ) → k < length seats → seat_named seats (name_of (seat seats k).who) ≡ Some k
    seat_found k h =
        let a = name_of (seat seats k).who in
        sym (index_of_map (λ (n : Seat). name_of n.who) (λ m. same_name m a) 0 seats)
        ∙ subst (λ a. index_from 0 (λ m. same_name m a) seat_names ≡ Some k) (at_map (λ (n : Seat). name_of n.who) seats k nobody)
        (index_here seat_names k (name_of nobody.who) (subst Apart (sym seats_named) all_apart) (subst (λ n. k < n) names_long h))
      where
        all_apart : Apart all_names
        all_apart = apart_of all_names named.apart

    -- what is found by a name is a seat of that name
    pub seat_is : (a : Name) (k : ℕ) → seat_named seats a ≡ Some k → (k < length seats) × (name_of (seat seats k).who ≡ a)
    seat_is a k is =
        let n = index_found (λ (n : Seat). same_name (name_of n.who) a) 0 seats k nobody is in
        let same : n.0 ≡ k = omega (arith, n.1) in
        (subst (λ j. j < length seats) same n.2, subst (λ j. name_of (seat seats j).who ≡ a) same ((bytes_decides (name_of (seat seats n.0).who) a).0 n.3))

    session_found : (w : Who) → Member w (whos x) → (i : ℕ) (name : Name) → slice_index_or (others_of w) i None ≡ Some name → index_from 0 (is_name name) (others_of w) ≡ Some i
    session_found w m i name e = number_here (others_of w) i name (others_once w m) e

    -- ---- places
    pub place_found : (p : SessionPlace) → IsPlace seats p → place_of seats (name_at seats p) (other_at seats p) ≡ Some p
    place_found p h =
        ap (place_at seats (other_at seats p)) (seat_found p.node h.node)
        ∙ ap (option_map (λ i. record { node = p.node; session = i })) (session_found (seat seats p.node).who (who_in p.node h.node) p.session (other_at seats p) h.somebody)

    pub place_is : (a b : Name) (p : SessionPlace) → place_of seats a b ≡ Some p → IsPlaceOf seats a b p
    place_is a b p e = by_seat (seat_named seats a) refl e
      where
        by_session : (k : ℕ) → seat_named seats a ≡ Some k → (o : Option ℕ) → session_with (seat seats k) b ≡ o → option_map (λ i. record { node = k; session = i }) o ≡ Some p → IsPlaceOf seats a b p
        by_session k is None at e = absurd (none_some p e)
        by_session k is (Some i) at e =
            let q : SessionPlace = record { node = k; session = i } in
            let same : q ≡ p = same_Some q p e in
            let n = seat_is a k is in
            let there = number_found b (others_of (seat seats k).who) i at in
            let s = somebody_is (other (seat seats k) i) b there in
            subst (IsPlaceOf seats a b) same (record {
              is_place = record { node = n.0; session = some_within (others_of (seat seats k).who) i b there; somebody = s.0 };
              name = n.1;
              other = s.1;
            })

        by_seat : (o : Option ℕ) → seat_named seats a ≡ o → place_at seats b o ≡ Some p → IsPlaceOf seats a b p
        by_seat None is e = absurd (none_some p e)
        by_seat (Some k) is e = by_session k is (session_with (seat seats k) b) refl e

    pub place_is_of : (a b : Name) (p : SessionPlace) → IsPlaceOf seats a b p → place_of seats a b ≡ Some p
    place_is_of a b p h = subst (λ a. place_of seats a b ≡ Some p) h.name (subst (λ b. place_of seats (name_at seats p) b ≡ Some p) h.other (place_found p h.is_place))

    far_by : (p : SessionPlace) → IsPlace seats p → far_of seats p ≡ place_of seats (other_at seats p) (name_at seats p)
    far_by p h = ap (λ (o : Option Name). option_and_then (λ b. place_of seats b (name_at seats p)) o) h.somebody

    pub far_is : (a b : Name) (p : SessionPlace) → place_of seats a b ≡ Some p → far_of seats p ≡ place_of seats b a
    far_is a b p e = let h = place_is a b p e in far_by p h.is_place ∙ (λ i. place_of seats (h.other i) (h.name i))

    -- ---- places of nodes that have a session with each other
    pub record TiedAt (a o : Party) : Type 0 where
      pub place : SessionPlace
      pub is_of : IsPlaceOf seats a.0 o.0 place
      pub role : role_of (seat seats place.node).who ≡ a.1

    pub tied_at : (a o : Party) → Ties x.topology a o → TiedAt a o
    tied_at a o ties =
        let h = holder_of x named numbers a o ties in
        let k = seat_of h.who h.member in
        let i = at_of_member (Some o) (parties_of h.who) None h.tied in
        let w = (seat seats k.0).who in
        let there : slice_index_or (others_of w) i.0 None ≡ Some o.0 =
        ap (λ (ms : List (Option Name)). slice_index_or ms i.0 None) (sym (parties_named w)) ∙ at_map name_of_party (parties_of w) i.0 None
        ∙ ap (λ (w : Who). name_of_party (slice_index_or (parties_of w) i.0 None)) k.2 ∙ ap name_of_party i.2 in
        let s = somebody_is (other (seat seats k.0) i.0) o.0 there in
        record {
          place = record { node = k.0; session = i.0 };
          is_of = record {
            is_place = record { node = k.1; session = some_within (others_of w) i.0 o.0 there; somebody = s.0 };
            name = ap name_of k.2 ∙ ap (λ (p : Party). p.0) h.self_is;
            other = s.1;
          };
          role = ap role_of k.2 ∙ ap (λ (p : Party). p.1) h.self_is;
        }

    -- with whom the node of a place has the session
    abbrev pub party_at : SessionPlace → Party
    party_at p = unwrap_or (slice_index_or (parties_of (seat seats p.node).who) p.session None) ([], Agent)

    pub party_there : (p : SessionPlace) → IsPlace seats p
        → (slice_index_or (parties_of (seat seats p.node).who) p.session None ≡ Some (party_at p)) × ((party_at p).0 ≡ other_at seats p)
    party_there p h =
        let w = (seat seats p.node).who in
        party_of_name (slice_index_or (parties_of w) p.session None) (other_at seats p)
        (sym (at_map name_of_party (parties_of w) p.session None) ∙ ap (λ (ms : List (Option Name)). slice_index_or ms p.session None) (parties_named w) ∙ h.somebody)

    pub party_named : (p : SessionPlace) → IsPlace seats p → (party_at p).0 ≡ other_at seats p
    party_named p h = (party_there p h).1

    pub ties_at : (p : SessionPlace) → IsPlace seats p → Ties x.topology (self (seat seats p.node).who) (party_at p)
    ties_at p h =
        let w = (seat seats p.node).who in
        ties_of x named numbers w (who_in p.node h.node) (party_at p) (some_member (parties_of w) p.session (party_at p) (party_there p h).0)

    pub record FarAt (p : SessionPlace) : Type 0 where
      pub has : HasFar seats p
      pub role : role_of (seat seats has.far.node).who ≡ (party_at p).1

    pub far_at : (p : SessionPlace) → IsPlace seats p → FarAt p
    far_at p h =
        let a = self (seat seats p.node).who in
        let o = party_at p in
        let q = tied_at o a (ties_turned x.topology a o (ties_at p h)) in
        let name : name_at seats q.place ≡ other_at seats p = q.is_of.name ∙ party_named p h in
        record {
          has = record {
            far = q.place;
            found = far_by p h ∙ (λ i. place_of seats (sym name i) (sym q.is_of.other i)) ∙ place_found q.place q.is_of.is_place;
            is_place = q.is_of.is_place;
            back = far_by q.place q.is_of.is_place ∙ (λ i. place_of seats (q.is_of.other i) (name i)) ∙ place_found p h;
            name = name;
            other = q.is_of.other;
          };
          role = q.role;
        }
