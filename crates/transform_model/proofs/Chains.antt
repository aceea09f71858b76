-- The ways along a chain: from the left network to the ports of the right one, and mirrored from the right one to the
-- ports of the left.
use Rattle.std.proofs.Common.{◌≡◌, ◌<◌, ◌≤◌, ◌+◌, ◌-◌, ◌*◌, ◌/◌, ◌%◌, ◌++◌, ℕ, true, IsTrue, List, [], ◌∷◌, Some, length, reverse, refl, sym, ap, ◌∙◌, subst, append_assoc, length-append, arith}
use Rattle.std.specs.List.{Contains, slice_get}
use Rattle.std.proofs.lemmas.List.{append-nil, length-reverse, reverse-append}
use Rattle.std.proofs.lemmas.Bool.{eq-eqb}
use Rattle.std.proofs.lemmas.Option.{slice_get_within}
use Rattle.ov_types.specs.Prefix.{Block, contains, host_prefix}
use Rattle.ov_types.specs.declared.numbers.InstanceId.{InstanceId}
use Rattle.ov_types.specs.declared.objects.LowKey.TheVariants as Key
use Rattle.ov_types.specs.declared.objects.LowValue.TheVariants as Value
use Rattle.ov_types.proofs.FirstLemmas.{contains_at, contains_here}
use Rattle.route_targets.specs.Numbers.{hop_instance_of, left_circuit_of, right_circuit_of, circuit_instance_of, circuit_address_of, circuit_label_of, other_side_of}
use Rattle.reach_plain.specs.ConfigTypes.Form.{has_config_form}
use Rattle.reach_plain.specs.ConfigTypes.Config.{Config}
use Rattle.reach_plain.specs.ConfigTypes.Network.{Network}
use Rattle.reach_plain.specs.ConfigTypes.Port.{Port}
use Rattle.reach_plain.specs.ConfigTypes.Service.{Service}
use Rattle.reach_plain.specs.ConfigTypes.Node.{Node}
use Rattle.reach_plain.specs.ConfigTypes.Topology.{Topology}
use Rattle.reach_plain.specs.ConfigCheck.Sentences.{IsValid}
use Rattle.transform_model.specs.IsObject.IsObject.{of_left_circuit, of_right_circuit}
use Rattle.transform_model.specs.IsRow.{IsPort, IsCircuitAt, HoldsPort}
use Rattle.transform_model.specs.IsRow.IsRow.{to_right_subnet, to_left_subnet, at_left_end, at_right_end}
use Rattle.transform_model.specs.IsUse.{IsUse, IsLeftCircuit, IsRightCircuit}
use Rattle.transform_model.specs.Objects.{low_objects, attached_circuit}
use Rattle.transform_model.specs.Tables.{Row, host_route, circuit_route}
use Rattle.transform_model.specs.Uses.{ConfiguredUse, Circuit}
use Rattle.transform_model.proofs.Circuits.{left_instance, right_instance}
use Rattle.transform_model.proofs.InUse.{few_services, services_are}
use Rattle.transform_model.proofs.Agents.{Needs, needed_at}
use Rattle.transform_model.proofs.Held.{is_object}
use Rattle.transform_model.proofs.Blocks.{Holds, host_is, held_by, not_circuit}
use Rattle.transform_model.proofs.Hops.{hop_row}
use Rattle.transform_model.proofs.Hops.HopRow.{to_circuit, rightwards, leftwards, left_host, right_host}
use Rattle.transform_model.proofs.Valid.{node_of_service, holds_port_address}
use Rattle.transform_model.proofs.Ways.{Arrives, LeadsOn, Way}

-- ---- the sides of a service

abbrev instance_numbered : ℕ → InstanceId
instance_numbered n = record { 0 = n }

half_before : (n : ℕ) → 1 ≤ n → (2 * n - 1) / 2 ≡ n - 1
half_before n h = omega arith

other_of_odd : (n : ℕ) → other_side_of (2 * n + 1) ≡ 2 * n + 1 + 1
other_of_odd n =
    let odd : (2 * n + 1) % 2 ≡ 1 = omega arith in
    rw odd refl

other_of_even : (n : ℕ) → other_side_of (2 * n) ≡ 2 * n - 1
other_of_even n =
    let even : (2 * n) % 2 ≡ 0 = omega arith in
    rw even refl

behind_left : (u place : ℕ) → circuit_instance_of (other_side_of (left_circuit_of u (place + 1))) ≡ hop_instance_of u (place + 1)
behind_left u place =
    let h : ℕ = 16384 + 16 * u + (place + 1 - 1) in
    let half : (2 * h + 1 + 1) / 2 ≡ 16384 + 16 * u + (place + 1) = omega arith in
    let number : other_side_of (2 * h + 1) / 2 ≡ 16384 + 16 * u + (place + 1) = ap (λ (x : ℕ). x / 2) (other_of_odd h) ∙ half in
    ap instance_numbered number

behind_right : (u place : ℕ) → circuit_instance_of (other_side_of (right_circuit_of u (place + 1))) ≡ hop_instance_of u place
behind_right u place =
    let h : ℕ = 16384 + 16 * u + (place + 1) in
    let before : h - 1 ≡ 16384 + 16 * u + place = omega arith in
    let number : other_side_of (2 * h) / 2 ≡ 16384 + 16 * u + place = ap (λ (x : ℕ). x / 2) (other_of_even h) ∙ half_before h (omega arith) ∙ before in
    ap instance_numbered number

-- ---- places in lists

get_middle : {A : Type 0} (front : List A) (x : A) (rest : List A) → slice_get (front ++ x ∷ rest) (length front) ≡ Some x
get_middle [] x rest = refl
get_middle (y ∷ front) x rest = get_middle front x rest

one_longer : {A : Type 0} (front : List A) (x : A) → length (front ++ x ∷ []) ≡ length front + 1
one_longer front x = length-append front (x ∷ [])

same_circuit : (k l : Circuit) → k.number ≡ l.number → k.service ≡ l.service → k ≡ l
same_circuit k l e f =
    let same : record { number = k.number; service = k.service } ≡ record { number = l.number; service = l.service } = cc in
    same

module _ (t : Topology) (c : Config) (form : IsTrue (has_config_form c)) (v : IsValid t c) (u : ConfiguredUse) (is_u : IsUse c u) (d : ℕ) where
  abbrev hop_at : ℕ → InstanceId
  hop_at place = hop_instance_of u.number place

  abbrev left_of : ℕ → Service → Circuit
  left_of place s = record { number = left_circuit_of u.number (place + 1); service = s }

  abbrev right_of : ℕ → Service → Circuit
  right_of place s = record { number = right_circuit_of u.number (place + 1); service = s }

  -- a row that leads to a network that does not hold the address does not contain it
  subnet_away : (near : Network) (i : InstanceId) (k : Circuit) (node : Node) (prefix : Block) (r : Row) → ¬ Holds near d → HoldsPort c near prefix → r ≡ circuit_route i prefix k node → contains r.0.1 d ≡ true → ⊥
  subnet_away near i k node prefix r alone held is hit = alone (held_by c near prefix d held (subst (λ (x : Row). contains x.0.1 d ≡ true) is hit))

  host_away : (near : Network) (i : InstanceId) (port : Port) (node : Node) (r : Row) → ¬ Holds near d → IsPort t c near port node → r ≡ host_route i near node port → contains r.0.1 d ≡ true → ⊥
  host_away near i port node r alone stands is hit =
      let there : port.address.0 ≡ d = host_is port.address.0 d (subst (λ (x : Row). contains x.0.1 d ≡ true) is hit) in
      alone (subst (Holds near) there (holds_port_address t c v near port stands.has_home stands.has_port stands.home_of))

  circuit_away : (far : Network) (number : ℕ) (r : Row) → Contains c.networks far → Holds far d → number ≤ 131070 → r.0.1 ≡ host_prefix (circuit_address_of number).0 → contains r.0.1 d ≡ true → ⊥
  circuit_away far number r in_far held few is hit =
      not_circuit t c form v far d number in_far held few (subst (λ (x : Block). contains x d ≡ true) is hit)

  -- the node of a service, and the attachments there
  node_at : (place : ℕ) (s : Service) → slice_get u.services place ≡ Some s → (n : Node) × Contains t.nodes n × (n.name ≡ s.node)
  node_at place s e = node_of_service t c v s (services_are c u s is_u (contains_at u.services place s e))

  circuit_needed : (node : Node) (k : Circuit) → Contains (low_objects t c) (attached_circuit k node) → Needs t c node.address (circuit_instance_of k.number)
  circuit_needed node k object =
      needed_at t c form v node.address (Key.Attach (circuit_label_of k.number).0) (Value.AttachCircuit k.number k.service.id node.address) (circuit_instance_of k.number) object
      (eq-eqb node.address.0 node.address.0 refl) (contains_here (circuit_instance_of k.number) [])

  -- ---- towards the right network

  module _ (held : Holds u.right d) (alone : ¬ Holds u.left d) where
    right_end : (place : ℕ) → place ≡ length u.services → Arrives t c u.right d (hop_at place)
    right_end place last = record {
      hosts = λ r is hit. elim (hop_row t c form v u place r is_u (subst (λ (n : ℕ). n ≤ 15) (sym last) (few_services t c u v is_u)) is) [
        | to_circuit number few at ↦ absurd (circuit_away u.right number r is_u.has_right held few at hit)
        | rightwards k node prefix is_k is_at holds at ↦ let within : place < length u.services = slice_get_within u.services place k.service is_k.service in absurd (omega arith)
        | leftwards j k node prefix behind is_k is_at holds at ↦ absurd (subnet_away u.left (hop_at place) k node prefix r alone holds at hit)
        | left_host port node first stands at ↦ absurd (host_away u.left (hop_at place) port node r alone stands at hit)
        | right_host port node at_end stands at ↦ record { port = port; node = node; stands = stands; is = at }
      ];
      leads = λ port node stands. at_right_end u port node is_u stands (ap hop_at last) refl;
    }

    right_step : (place : ℕ) (s : Service) → slice_get u.services place ≡ Some s → LeadsOn t c u.right d (hop_at place) (left_of place s)
    right_step place s e =
        let within : place < length u.services = slice_get_within u.services place s e in
        let few : length u.services ≤ 15 = few_services t c u v is_u in
        let k : Circuit = left_of place s in
        let is_left : IsLeftCircuit u place k = record { service = e; number = refl } in
        let is_right : IsRightCircuit u place (right_of place s) = record { service = e; number = refl } in
        let at = node_at place s e in
        let node : Node = at.0 in
        let is_at : IsCircuitAt t k node = record { has_node = at.1; node_of = at.2 } in
        let behind : IsCircuitAt t (right_of place s) node = record { has_node = at.1; node_of = at.2 } in
        let object = is_object t c form v (attached_circuit k node) (of_left_circuit u place k node is_u is_left is_at refl) in
        let other = is_object t c form v (attached_circuit (right_of place s) node) (of_right_circuit u place (right_of place s) node is_u is_right behind refl) in
        record {
          circuits = λ r is hit. elim (hop_row t c form v u place r is_u (omega arith) is) [
            | to_circuit number few at ↦ absurd (circuit_away u.right number r is_u.has_right held few at hit)
            | rightwards l node prefix is_l is_at holds at ↦
                let one : Some l.service ≡ Some s = sym is_l.service ∙ e in
                let same : l ≡ k = same_circuit l k is_l.number cc in
                record { prefix = prefix; node = node; held = holds; at = subst (λ (x : Circuit). IsCircuitAt t x node) same is_at; is = subst (λ (x : Circuit). r ≡ circuit_route (hop_at place) prefix x node) same at }
            | leftwards j l node prefix behind is_l is_at holds at ↦ absurd (subnet_away u.left (hop_at place) l node prefix r alone holds at hit)
            | left_host port node first stands at ↦ absurd (host_away u.left (hop_at place) port node r alone stands at hit)
            | right_host port node at_end stands at ↦ absurd (omega arith)
          ];
          leads = λ prefix node holds is_at. to_right_subnet u place k node prefix is_u is_left is_at holds refl refl;
          node = node;
          at = is_at;
          attaches = object;
          needs = subst (Needs t c node.address) (right_instance u place (right_of place s) is_right ∙ sym (behind_left u.number place))
              (circuit_needed node (right_of place s) other);
        }

    -- from behind the first services through those that are left
    pub right_way : (front rest : List Service) → u.services ≡ front ++ rest → Way t c u.right d (hop_at (length front)) rest
    right_way front [] e = right_end (length front) (ap length (sym (append-nil front)) ∙ ap length (sym e))
    right_way front (s ∷ rest) e =
        let place : ℕ = length front in
        let there : slice_get u.services place ≡ Some s = ap (λ (xs : List Service). slice_get xs place) e ∙ get_middle front s rest in
        let next : hop_at (length (front ++ s ∷ [])) ≡ circuit_instance_of (other_side_of (left_of place s).number) =
        ap hop_at (one_longer front s) ∙ sym (behind_left u.number place) in (
          left_of place s,
          refl,
          right_step place s there,
          subst (λ (i : InstanceId). Way t c u.right d i rest) next (right_way (front ++ s ∷ []) rest (e ∙ sym (append_assoc front (s ∷ []) rest))),
        )

  -- ---- towards the left network

  module _ (held : Holds u.left d) (alone : ¬ Holds u.right d) where
    left_end : Arrives t c u.left d (hop_at 0)
    left_end = record {
      hosts = λ r is hit. elim (hop_row t c form v u 0 r is_u (omega arith) is) [
        | to_circuit number few at ↦ absurd (circuit_away u.left number r is_u.has_left held few at hit)
        | rightwards k node prefix is_k is_at holds at ↦ absurd (subnet_away u.right (hop_at 0) k node prefix r alone holds at hit)
        | leftwards j k node prefix behind is_k is_at holds at ↦ absurd (omega arith)
        | left_host port node first stands at ↦ record { port = port; node = node; stands = stands; is = at }
        | right_host port node at_end stands at ↦ absurd (host_away u.right (hop_at 0) port node r alone stands at hit)
      ];
      leads = λ port node stands. at_left_end u port node is_u stands refl refl;
    }

    left_step : (place : ℕ) (s : Service) → slice_get u.services place ≡ Some s → LeadsOn t c u.left d (hop_at (place + 1)) (right_of place s)
    left_step place s e =
        let within : place < length u.services = slice_get_within u.services place s e in
        let few : length u.services ≤ 15 = few_services t c u v is_u in
        let k : Circuit = right_of place s in
        let is_right : IsRightCircuit u place k = record { service = e; number = refl } in
        let is_left : IsLeftCircuit u place (left_of place s) = record { service = e; number = refl } in
        let at = node_at place s e in
        let node : Node = at.0 in
        let is_at : IsCircuitAt t k node = record { has_node = at.1; node_of = at.2 } in
        let before : IsCircuitAt t (left_of place s) node = record { has_node = at.1; node_of = at.2 } in
        let object = is_object t c form v (attached_circuit k node) (of_right_circuit u place k node is_u is_right is_at refl) in
        let other = is_object t c form v (attached_circuit (left_of place s) node) (of_left_circuit u place (left_of place s) node is_u is_left before refl) in
        record {
          circuits = λ r is hit. elim (hop_row t c form v u (place + 1) r is_u (omega arith) is) [
            | to_circuit number few at ↦ absurd (circuit_away u.left number r is_u.has_left held few at hit)
            | rightwards l node prefix is_l is_at holds at ↦ absurd (subnet_away u.right (hop_at (place + 1)) l node prefix r alone holds at hit)
            | leftwards j l node prefix behind is_l is_at holds at ↦
                let here : place ≡ j = omega arith in
                let is_there : IsRightCircuit u place l = subst (λ (n : ℕ). IsRightCircuit u n l) (sym here) is_l in
                let one : Some l.service ≡ Some s = sym is_there.service ∙ e in
                let same : l ≡ k = same_circuit l k is_there.number cc in
                record { prefix = prefix; node = node; held = holds; at = subst (λ (x : Circuit). IsCircuitAt t x node) same is_at; is = subst (λ (x : Circuit). r ≡ circuit_route (hop_at (place + 1)) prefix x node) same at }
            | left_host port node first stands at ↦ absurd (omega arith)
            | right_host port node at_end stands at ↦ absurd (host_away u.right (hop_at (place + 1)) port node r alone stands at hit)
          ];
          leads = λ prefix node holds is_at. to_left_subnet u place k node prefix is_u is_right is_at holds refl refl;
          node = node;
          at = is_at;
          attaches = object;
          needs = subst (Needs t c node.address) (left_instance u place (left_of place s) is_left ∙ sym (behind_right u.number place))
              (circuit_needed node (left_of place s) other);
        }

    -- from behind some services, mirrored, through them
    pub left_way : (back rest : List Service) → u.services ≡ reverse back ++ rest → Way t c u.left d (hop_at (length back)) back
    left_way [] rest e = left_end
    left_way (s ∷ back) rest e =
        let place : ℕ = length back in
        let whole : u.services ≡ reverse back ++ s ∷ rest =
        e ∙ ap (λ (xs : List Service). xs ++ rest) (reverse-append (s ∷ []) back) ∙ append_assoc (reverse back) (s ∷ []) rest in
        let P : ℕ → Type 0 = λ n. slice_get (reverse back ++ s ∷ rest) n ≡ Some s in
        let there : slice_get u.services place ≡ Some s =
        ap (λ (xs : List Service). slice_get xs place) whole ∙ subst P (length-reverse back) (get_middle (reverse back) s rest) in
        let longer : place + 1 ≡ length (s ∷ back) = omega arith in
        let here : hop_at (place + 1) ≡ hop_at (length (s ∷ back)) = ap hop_at longer in
        let next : hop_at place ≡ circuit_instance_of (other_side_of (right_of place s).number) = sym (behind_right u.number place) in (
          right_of place s,
          refl,
          subst (λ (i : InstanceId). LeadsOn t c u.left d i (right_of place s)) here (left_step place s there),
          subst (λ (i : InstanceId). Way t c u.left d i back) next (left_way back (s ∷ rest) whole),
        )
