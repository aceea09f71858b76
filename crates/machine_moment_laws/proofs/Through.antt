-- A way through a use that all configurations offer with one track is one of the common part, with just the services of the
-- track.
use Rattle.std.specs.Prelude.{◌≡◌, ◌+◌, ◌-◌, ◌*◌, ◌/◌, ◌<◌, ◌≤◌, ◌++◌, ℕ, suc, Bool, List, [], ◌∷◌, length, map, reverse, true, false, cond}
use Rattle.std.specs.List.{slice_get}
use Rattle.std.specs.declared.option.Option.TheVariants.{Some}
use Rattle.std.proofs.Common.{ap, append-nil, arith, inl, refl, subst, sym, ◌∙◌}
use Rattle.std.proofs.lemmas.List.{length-reverse, map_push, reverse-append, reverse-reverse}
use Rattle.std.proofs.lemmas.Option.{same_Some}
use Rattle.ov_types.specs.Prefix.{Block, contains}
use Rattle.ov_types.specs.declared.numbers.InstanceId.{InstanceId}
use Rattle.ov_types.specs.declared.numbers.PortNo.{PortNo}
use Rattle.ov_types.specs.declared.numbers.ServiceNo.{ServiceNo}
use Rattle.ov_types.specs.declared.objects.LowKey.{LowKey}
use Rattle.ov_types.specs.declared.objects.LowKey.TheVariants as key
use Rattle.ov_types.specs.declared.objects.LowValue.{LowValue}
use Rattle.ov_types.specs.declared.objects.LowValue.TheVariants as low
use Rattle.ov_types.specs.declared.packet.Packet.{Packet}
use Rattle.ov_types.specs.declared.prefix.Addr.{Addr}
use Rattle.ov_types.proofs.FirstLemmas.{contains_at}
use Rattle.route_targets.specs.Numbers.{circuit_instance_of, circuit_label_of, hop_instance_of, left_circuit_of, port_label_of, right_circuit_of}
use Rattle.config_types.specs.declared.config.Network.{Network}
use Rattle.config_types.specs.declared.topology.Node.{Node}
use Rattle.schedule_script.specs.ConfigCheck.Checked.{Checked}
use Rattle.reach_plain.specs.ChainExpand.Expansion.{expansion}
use Rattle.transform_model.specs.AclCompile.Oriented.{ascending}
use Rattle.node_laws.specs.NodeModel.Agent.{needed_by}
use Rattle.node_laws.specs.NodeModel.Maps.{Map, object, objects}
use Rattle.node_laws.specs.NodeModel.Members.{Member}
use Rattle.node_laws.specs.NodeModel.Reaching.{Side, hop_at, sides}
use Rattle.node_laws.specs.NodeModel.Uses.{Use, as_use, use_of, uses}
use Rattle.node_laws.specs.NodeModel.Wants.{slice}
use Rattle.node_laws.proofs.NodeModel.Members.{from_map, in_filter_map, member_of}
use Rattle.node_laws.proofs.NodeModel.Objects.{in_objects, in_sides, use_of-hop}
use Rattle.machine_model.specs.Setup.{low_in, opening}
use Rattle.machine_laws.specs.Headline.{IsWritten}
use Rattle.machine_laws.proofs.Circuits.{other_of_left, other_of_right}
use Rattle.machine_laws.proofs.Lists.{some_at}
use Rattle.machine_laws.proofs.Objects.{ascending_in}
use Rattle.hitless_cells.specs.Ways.{IsStop, Offers, Track, visited}
use Rattle.hitless_cells.specs.Ways.Way.{through}
use Rattle.machine_moment_laws.specs.Arriving.{IsCommonWay}
use Rattle.machine_moment_laws.specs.Common.{common, placed, standing, stands_at}
use Rattle.machine_moment_laws.proofs.Parts.{object_is}
use Rattle.machine_moment_laws.proofs.Placed.{in_placed}
use Rattle.machine_moment_laws.proofs.Sides.{ordered}
use Rattle.machine_moment_laws.proofs.Going.{StopAt, backwards_down, circuit_needed, forwards_down, goes_down}
use Rattle.machine_moment_laws.proofs.Made.{CircuitInAll, UseInAll, circuit_there, in_standing, left_there, lefts_in_all, right_there, rights_in_all, stands_where, use_common, use_value}
use Rattle.machine_moment_laws.proofs.Tracked.{Stop, hop_of_stop, left_in, right_in, stop_of, use_in}

chosen : (m : Bool) (x y : Network) (i j : InstanceId) → x.id ≡ i → y.id ≡ j → (cond m x y).id ≡ cond m i j
chosen true x y i j e f = e
chosen false x y i j e f = f

as_long : (stops : List Stop) → length (map hop_of_stop stops) ≡ length stops
as_long [] = refl
as_long (s ∷ stops) = ap suc (as_long stops)

mapped_reverse : (stops : List Stop) → map (λ (s : Stop). s.0) (reverse stops) ≡ reverse (map (λ (s : Stop). s.0) stops)
mapped_reverse [] = refl
mapped_reverse (s ∷ stops) =
    let number : Stop → ServiceNo = λ s. s.0 in
    ap (map number) (reverse-append (s ∷ []) stops) ∙ map_push number (reverse stops) s ∙ ap (λ ys. ys ++ s.0 ∷ []) (mapped_reverse stops)
    ∙ sym (reverse-append (s.0 ∷ []) (map number stops))

left_instance : (u j : ℕ) → circuit_instance_of (left_circuit_of u (j + 1)) ≡ hop_instance_of u j
left_instance u j = λ k. record { 0 = half u j k }
  where
    half : (u j : ℕ) → (2 * (16384 + 16 * u + (j + 1 - 1)) + 1) / 2 ≡ 16384 + 16 * u + j
    half u j = omega arith

right_instance : (u j : ℕ) → circuit_instance_of (right_circuit_of u (j + 1)) ≡ hop_instance_of u (j + 1)
right_instance u j = λ k. record { 0 = half u j k }
  where
    half : (u j : ℕ) → (2 * (16384 + 16 * u + (j + 1))) / 2 ≡ 16384 + 16 * u + (j + 1)
    half u j = omega arith

module _ (b : Checked) (ds : List Checked) (written : (c : Checked) → Member c (b ∷ ds) → IsWritten (opening c)) (p : Packet) (number : PortNo) (use_no : ℕ) (mirrored : Bool) (track : Track)
    (offered : (c : Checked) → Member c (b ∷ ds) → Offers c p number (through use_no mirrored) track) where
  abbrev cs : List Checked
  cs = b ∷ ds

  abbrev M : Map
  M = common cs

  abbrev hops : List (ServiceNo × Addr)
  hops = map hop_of_stop track.stops

  abbrev left_number : InstanceId
  left_number = cond mirrored track.to track.from

  abbrev right_number : InstanceId
  right_number = cond mirrored track.from track.to

  use_each : (c : Checked) (m : Member c cs) → object (low_in c) (key.ChainUse use_no)
      ≡ Some (low.ChainUse left_number right_number (ascending (cond mirrored (offered c m).target (offered c m).own).subnets) (ascending (cond mirrored (offered c m).own (offered c m).target).subnets) hops)
  use_each c m =
      let o = offered c m in
      use_in c (written c m) p o.own o.target o.leaves.own_stands o.target_stands use_no mirrored track o.opens
      ∙ (λ k. Some (low.ChainUse (chosen mirrored o.target o.own track.to track.from o.target_is o.own_is k) (chosen mirrored o.own o.target track.from track.to o.own_is o.target_is k) (ascending (cond mirrored o.target o.own).subnets) (ascending (cond mirrored o.own o.target).subnets) hops))

  stop_stands : (stop : Stop) → Member stop track.stops → Member stop.1 (standing cs)
  stop_stands stop i =
      in_standing b ds written stop.1 (λ c m.
      let o = (offered c m).opens.1 in
      member_of c.topology.nodes stop.1 (stop_of (IsStop c.topology) (expansion c.config o.chain) track.stops stop o.stops i).1.node.stands)

  among : (j : ℕ) (stop : Stop) → slice_get track.stops j ≡ Some stop → Member stop track.stops
  among j stop at = member_of track.stops stop (contains_at track.stops j stop at)

  left_circuit : (j : ℕ) (stop : Stop) → slice_get track.stops j ≡ Some stop → CircuitInAll b ds written (left_circuit_of use_no (j + 1))
  left_circuit j stop at = record {
    service = stop.0;
    node = stop.1;
    stays = stop_stands stop (among j stop at);
    each = λ c m. let o = offered c m in left_in c (written c m) p o.own o.target o.leaves.own_stands o.target_stands use_no mirrored track o.opens j stop at;
  }

  right_circuit : (j : ℕ) (stop : Stop) → slice_get track.stops j ≡ Some stop → CircuitInAll b ds written (right_circuit_of use_no (j + 1))
  right_circuit j stop at = record {
    service = stop.0;
    node = stop.1;
    stays = stop_stands stop (among j stop at);
    each = λ c m. let o = offered c m in right_in c (written c m) p o.own o.target o.leaves.own_stands o.target_stands use_no mirrored track o.opens j stop at;
  }

  in_all : UseInAll b ds written use_no left_number right_number hops
  in_all = record {
    lefts = λ c m. ascending (cond mirrored (offered c m).target (offered c m).own).subnets;
    rights = λ c m. ascending (cond mirrored (offered c m).own (offered c m).target).subnets;
    each = use_each;
    stand = λ h i.
        let q = from_map hop_of_stop h track.stops i in
        ap (λ (h : ServiceNo × Addr). stands_at (standing cs) h.1) (sym q.2) ∙ stands_where b ds written q.0.1 (stop_stands q.0 q.1);
    circuits = λ j within.
        let q = some_at track.stops j (subst (λ (k : ℕ). j < k) (as_long track.stops) within) in
        (left_circuit j q.0 q.1, right_circuit j q.0 q.1);
  }

  abbrev held : Use
  held = record {
    number = use_no;
    left = left_number;
    right = right_number;
    left_subnets = lefts_in_all b ds written use_no left_number right_number hops in_all;
    right_subnets = rights_in_all b ds written use_no left_number right_number hops in_all;
    services = length hops;
  }

  in_uses : Member held (uses M)
  in_uses =
      let v : LowValue = use_value b ds written use_no left_number right_number hops in_all in
      in_filter_map (λ (e : LowKey × LowValue). as_use e.0 e.1) (key.ChainUse use_no, v) held (objects M)
      (in_objects M (key.ChainUse use_no) v (object_is M (key.ChainUse use_no) v (use_common b ds written use_no left_number right_number hops in_all))) refl

  pub few : length hops ≤ 15
  few = (ordered b ds written).short held in_uses

  few_places : (j : ℕ) → j < length track.stops → j + 1 ≤ 15
  few_places j h = by j (length track.stops) (length hops) h (as_long track.stops) few
    where
      by : (j k n : ℕ) → j < k → n ≡ k → n ≤ 15 → j + 1 ≤ 15
      by j k n h e f = omega (arith, h, e, f)

  less : (j : ℕ) → j + 1 ≤ 15 → j ≤ 15
  less j h = omega (arith, h)

  left_there_at : (j : ℕ) (stop : Stop) → j < length track.stops → slice_get track.stops j ≡ Some stop
      → object M (key.Attach (circuit_label_of (left_circuit_of use_no (j + 1))).0) ≡ Some (low.AttachCircuit (left_circuit_of use_no (j + 1)) stop.0 stop.1.address)
  unfolding left_circuit
  left_there_at j stop within at =
      circuit_there b ds written use_no left_number right_number hops in_all (left_circuit_of use_no (j + 1))
      (ap use_of (left_instance use_no j) ∙ use_of-hop use_no j (less j (few_places j within))) (left_circuit j stop at)

  right_there_at : (j : ℕ) (stop : Stop) → j < length track.stops → slice_get track.stops j ≡ Some stop
      → object M (key.Attach (circuit_label_of (right_circuit_of use_no (j + 1))).0) ≡ Some (low.AttachCircuit (right_circuit_of use_no (j + 1)) stop.0 stop.1.address)
  unfolding right_circuit
  right_there_at j stop within at =
      circuit_there b ds written use_no left_number right_number hops in_all (right_circuit_of use_no (j + 1))
      (ap use_of (right_instance use_no j) ∙ use_of-hop use_no (j + 1) (few_places j within)) (right_circuit j stop at)

  -- ---- the subnet that holds the destination
  first_in : Member b cs
  first_in = inl refl

  abbrev subnet : Block
  subnet = (offered b first_in).opens.1.subnet

  one_subnet : (c : Checked) (m : Member c cs) → (offered c m).opens.1.subnet ≡ subnet
  one_subnet c m = same_Some (offered c m).opens.1.subnet subnet (sym (offered c m).opens.1.subnet_is ∙ (offered b first_in).opens.1.subnet_is)

  subnet_in : (c : Checked) (m : Member c cs) → Member subnet (ascending (offered c m).target.subnets)
  subnet_in c m = subst (λ (s : Block). Member s (ascending (offered c m).target.subnets)) (one_subnet c m) (ascending_in (offered c m).target.subnets (offered c m).opens.1.subnet (offered c m).opens.1.subnet_stands)

  subnet_holds : contains subnet p.destination.0 ≡ true
  subnet_holds = (offered b first_in).opens.1.holds

-- ---- the way from the left network to the right one, and mirrored
module _ (b : Checked) (ds : List Checked) (written : (c : Checked) → Member c (b ∷ ds) → IsWritten (opening c)) (p : Packet) (number : PortNo) (use_no : ℕ) (arrival : Node) (stays : Member arrival (standing (b ∷ ds))) where
  abbrev cs' : List Checked
  cs' = b ∷ ds

  abbrev M' : Map
  M' = common cs'

  abbrev W' : Map
  W' = placed cs'

  abbrev Arriving : Track → Type 0
  Arriving track = object M' (key.Attach (port_label_of number).0) ≡ Some (low.AttachPort number track.to p.destination arrival.address)

  abbrev Offered : Bool → Track → Type 0
  Offered mirrored track = (c : Checked) → Member c cs' → Offers c p number (through use_no mirrored) track

  module _ (track : Track) (offered : Offered false track) (there : Arriving track) where
    abbrev right_side : Side
    right_side = record { chain = held b ds written p number use_no false track offered; is_right = true }

    of_right : Member right_side (sides M')
    of_right = in_sides M' (held b ds written p number use_no false track offered) true (in_uses b ds written p number use_no false track offered)

    in_right_side : Member (subnet b ds written p number use_no false track offered) right_side.chain.right_subnets
    unfolding in_all
    in_right_side =
        right_there b ds written use_no track.from track.to (hops b ds written p number use_no false track offered) (in_all b ds written p number use_no false track offered)
        (subnet b ds written p number use_no false track offered) (subnet_in b ds written p number use_no false track offered)

    abbrev RightStop : ℕ → Stop → Type 0
    RightStop = StopAt b ds written number track.to p.destination arrival stays there right_side of_right (subnet b ds written p number use_no false track offered) in_right_side (subnet_holds b ds written p number use_no false track offered) refl

    right_stop : (j d : ℕ) (stop : Stop) → j + suc d ≡ length track.stops → slice_get track.stops j ≡ Some stop → RightStop d stop
    right_stop j d stop total at =
        let k : ℕ = right_side.chain.services in
        let long : k ≡ length track.stops = as_long track.stops in
        let place : k - suc d ≡ j = place_is j d k (length track.stops) long total in
        let within : j < length track.stops = before j d (length track.stops) total in
        let AtLeft : ℕ → Type 0 = λ n. object M' (key.Attach (circuit_label_of (left_circuit_of use_no (n + 1))).0) ≡ Some (low.AttachCircuit (left_circuit_of use_no (n + 1)) stop.0 stop.1.address) in
        record {
          within = deep j d k (length track.stops) long total;
          stands = stop_stands b ds written p number use_no false track offered stop (among b ds written p number use_no false track offered j stop at);
          circuit = subst AtLeft (sym place) (left_there_at b ds written p number use_no false track offered j stop within at);
          behind = other_of_left (16384 + 16 * use_no + (k - suc d + 1 - 1)) (left_circuit_of use_no (k - suc d + 1)) refl ∙ next use_no k d (deep j d k (length track.stops) long total);
          needs = subst (λ (i : InstanceId). Member i (needed_by (slice W' stop.1.address))) (right_instance use_no j ∙ later use_no j d k (length track.stops) long total)
              (circuit_needed W' (right_circuit_of use_no (j + 1)) stop.0 stop.1.address (in_placed b ds (key.Attach (circuit_label_of (right_circuit_of use_no (j + 1))).0) (low.AttachCircuit (right_circuit_of use_no (j + 1)) stop.0 stop.1.address) (right_there_at b ds written p number use_no false track offered j stop within at)));
        }
      where
        place_is : (j d k n : ℕ) → k ≡ n → j + suc d ≡ n → k - suc d ≡ j
        place_is j d k n e f = omega (arith, e, f)

        before : (j d n : ℕ) → j + suc d ≡ n → j < n
        before j d n f = omega (arith, f)

        deep : (j d k n : ℕ) → k ≡ n → j + suc d ≡ n → d < k
        deep j d k n e f = omega (arith, e, f)

        next_number : (u k d : ℕ) → d < k → 16384 + 16 * u + (k - suc d + 1 - 1) + 1 ≡ 16384 + 16 * u + (k - d)
        next_number u k d h = omega (arith, h)

        next : (u k d : ℕ) → d < k → ◌≡◌ {A = InstanceId} (record { 0 = 16384 + 16 * u + (k - suc d + 1 - 1) + 1 }) (hop_instance_of u (k - d))
        next u k d h = λ i. record { 0 = next_number u k d h i }

        later_place : (j d k n : ℕ) → k ≡ n → j + suc d ≡ n → j + 1 ≡ k - d
        later_place j d k n e f = omega (arith, e, f)

        later : (u j d k n : ℕ) → k ≡ n → j + suc d ≡ n → hop_instance_of u (j + 1) ≡ hop_instance_of u (k - d)
        later u j d k n e f = ap (hop_instance_of u) (later_place j d k n e f)

    pub goes_forwards : (n : Node) → Member n (standing cs') → Member (hop_instance_of use_no 0) (needed_by (slice W' n.address)) → IsCommonWay cs' n (hop_instance_of use_no 0) p.destination.0 (visited (through use_no false) track) number
    goes_forwards n n_stays needed =
        let first : hop_at right_side (length track.stops) ≡ hop_instance_of use_no 0 = ap (hop_instance_of use_no) (none (length (hops b ds written p number use_no false track offered)) (length track.stops) (as_long track.stops)) in
        subst (λ (i : InstanceId). IsCommonWay cs' n i p.destination.0 (visited (through use_no false) track) number) first
        (goes_down b ds written number track.to p.destination arrival stays there right_side of_right (subnet b ds written p number use_no false track offered) in_right_side (subnet_holds b ds written p number use_no false track offered) refl
        (length track.stops) track.stops (forwards_down RightStop track.stops right_stop [] track.stops refl) n n_stays
        (subst (λ (i : InstanceId). Member i (needed_by (slice W' n.address))) (sym first) needed))
      where
        none : (k n : ℕ) → k ≡ n → k - n ≡ 0
        none k n e = omega (arith, e)

  module _ (track : Track) (offered : Offered true track) (there : Arriving track) where
    abbrev left_side : Side
    left_side = record { chain = held b ds written p number use_no true track offered; is_right = false }

    of_left : Member left_side (sides M')
    of_left = in_sides M' (held b ds written p number use_no true track offered) false (in_uses b ds written p number use_no true track offered)

    in_left_side : Member (subnet b ds written p number use_no true track offered) left_side.chain.left_subnets
    unfolding in_all
    in_left_side =
        left_there b ds written use_no track.to track.from (hops b ds written p number use_no true track offered) (in_all b ds written p number use_no true track offered)
        (subnet b ds written p number use_no true track offered) (subnet_in b ds written p number use_no true track offered)

    abbrev LeftStop : ℕ → Stop → Type 0
    LeftStop = StopAt b ds written number track.to p.destination arrival stays there left_side of_left (subnet b ds written p number use_no true track offered) in_left_side (subnet_holds b ds written p number use_no true track offered) refl

    left_stop : (d : ℕ) (stop : Stop) → d < length track.stops → slice_get track.stops d ≡ Some stop → LeftStop d stop
    left_stop d stop within at =
        let AtRight : ℕ → Type 0 = λ n. object M' (key.Attach (circuit_label_of (right_circuit_of use_no n)).0) ≡ Some (low.AttachCircuit (right_circuit_of use_no n) stop.0 stop.1.address) in
        record {
          within = subst (λ (k : ℕ). d < k) (sym (as_long track.stops)) within;
          stands = stop_stands b ds written p number use_no true track offered stop (among b ds written p number use_no true track offered d stop at);
          circuit = subst AtRight (plus d) (right_there_at b ds written p number use_no true track offered d stop within at);
          behind = other_of_right (16384 + 16 * use_no + d) (right_circuit_of use_no (suc d)) (double use_no d);
          needs = subst (λ (i : InstanceId). Member i (needed_by (slice W' stop.1.address))) (left_instance use_no d)
              (circuit_needed W' (left_circuit_of use_no (d + 1)) stop.0 stop.1.address (in_placed b ds (key.Attach (circuit_label_of (left_circuit_of use_no (d + 1))).0) (low.AttachCircuit (left_circuit_of use_no (d + 1)) stop.0 stop.1.address) (left_there_at b ds written p number use_no true track offered d stop within at)));
        }
      where
        plus : (d : ℕ) → d + 1 ≡ suc d
        plus d = omega arith

        double : (u d : ℕ) → 2 * (16384 + 16 * u + suc d) ≡ 2 * (16384 + 16 * u + d + 1)
        double u d = omega arith

    pub goes_mirrored : (n : Node) → Member n (standing cs') → Member (hop_instance_of use_no (length track.stops)) (needed_by (slice W' n.address)) → IsCommonWay cs' n (hop_instance_of use_no (length track.stops)) p.destination.0 (visited (through use_no true) track) number
    goes_mirrored n n_stays needed =
        let back : List Stop = reverse track.stops in
        let long : length back ≡ length track.stops = length-reverse track.stops in
        let last : hop_at left_side (length back) ≡ hop_instance_of use_no (length track.stops) = ap (hop_instance_of use_no) long in
        let whole : track.stops ≡ reverse back ++ [] = sym (append-nil (reverse back) ∙ reverse-reverse track.stops) in
        subst (λ (ss : List ServiceNo). IsCommonWay cs' n (hop_instance_of use_no (length track.stops)) p.destination.0 ss number) (mapped_reverse track.stops)
        (subst (λ (i : InstanceId). IsCommonWay cs' n i p.destination.0 (map (λ (s : Stop). s.0) back) number) last
        (goes_down b ds written number track.to p.destination arrival stays there left_side of_left (subnet b ds written p number use_no true track offered) in_left_side (subnet_holds b ds written p number use_no true track offered) refl
        (length back) back (backwards_down LeftStop track.stops left_stop back [] whole) n n_stays
        (subst (λ (i : InstanceId). Member i (needed_by (slice W' n.address))) (sym last) needed)))
