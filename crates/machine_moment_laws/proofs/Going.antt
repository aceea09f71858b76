-- The ways along which the common part leads to a port: at once, or through the services of a use.
use Rattle.std.specs.Prelude.{◌≡◌, ◌+◌, ◌<◌, ◌++◌, ℕ, zero, suc, List, [], ◌∷◌, length, map, reverse, true, ⊤}
use Rattle.std.specs.List.{slice_get}
use Rattle.std.specs.declared.option.Option.TheVariants.{Some}
use Rattle.std.proofs.Common.{ap, append_assoc, arith, inl, inr, length-append, refl, subst, sym, ◌∙◌}
use Rattle.std.proofs.lemmas.Bool.{true≢false}
use Rattle.std.proofs.lemmas.List.{length-reverse, reverse-append}
use Rattle.ov_types.specs.Prefix.{Block, contains, host_prefix}
use Rattle.ov_types.specs.declared.numbers.InstanceId.{InstanceId}
use Rattle.ov_types.specs.declared.numbers.Label.{Label as LabelNo}
use Rattle.ov_types.specs.declared.numbers.PortNo.{PortNo}
use Rattle.ov_types.specs.declared.objects.LowKey.{LowKey}
use Rattle.ov_types.specs.declared.objects.LowKey.TheVariants as key
use Rattle.ov_types.specs.declared.objects.LowValue.{LowValue}
use Rattle.ov_types.specs.declared.objects.LowValue.TheVariants as low
use Rattle.ov_types.specs.declared.prefix.Addr.{Addr}
use Rattle.ov_types.specs.declared.rows.Attached.TheVariants.{Circuit, Port}
use Rattle.route_targets.specs.Numbers.{circuit_instance_of, circuit_label_of, other_side_of, port_label_of}
use Rattle.config_types.specs.declared.topology.Node.{Node}
use Rattle.schedule_script.specs.ConfigCheck.Checked.{Checked}
use Rattle.transform_model.proofs.Blocks.{host_holds}
use Rattle.node_laws.specs.NodeModel.Agent as agent
use Rattle.node_laws.specs.NodeModel.Agent.{needed_by, needed_for}
use Rattle.node_laws.specs.NodeModel.Maps.{Map, object, objects}
use Rattle.node_laws.specs.NodeModel.Members.{Member}
use Rattle.node_laws.specs.NodeModel.Reaching.{Side, circuit_at, hop_at, network, sides, subnets}
use Rattle.node_laws.specs.NodeModel.Uses.{imports}
use Rattle.node_laws.specs.NodeModel.Wants.{slice}
use Rattle.node_laws.proofs.NodeModel.Members.{in_filter_map, in_flat_map}
use Rattle.node_laws.proofs.NodeModel.Objects.{in_objects, is_hop-hop}
use Rattle.node_laws.proofs.NodeModel.Unknown.{place_at}
use Rattle.node_laws.proofs.NodeModel.Wanted.{slice_is}
use Rattle.machine_model.specs.Setup.{opening}
use Rattle.machine_laws.specs.Compiled.{Attachment, agent_rows, as_attachment, attachments, circuit_prefix, holds, row_of}
use Rattle.machine_laws.specs.Headline.{IsWritten}
use Rattle.machine_laws.proofs.Numbers.{circuit_at-instance, imports_end}
use Rattle.machine_laws.proofs.RowsIn.{host_inside}
use Rattle.machine_laws.proofs.Up.{held_in}
use Rattle.machine_moment_laws.specs.Arriving.{IsCommonWay, LeadsInCommon}
use Rattle.machine_moment_laws.specs.Common.{ChangesHands, common, placed, standing}
use Rattle.machine_moment_laws.proofs.Parts.{object_is}
use Rattle.machine_moment_laws.proofs.Placed.{in_placed}
use Rattle.machine_moment_laws.proofs.Routes.{hop_of, route_at}
use Rattle.machine_moment_laws.proofs.Sides.{ordered}
use Rattle.machine_moment_laws.proofs.Routed.{routed}
use Rattle.machine_moment_laws.proofs.Tracked.{Stop}

-- ---- what a map has attached at an address
module _ (m : Map) where
  in_map_objects : (k : LowKey) (v : LowValue) → object m k ≡ Some v → Member (k, v) (objects m)
  in_map_objects k v e = in_objects m k v (object_is m k v e)

  abbrev port_value : PortNo → InstanceId → Addr → Addr → LowValue
  port_value q i x node = low.AttachPort q i x node

  pub port_in_slice : (l : LabelNo) (q : PortNo) (i : InstanceId) (x node : Addr) → object m (key.Attach l.0) ≡ Some (low.AttachPort q i x node) → Member (key.Attach l.0, port_value q i x node) (slice m node)
  port_in_slice l q i x node e = (slice_is m node (key.Attach l.0) (port_value q i x node)).1 (in_map_objects (key.Attach l.0) (port_value q i x node) e, refl)

  pub port_labelled : (l : LabelNo) (q : PortNo) (i : InstanceId) (x node : Addr) → object m (key.Attach l.0) ≡ Some (low.AttachPort q i x node) → Member (l, Port q i) (agent_rows m node).labels
  port_labelled l q i x node e =
      in_filter_map (λ (e : LowKey × LowValue). agent.attached e.0 e.1) (key.Attach l.0, port_value q i x node) (l, Port q i) (slice m node) (port_in_slice l q i x node e) refl

  pub needed_in : (node : Addr) (k : LowKey) (v : LowValue) (i : InstanceId) → Member (k, v) (slice m node) → Member i (needed_for v) → Member i (needed_by (slice m node))
  needed_in node k v i there h = in_flat_map (λ (e : LowKey × LowValue). needed_for e.1) (k, v) i (slice m node) there h

  pub port_needed : (l : LabelNo) (q : PortNo) (i : InstanceId) (x node : Addr) → object m (key.Attach l.0) ≡ Some (low.AttachPort q i x node) → Member i (needed_by (slice m node))
  port_needed l q i x node e = needed_in node (key.Attach l.0) (port_value q i x node) i (port_in_slice l q i x node e) (inl refl)

  -- a circuit that stands under its label
  module _ (k : ℕ) (s : _) (node : Addr) (e : object m (key.Attach (circuit_label_of k).0) ≡ Some (low.AttachCircuit k s node)) where
    abbrev circuit_key : LowKey
    circuit_key = key.Attach (circuit_label_of k).0

    abbrev circuit_value : LowValue
    circuit_value = low.AttachCircuit k s node

    circuit_in_slice : Member (circuit_key, circuit_value) (slice m node)
    circuit_in_slice = (slice_is m node circuit_key circuit_value).1 (in_map_objects circuit_key circuit_value e, refl)

    pub circuit_labelled : Member (circuit_label_of k, Circuit k s) (agent_rows m node).labels
    circuit_labelled = in_filter_map (λ (e : LowKey × LowValue). agent.attached e.0 e.1) (circuit_key, circuit_value) (circuit_label_of k, Circuit k s) (slice m node) circuit_in_slice refl

    pub circuit_needed : Member (circuit_instance_of k) (needed_by (slice m node))
    circuit_needed = needed_in node circuit_key circuit_value (circuit_instance_of k) circuit_in_slice (inl refl)

    abbrev pub circuit_attachment : Attachment
    circuit_attachment = record { label = circuit_label_of k; instance = circuit_instance_of k; prefix = circuit_prefix k; node = node }

    pub circuit_attached : Member circuit_attachment (attachments m)
    circuit_attached = in_filter_map (λ (e : LowKey × LowValue). as_attachment e.0 e.1) (circuit_key, circuit_value) circuit_attachment (objects m) (in_map_objects circuit_key circuit_value e) refl

-- ---- stops whose places count down
module _ (P : ℕ → Stop → Type 0) where
  abbrev pub CountsDown : ℕ → List Stop → Type 0
  CountsDown zero [] = ⊤
  CountsDown zero (stop ∷ rest) = ⊥
  CountsDown (suc d) [] = ⊥
  CountsDown (suc d) (stop ∷ rest) = P d stop × CountsDown d rest

-- ---- to a port that the common part has at a node that stands
module _ (b : Checked) (ds : List Checked) (written : (c : Checked) → Member c (b ∷ ds) → IsWritten (opening c)) (number : PortNo) (to : InstanceId) (address : Addr) (arrival : Node)
    (stays : Member arrival (standing (b ∷ ds))) (there : object (common (b ∷ ds)) (key.Attach (port_label_of number).0) ≡ Some (low.AttachPort number to address arrival.address)) where
  abbrev cs : List Checked
  cs = b ∷ ds

  abbrev M : Map
  M = common cs

  abbrev W : Map
  W = placed cs

  abbrev host : Attachment
  host = record { label = port_label_of number; instance = to; prefix = host_prefix address.0; node = arrival.address }

  host_attached : Member host (attachments M)
  host_attached =
      in_filter_map (λ (e : LowKey × LowValue). as_attachment e.0 e.1) (key.Attach (port_label_of number).0, low.AttachPort number to address arrival.address) host (objects M)
      (in_map_objects M (key.Attach (port_label_of number).0) (low.AttachPort number to address arrival.address) there) refl

  pub arrives : (n : Node) → Member n (standing cs) → (i : InstanceId) → Member i (needed_by (slice W n.address)) → Member to (imports M i) → (ChangesHands cs i (host_prefix address.0) → ⊥) → IsCommonWay cs n i address.0 [] number
  arrives n n_stays i needed imported in_hand = (
    arrival,
    to,
    record {
      stays = n_stays;
      route = route_at i (host_prefix address.0) (hop_of (row_of host));
      is_route = routed b ds written n.address i (host_prefix address.0) (row_of host) needed (inl (record { to = host; attached = host_attached; imported = imported; prefix = refl; row = refl }));
      instance = refl;
      holds = host_holds address.0 address.0 refl;
      in_hand = in_hand;
      next_stays = stays;
      hop = refl;
      label = port_labelled W (port_label_of number) number to address arrival.address (in_placed b ds (key.Attach (port_label_of number).0) (low.AttachPort number to address arrival.address) there);
    },
  )

  -- ---- along a side of a use, whose network the port is in
  module _ (s : Side) (of_use : Member s (sides M)) (subnet : Block) (in_side : Member subnet (subnets s)) (contained : contains subnet address.0 ≡ true) (network_is : network s ≡ to) where
    held : holds M (network s) subnet ≡ true
    held = held_in M (network s) subnet host host_attached (sym network_is) (host_inside address.0 subnet contained)

    hop_keeps : (d : ℕ) (p : Block) → ChangesHands cs (hop_at s d) p → ⊥
    hop_keeps d p h = true≢false (sym (is_hop-hop s.chain.number (place_at s d)) ∙ h.network)

    -- the service that is passed on the way from one place to the next nearer to the side's end
    pub record StopAt (d : ℕ) (stop : Stop) : Type 0 where
      pub within : d < s.chain.services
      pub stands : Member stop.1 (standing cs)
      pub circuit : object M (key.Attach (circuit_label_of (circuit_at s (suc d))).0) ≡ Some (low.AttachCircuit (circuit_at s (suc d)) stop.0 stop.1.address)
      pub behind : circuit_instance_of (other_side_of (circuit_at s (suc d))) ≡ hop_at s d
      pub needs : Member (hop_at s d) (needed_by (slice W stop.1.address))

    -- those that are passed on the way from a place to the side's end
    abbrev pub Downs : ℕ → List Stop → Type 0
    Downs = CountsDown StopAt

    step : (d : ℕ) (stop : Stop) → StopAt d stop → (n : Node) → Member n (standing cs) → Member (hop_at s (suc d)) (needed_by (slice W n.address)) → LeadsInCommon cs n (hop_at s (suc d)) address.0 stop.1 (Circuit (circuit_at s (suc d)) stop.0)
    step d stop h n n_stays needed =
        let k : ℕ = circuit_at s (suc d) in
        let a : Attachment = circuit_attachment M k stop.0 stop.1.address h.circuit in
        record {
          stays = n_stays;
          route = route_at (hop_at s (suc d)) subnet (hop_of (row_of a));
          is_route = routed b ds written n.address (hop_at s (suc d)) subnet (row_of a) needed (inr (record {
            side = s;
            of_use = of_use;
            d = d;
            within = h.within;
            at = refl;
            subnet = in_side;
            held = held;
            to = a;
            attached = circuit_attached M k stop.0 stop.1.address h.circuit;
            circuit = (circuit_at-instance s (suc d), refl);
            row = refl;
          }));
          instance = refl;
          holds = contained;
          in_hand = hop_keeps (suc d) subnet;
          next_stays = h.stands;
          hop = refl;
          label = circuit_labelled W k stop.0 stop.1.address (in_placed b ds (key.Attach (circuit_label_of k).0) (low.AttachCircuit k stop.0 stop.1.address) h.circuit);
        }

    pub goes_down : (d : ℕ) (rest : List Stop) → Downs d rest → (n : Node) → Member n (standing cs) → Member (hop_at s d) (needed_by (slice W n.address)) → IsCommonWay cs n (hop_at s d) address.0 (map (λ (k : Stop). k.0) rest) number
    goes_down zero [] h n n_stays needed =
        arrives n n_stays (hop_at s 0) needed (subst (λ (i : InstanceId). Member i (imports M (hop_at s 0))) network_is (imports_end M s (ordered b ds written) of_use)) (hop_keeps 0 (host_prefix address.0))
    goes_down zero (stop ∷ rest) h n n_stays needed = absurd h
    goes_down (suc d) [] h n n_stays needed = absurd h
    goes_down (suc d) (stop ∷ rest) h n n_stays needed = (
      stop.1,
      circuit_at s (suc d),
      step d stop h.0 n n_stays needed,
      subst (λ (i : InstanceId). IsCommonWay cs stop.1 i address.0 (map (λ (k : Stop). k.0) rest) number) (sym h.0.behind)
          (goes_down d rest h.1 stop.1 h.0.stands h.0.needs),
    )

-- ---- the services of a use, from either end
get_middle : {A : Type 0} (front : List A) (x : A) (rest : List A) → slice_get (front ++ x ∷ rest) (length front) ≡ Some x
get_middle [] x rest = refl
get_middle (y ∷ front) x rest = get_middle front x rest

module _ (P : ℕ → Stop → Type 0) where
  module _ (stops : List Stop) where
    -- forwards
    pub forwards_down : ((j d : ℕ) (stop : Stop) → j + suc d ≡ length stops → slice_get stops j ≡ Some stop → P d stop) → (front rest : List Stop) → stops ≡ front ++ rest → CountsDown P (length rest) rest
    forwards_down each front [] e = tt
    forwards_down each front (stop ∷ rest) e = (
      each (length front) (length rest) stop (sym (ap length e ∙ length-append front (stop ∷ rest))) (ap (λ (xs : List Stop). slice_get xs (length front)) e ∙ get_middle front stop rest),
      forwards_down each (front ++ stop ∷ []) rest (e ∙ sym (append_assoc front (stop ∷ []) rest)),
    )

    -- and mirrored
    pub backwards_down : ((d : ℕ) (stop : Stop) → d < length stops → slice_get stops d ≡ Some stop → P d stop) → (back rest : List Stop) → stops ≡ reverse back ++ rest → CountsDown P (length back) back
    backwards_down each [] rest e = tt
    backwards_down each (stop ∷ back) rest e =
        let whole : stops ≡ reverse back ++ stop ∷ rest = e ∙ ap (λ (xs : List Stop). xs ++ rest) (reverse-append (stop ∷ []) back) ∙ append_assoc (reverse back) (stop ∷ []) rest in
        let Q : ℕ → Type 0 = λ n. slice_get (reverse back ++ stop ∷ rest) n ≡ Some stop in
        let there : slice_get stops (length back) ≡ Some stop = ap (λ (xs : List Stop). slice_get xs (length back)) whole ∙ subst Q (length-reverse back) (get_middle (reverse back) stop rest) in
        let total : length stops ≡ length (reverse back) + length (stop ∷ rest) = ap length whole ∙ length-append (reverse back) (stop ∷ rest) in
        (each (length back) stop (shorter (length back) (length rest) (length stops) (total ∙ ap (λ (n : ℕ). n + length (stop ∷ rest)) (length-reverse back))) there, backwards_down each back (stop ∷ rest) whole)
      where
        shorter : (j k n : ℕ) → n ≡ j + suc k → j < n
        shorter j k n e = omega (arith, e)
