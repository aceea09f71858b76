-- What a way that a configuration offers with a track stands on, as low-level objects.
use Rattle.std.specs.Prelude.{◌≡◌, ◌≢◌, ◌+◌, ◌&&◌, ◌⊎◌, ℕ, zero, suc, Bool, List, [], ◌∷◌, length, map, true, false, cond}
use Rattle.std.specs.List.{AllZip, Contains, slice_get}
use Rattle.std.specs.declared.option.Option.TheVariants.{Some}
use Rattle.std.proofs.Common.{ap, inl, inr, refl, subst, sym, ◌∙◌}
use Rattle.std.proofs.lemmas.Bool.{and_from, false_from_ne_true}
use Rattle.std.proofs.lemmas.List.Elements.{All-contains}
use Rattle.ov_types.specs.First.{same_name}
use Rattle.ov_types.specs.declared.numbers.InstanceId.{InstanceId}
use Rattle.ov_types.specs.declared.numbers.PortNo.{PortNo}
use Rattle.ov_types.specs.declared.numbers.ServiceNo.{ServiceNo}
use Rattle.ov_types.specs.declared.objects.AclRule.{AclRule}
use Rattle.ov_types.specs.declared.objects.LowKey.TheVariants as key
use Rattle.ov_types.specs.declared.objects.LowValue.TheVariants as low
use Rattle.ov_types.specs.declared.packet.Packet.{Packet}
use Rattle.ov_types.specs.declared.prefix.Addr.{Addr}
use Rattle.ov_types.proofs.FirstLemmas.{contains_at, same_name_iff}
use Rattle.route_targets.specs.Numbers.{circuit_label_of, hop_instance_of, left_circuit_of, port_label_of, right_circuit_of}
use Rattle.config_types.specs.declared.config.Action.{Action}
use Rattle.config_types.specs.declared.config.Action.TheVariants.{Through}
use Rattle.config_types.specs.declared.config.Direction.{Direction}
use Rattle.config_types.specs.declared.config.Direction.TheVariants.{BothWays}
use Rattle.config_types.specs.declared.config.End.{End}
use Rattle.config_types.specs.declared.config.End.TheVariants as Ends
use Rattle.config_types.specs.declared.config.Network.{Network}
use Rattle.config_types.specs.declared.config.Port.{Port}
use Rattle.config_types.specs.declared.config.Service.{Service}
use Rattle.config_types.specs.declared.topology.Node.{Node}
use Rattle.config_types.specs.declared.topology.Topology.{Topology}
use Rattle.schedule_script.specs.ConfigCheck.Checked.{Checked}
use Rattle.schedule_script.specs.ConfigCheck.Sentences.{NamesEnds}
use Rattle.reach_plain.specs.ChainExpand.Expansion.{expansion}
use Rattle.reach_plain.specs.PolicyRules.Matching.{speaks_both_ways}
use Rattle.reach_plain.specs.PolicyRules.NumberedRule.{NumberedRule}
use Rattle.reach_plain.specs.PolicyRules.Related.{all_rules, fits, rules_between}
use Rattle.reach_plain.specs.PolicyRules.Standing.{AreRelated, IsBetween, IsEnd, LetsThrough, PassesBetween}
use Rattle.reach_plain.proofs.PolicyRules.Standing.{between_iff, fits_iff}
use Rattle.transform_model.specs.AclCompile.Oriented.{acl_rules, acl_value, ascending, backwards, does, entries_of, forward_entry, forwards, mirrored_entry, oriented}
use Rattle.transform_model.specs.IsObject.{IsHop, of_left_circuit, of_networks, of_port, of_right_circuit, of_use}
use Rattle.transform_model.specs.IsRow.{IsCircuitAt, IsPort}
use Rattle.transform_model.specs.IsUse.{IsLeftCircuit, IsRightCircuit, IsUse}
use Rattle.transform_model.specs.Objects.{LowObject, attached_circuit, attached_port}
use Rattle.transform_model.specs.Uses.{Circuit, ConfiguredUse}
use Rattle.node_laws.specs.NodeModel.Agent.{entered_by}
use Rattle.node_laws.specs.NodeModel.Maps.{object}
use Rattle.node_laws.specs.NodeModel.Members.{Member}
use Rattle.node_laws.specs.NodeModel.Uses.{held_use, hop_imports, is_hop, network_imports, place_of}
use Rattle.node_laws.proofs.NodeModel.Members.{in_filter_map, in_flat_map, in_left, in_right, member_of}
use Rattle.node_laws.proofs.NodeModel.Places.{is_hop-network}
use Rattle.machine_model.specs.Setup.{low_in, opening}
use Rattle.machine_laws.specs.Headline.{IsWritten}
use Rattle.machine_laws.proofs.Imports.{network_in, small}
use Rattle.machine_laws.proofs.Lists.{zip_length}
use Rattle.hitless_cells.specs.Ways.{IsStop, OffersUse, Opens, SpeaksOf, Track, Way}
use Rattle.hitless_cells.specs.Ways.Way.{inside, passing, through}
use Rattle.hitless_cells.proofs.Alone.{one_network}
use Rattle.hitless_cells.proofs.OneRule.{among_all}
use Rattle.machine_moment_laws.specs.Common.{entered}
use Rattle.machine_moment_laws.proofs.Made.{has_object, valid}

abbrev pub Stop : Type 0
Stop = ServiceNo × Node

-- ---- lists of stops
pub at_place : {A B : Type 0} (R : A → B → Type 0) (xs : List A) (ys : List B) (j : ℕ) (y : B) → AllZip R xs ys → slice_get ys j ≡ Some y → (x : A) × (slice_get xs j ≡ Some x) × R x y
at_place R [] [] j y h e = cc
at_place R [] (y ∷ ys) j z h e = absurd h
at_place R (x ∷ xs) [] j z h e = absurd h
at_place {A} {B} R (x ∷ xs) (y ∷ ys) zero z h e =
    let same : y ≡ z = cc in
    (x, refl, subst (R x) same h.0)
at_place R (x ∷ xs) (y ∷ ys) (suc j) z h e = at_place R xs ys j z h.1 e

pub stop_of : {A B : Type 0} (R : A → B → Type 0) (xs : List A) (ys : List B) (y : B) → AllZip R xs ys → Member y ys → (x : A) × R x y
stop_of R [] [] y h m = absurd m
stop_of R [] (y ∷ ys) z h m = absurd h
stop_of R (x ∷ xs) [] z h m = absurd m
stop_of R (x ∷ xs) (y ∷ ys) z h (inl e) = (x, subst (R x) e h.0)
stop_of R (x ∷ xs) (y ∷ ys) z h (inr m) = stop_of R xs ys z h.1 m

abbrev pub hop_of_stop : Stop → ServiceNo × Addr
hop_of_stop s = (s.0, s.1.address)

hops_of_stops : (t : Topology) (ss : List Service) (stops : List Stop) → AllZip (IsStop t) ss stops → AllZip (IsHop t) ss (map hop_of_stop stops)
hops_of_stops t [] [] h = tt
hops_of_stops t [] (k ∷ ks) h = absurd h
hops_of_stops t (s ∷ ss) [] h = absurd h
hops_of_stops t (s ∷ ss) (k ∷ ks) h =
    (record { node = k.1; has_node = h.0.node.stands; node_of = h.0.node.named; is = λ i. (sym h.0.number i, k.1.address) }, hops_of_stops t ss ks h.1)

named_end : (e : End) (n : Network) → e ≢ Ends.Any → IsEnd e n → e ≡ Ends.Named n.name
named_end Ends.Any n h is = absurd (h refl)
named_end (Ends.Named name) n h is = ap Ends.Named is

-- the place of a use that packets enter
abbrev pub place_entered : Bool → ℕ → ℕ
place_entered false k = 0
place_entered true k = k

-- ---- one configuration
module _ (c : Checked) (w : IsWritten (opening c)) where
  pub port_in : (home : Network) (port : Port) (node : Node) → IsPort c.topology c.config home port node → (number : PortNo) (i : InstanceId) (a : Addr) → port.id ≡ number → home.id ≡ i → port.address ≡ a
      → object (low_in c) (key.Attach (port_label_of number).0) ≡ Some (low.AttachPort number i a node.address)
  port_in home port node at number i a e f g =
      let P : LowObject → Type 0 = λ o. object (low_in c) o.0 ≡ Some o.1 in
      let same : attached_port port home node ≡ (key.Attach (port_label_of number).0, low.AttachPort number i a node.address) = λ j. (key.Attach (port_label_of (e j)).0, low.AttachPort (e j) (f j) (g j) node.address) in
      subst P same (has_object c w (attached_port port home node) (of_port home port node at refl))

  pub no_hop : (own : Network) → Contains c.config.networks own → is_hop own.id ≡ false
  no_hop own in_own = is_hop-network own.id (small (opening c) w.config (valid c w) own in_own)

  pub imports_in : (own home : Network) → Contains c.config.networks own → Contains c.config.networks home → (own.name ≡ home.name) ⊎ PassesBetween c.config own home → Member home.id (network_imports (object (low_in c) (key.Instance own.id.0)))
  imports_in own home in_own in_home near =
      subst (λ b. Member home.id (cond b (hop_imports (place_of own.id) (held_use (low_in c) own.id)) (network_imports (object (low_in c) (key.Instance own.id.0))))) (no_hop own in_own)
      (network_in (opening c) w.config (valid c w) own home in_own in_home near)

  -- ---- the access list
  related_by : (own target : Network) → target.name ≢ own.name → (r : NumberedRule) → IsBetween c.config own target r → LetsThrough r.rule.action → AreRelated c.config own target
  related_by own target differ r stands lets = record { differ = λ e. differ (sym e); rule = r; stands = stands; lets = lets }

  near_by : (p : Packet) (own target : Network) (way : Way) (track : Track) → Contains c.config.networks own → Contains c.config.networks target → Opens c p own target way track → (own ≡ target) ⊎ AreRelated c.config own target
  near_by p own target inside track in_own in_target o = inl (one_network c (valid c w) own.name own target in_own in_target refl o.0)
  near_by p own target passing track in_own in_target o = inr (related_by own target o.0 o.1.rule o.1.stands (subst LetsThrough (sym o.1.pass) tt))
  near_by p own target (through use_no mirrored) track in_own in_target o = inr (related_by own target o.0 o.1.rule o.1.stands (subst LetsThrough (sym o.1.leads) tt))

  pub list_in : (p : Packet) (own target : Network) (way : Way) (track : Track) → Contains c.config.networks own → Contains c.config.networks target → Opens c p own target way track
      → object (low_in c) (key.Acl own.id.0 target.id.0) ≡ Some (low.Acl (ascending target.subnets) (acl_rules c.config own target))
  list_in p own target way track in_own in_target o =
      has_object c w (key.Acl own.id.0 target.id.0, acl_value c.config own target) (of_networks own target in_own in_target (near_by p own target way track in_own in_target o) refl)

  -- it enters the first instance of each use that is offered
  in_list : (own target : Network) → target.name ≢ own.name → (r : NumberedRule) → IsBetween c.config own target r → (e : AclRule) → Member e (entries_of c.config own target r) → Member e (acl_rules c.config own target)
  in_list own target differ r stands e m =
      let other : same_name own.name target.name ≡ false = false_from_ne_true (same_name own.name target.name) (λ e. differ (sym ((same_name_iff own.name target.name).0 e))) in
      subst (λ b. Member e (cond b [] (oriented c.config own target))) (sym other)
      (in_flat_map (entries_of c.config own target) r e (rules_between c.config own target) (member_of (rules_between c.config own target) r ((between_iff c.config own target r).1 stands)) m)

  both_ways : (d : Direction) → d ≡ BothWays → speaks_both_ways d ≡ true
  both_ways d e = ap speaks_both_ways e

  enters_by : (own target : Network) → target.name ≢ own.name → (r : NumberedRule) → IsBetween c.config own target r → (chain : List ℕ) (use_no : ℕ) → r.rule.action ≡ Through chain use_no → (mirrored : Bool) → SpeaksOf own target r.rule mirrored
      → Member (hop_instance_of use_no (place_entered mirrored (length (expansion c.config chain)))) (entered (acl_rules c.config own target))
  enters_by own target differ r stands chain use_no leads false speaks =
      let e : AclRule = forward_entry c.config r in
      let here : Member e (forwards c.config own target r) = subst (λ b. Member e (cond b (e ∷ []) [])) (sym ((fits_iff r.rule own target).1 speaks)) (inl refl) in
      in_filter_map (λ (r : AclRule). entered_by r.action) e (hop_instance_of use_no 0) (acl_rules c.config own target)
      (in_list own target differ r stands e (in_left e (forwards c.config own target r) (backwards c.config own target r) here))
      (ap (λ (a : Action). entered_by (does c.config false a)) leads)
  enters_by own target differ r stands chain use_no leads true speaks =
      let e : AclRule = mirrored_entry c.config r in
      let test : (speaks_both_ways r.rule.direction && fits r.rule target own) ≡ true = and_from (speaks_both_ways r.rule.direction) (fits r.rule target own) (both_ways r.rule.direction speaks.0) ((fits_iff r.rule target own).1 speaks.1) in
      let here : Member e (backwards c.config own target r) = subst (λ b. Member e (cond b (e ∷ []) [])) (sym test) (inl refl) in
      in_filter_map (λ (r : AclRule). entered_by r.action) e (hop_instance_of use_no (length (expansion c.config chain))) (acl_rules c.config own target)
      (in_list own target differ r stands e (in_right e (forwards c.config own target r) (backwards c.config own target r) here))
      (ap (λ (a : Action). entered_by (does c.config true a)) leads)

  module _ (p : Packet) (own target : Network) (in_own : Contains c.config.networks own) (in_target : Contains c.config.networks target) (use_no : ℕ) (mirrored : Bool) (track : Track) (o : Opens c p own target (through use_no mirrored) track) where
    abbrev offer : OffersUse c p own target use_no mirrored track
    offer = o.1

    abbrev services : List Service
    services = expansion c.config offer.chain

    as_many : length services ≡ length track.stops
    as_many = sym (zip_length (IsStop c.topology) services track.stops offer.stops)

    pub enters : Member (hop_instance_of use_no (place_entered mirrored (length track.stops))) (entered (acl_rules c.config own target))
    enters =
        subst (λ (k : ℕ). Member (hop_instance_of use_no (place_entered mirrored k)) (entered (acl_rules c.config own target))) as_many
        (enters_by own target o.0 offer.rule offer.stands offer.chain use_no offer.leads mirrored offer.speaks)

    -- ---- the use
    abbrev pub left_end : Network
    left_end = cond mirrored target own

    abbrev pub right_end : Network
    right_end = cond mirrored own target

    abbrev effect : ConfiguredUse
    effect = record { number = use_no; left = left_end; right = right_end; services = services }

    ends : (offer.rule.rule.source ≢ Ends.Any) × (offer.rule.rule.destination ≢ Ends.Any)
    ends = All-contains (λ (r : NumberedRule). NamesEnds r.rule) (all_rules c.config) offer.rule (valid c w).ends (among_all c.config own target offer.rule offer.stands) offer.chain use_no offer.leads

    in_effect : IsUse c.config effect
    in_effect = by mirrored offer.speaks
      where
        rule_stands : Contains offer.stands.policy.rules offer.rule.rule
        rule_stands = contains_at offer.stands.policy.rules offer.stands.place offer.rule.rule offer.stands.stands

        by : (m : Bool) → SpeaksOf own target offer.rule.rule m → IsUse c.config (record { number = use_no; left = cond m target own; right = cond m own target; services = services })
        by false s = record {
          policy = offer.stands.policy;
          rule = offer.rule.rule;
          chain = offer.chain;
          has_policy = offer.stands.configured;
          has_rule = rule_stands;
          leads = offer.leads;
          from = named_end offer.rule.rule.source own ends.0 s.0;
          to = named_end offer.rule.rule.destination target ends.1 s.1;
          has_left = in_own;
          has_right = in_target;
          left_attaches = offer.stands.first_attaches;
          right_attaches = offer.stands.second_attaches;
          services = refl;
        }
        by true s = record {
          policy = offer.stands.policy;
          rule = offer.rule.rule;
          chain = offer.chain;
          has_policy = offer.stands.configured;
          has_rule = rule_stands;
          leads = offer.leads;
          from = named_end offer.rule.rule.source target ends.0 s.1.0;
          to = named_end offer.rule.rule.destination own ends.1 s.1.1;
          has_left = in_target;
          has_right = in_own;
          left_attaches = offer.stands.second_attaches;
          right_attaches = offer.stands.first_attaches;
          services = refl;
        }

    pub use_in : object (low_in c) (key.ChainUse use_no) ≡ Some (low.ChainUse left_end.id right_end.id (ascending left_end.subnets) (ascending right_end.subnets) (map hop_of_stop track.stops))
    use_in =
        let hops = map hop_of_stop track.stops in
        has_object c w (key.ChainUse use_no, low.ChainUse left_end.id right_end.id (ascending left_end.subnets) (ascending right_end.subnets) hops)
        (of_use effect hops in_effect (hops_of_stops c.topology services track.stops offer.stops) refl)

    -- ---- its circuits
    module _ (j : ℕ) (stop : Stop) (at : slice_get track.stops j ≡ Some stop) where
      place : (s : Service) × (slice_get services j ≡ Some s) × IsStop c.topology s stop
      place = at_place (IsStop c.topology) services track.stops j stop offer.stops at

      pub left_in : object (low_in c) (key.Attach (circuit_label_of (left_circuit_of use_no (j + 1))).0) ≡ Some (low.AttachCircuit (left_circuit_of use_no (j + 1)) stop.0 stop.1.address)
      left_in =
          let k : Circuit = record { number = left_circuit_of use_no (j + 1); service = place.0 } in
          let is : IsLeftCircuit effect j k = record { service = place.1; number = refl } in
          let there : IsCircuitAt c.topology k stop.1 = record { has_node = place.2.node.stands; node_of = place.2.node.named } in
          has_object c w (attached_circuit k stop.1) (of_left_circuit effect j k stop.1 in_effect is there refl)
          ∙ ap (λ (s : ServiceNo). Some (low.AttachCircuit (left_circuit_of use_no (j + 1)) s stop.1.address)) place.2.number

      pub right_in : object (low_in c) (key.Attach (circuit_label_of (right_circuit_of use_no (j + 1))).0) ≡ Some (low.AttachCircuit (right_circuit_of use_no (j + 1)) stop.0 stop.1.address)
      right_in =
          let k : Circuit = record { number = right_circuit_of use_no (j + 1); service = place.0 } in
          let is : IsRightCircuit effect j k = record { service = place.1; number = refl } in
          let there : IsCircuitAt c.topology k stop.1 = record { has_node = place.2.node.stands; node_of = place.2.node.named } in
          has_object c w (attached_circuit k stop.1) (of_right_circuit effect j k stop.1 in_effect is there refl)
          ∙ ap (λ (s : ServiceNo). Some (low.AttachCircuit (right_circuit_of use_no (j + 1)) s stop.1.address)) place.2.number
