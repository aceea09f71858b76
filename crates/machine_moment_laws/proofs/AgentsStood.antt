-- What an agent wants and forwards by is of configurations so far where all that it holds is.
use Rattle.std.specs.FinMap.{get}
use Rattle.std.specs.List.{AllByRecursion}
use Rattle.std.specs.Prelude.{List, cond, false, length, true, ℕ, [], ◌+◌, ◌++◌, ◌<◌, ◌∷◌, ◌≡◌, ◌≤◌}
use Rattle.std.specs.declared.option.Option.TheVariants.{None, Some}
use Rattle.std.specs.declared.option.Option.{Option}
use Rattle.std.proofs.Common.{arith, ap, inl, inr, refl, subst, ◌∙◌}
use Rattle.std.proofs.lemmas.Option.{same_Some}
use Rattle.ov_types.specs.Prefix.{Block}
use Rattle.ov_types.specs.declared.numbers.InstanceId.{InstanceId}
use Rattle.ov_types.specs.declared.numbers.Label.{Label as LabelNo}
use Rattle.ov_types.specs.declared.numbers.ServiceNo.{ServiceNo}
use Rattle.ov_types.specs.declared.objects.LowKey.TheVariants as key
use Rattle.ov_types.specs.declared.objects.LowKey.{LowKey}
use Rattle.ov_types.specs.declared.objects.LowValue.TheVariants as low
use Rattle.ov_types.specs.declared.objects.LowValue.{LowValue}
use Rattle.ov_types.specs.declared.rows.Attached.TheVariants.{Circuit, Port}
use Rattle.ov_types.specs.declared.rows.Attached.{Attached}
use Rattle.ov_types.specs.declared.rows.Entry.{Entry as RouteEntry}
use Rattle.route_targets.specs.Forwarding.{Forwarder}
use Rattle.route_targets.specs.Numbers.{circuit_instance_of, circuit_label_of, hop_instance_of, left_circuit_of, right_circuit_of}
use Rattle.config_types.specs.declared.config.Config.{Config}
use Rattle.transform_model.proofs.InUse.{few_services}
use Rattle.transform_model.proofs.Lists.{place_within}
use Rattle.transform_model.proofs.Prefixes.{use_number}
use Rattle.node_laws.specs.NodeModel.Agent as agent
use Rattle.node_laws.specs.NodeModel.Agent.{needed_by, publication, slice_in_use, told_of}
use Rattle.node_laws.specs.NodeModel.Keys.{Key, Row}
use Rattle.node_laws.specs.NodeModel.Maps.{Map, objects}
use Rattle.node_laws.specs.NodeModel.Members.{Member}
use Rattle.node_laws.specs.NodeModel.Uses.{is_hop}
use Rattle.node_laws.specs.NodeModel.Values.{Entry, Label, Object, Route, Value}
use Rattle.node_laws.proofs.NodeModel.Heard.{route_is}
use Rattle.node_laws.proofs.NodeModel.Members.{from_entry, from_filter_map, from_flat_map, from_map, in_either, none_some}
use Rattle.node_laws.proofs.NodeModel.Objects.{is_hop-hop}
use Rattle.node_laws.proofs.NodeModel.Orders.{key_exact, key_total}
use Rattle.schedule_script.specs.Ties.{Ties}
use Rattle.machine_laws.proofs.Labels.{label_of}
use Rattle.machine_laws.proofs.Told.{pair, publications, subscription_of, subscriptions_of}
use Rattle.machine_moment_laws.proofs.ControlsStood.{object_stood}
use Rattle.machine_moment_laws.proofs.SoFar.{AllStood, EntryStood, IsRowOf, IsServiceAt, ObjectStood}

-- ---- circuits
-- the places of a use are few
pub record IsPlaced (circuit number place : ℕ) : Type 0 where
  pub few : circuit ≤ 131070
  pub of_hop : is_hop (circuit_instance_of circuit) ≡ true

left_placed : (number place services circuit : ℕ) → number ≤ 3071 → services ≤ 15 → place < services → circuit ≡ left_circuit_of number (place + 1) → IsPlaced circuit number place
left_placed number place services circuit few short within e = record {
  few = count number place services circuit few short within e;
  of_hop = ap is_hop instance ∙ is_hop-hop number place;
}
  where
    count : (number place services circuit : ℕ) → number ≤ 3071 → services ≤ 15 → place < services → circuit ≡ left_circuit_of number (place + 1) → circuit ≤ 131070
    count number place services circuit few short within e = omega (arith, few, short, within, e)

    half : (number place circuit : ℕ) → circuit ≡ left_circuit_of number (place + 1) → (circuit_instance_of circuit).0 ≡ (hop_instance_of number place).0
    half number place circuit e = omega (arith, e)

    instance : circuit_instance_of circuit ≡ hop_instance_of number place
    instance = λ k. record { 0 = half number place circuit e k }

right_placed : (number place services circuit : ℕ) → number ≤ 3071 → services ≤ 15 → place < services → circuit ≡ right_circuit_of number (place + 1) → IsPlaced circuit number place
right_placed number place services circuit few short within e = record {
  few = count number place services circuit few short within e;
  of_hop = ap is_hop instance ∙ is_hop-hop number (place + 1);
}
  where
    count : (number place services circuit : ℕ) → number ≤ 3071 → services ≤ 15 → place < services → circuit ≡ right_circuit_of number (place + 1) → circuit ≤ 131070
    count number place services circuit few short within e = omega (arith, few, short, within, e)

    half : (number place circuit : ℕ) → circuit ≡ right_circuit_of number (place + 1) → (circuit_instance_of circuit).0 ≡ (hop_instance_of number (place + 1)).0
    half number place circuit e = omega (arith, e)

    instance : circuit_instance_of circuit ≡ hop_instance_of number (place + 1)
    instance = λ k. record { 0 = half number place circuit e k }

module _ (t : Ties) (cs : List Config) where
  placed : (circuit : ℕ) (service : ServiceNo) → (s : IsServiceAt t cs circuit service) → IsPlaced circuit s.in_effect.number s.place
  placed circuit service s =
      let few = use_number s.config s.in_effect s.so_far.form s.is_use in
      let short = few_services s.so_far.topology s.config s.in_effect s.so_far.valid s.is_use in
      let within = place_within s.in_effect.services s.place s.item s.there in
      elim s.side as (λ _. IsPlaced circuit s.in_effect.number s.place) [
        | inl l ↦ left_placed s.in_effect.number s.place (length s.in_effect.services) circuit few short within l
        | inr r ↦ right_placed s.in_effect.number s.place (length s.in_effect.services) circuit few short within r
      ]

  -- ---- what it tells
  publication_stood : (asn : ℕ) (k : LowKey) (v : LowValue) → ObjectStood t cs k v → (e : Key × Value) → Member e (publication k v) → EntryStood t cs asn e.0 e.1
  publication_stood asn (key.Attach l) (low.AttachPort p i x n) is e (inl same) = subst (λ (e : Key × Value). EntryStood t cs asn e.0 e.1) same (inl is)
  publication_stood asn (key.Attach l) (low.AttachPort p i x n) is e (inr m) = absurd m
  publication_stood asn (key.Attach l) (low.AttachCircuit c sv n) is e (inl same) =
      let at = placed c sv is.1 in
      subst (λ (e : Key × Value). EntryStood t cs asn e.0 e.1) same (inr (record { circuit = c; few = at.few; of_hop = at.of_hop; instance = refl; prefix_is = refl; label_is = label_of l (circuit_label_of c) is.0 }))
  publication_stood asn (key.Attach l) (low.AttachCircuit c sv n) is e (inr m) = absurd m
  publication_stood asn (key.Attach l) (low.Instance ms) is e m = absurd m
  publication_stood asn (key.Attach l) (low.Acl s r) is e m = absurd m
  publication_stood asn (key.Attach l) (low.ChainUse a b c d f) is e m = absurd m
  publication_stood asn (key.Instance n) v is e m = absurd m
  publication_stood asn (key.Acl a b) v is e m = absurd m
  publication_stood asn (key.ChainUse u) v is e m = absurd m

  pub told_stood : (asn : ℕ) (es : List (LowKey × LowValue)) → ((k : LowKey) (v : LowValue) → Member (k, v) es → ObjectStood t cs k v) → AllStood t cs asn (told_of es)
  told_stood asn es all k v e =
      elim (in_either (pair k v) (publications es) (subscriptions_of es) (from_entry key_total key_exact k v (publications es ++ subscriptions_of es) e)) as (λ _. EntryStood t cs asn k v) [
        | inl l ↦
            let q = from_flat_map (λ (e : LowKey × LowValue). publication e.0 e.1) (pair k v) es l in
            publication_stood asn q.0.0 q.0.1 (all q.0.0 q.0.1 q.1) (pair k v) q.2
        | inr l ↦ let q = from_map subscription_of (pair k v) (needed_by es) l in subst (λ (e : Key × Value). EntryStood t cs asn e.0 e.1) q.2 tt
      ]

  pub slice_stood : (asn : ℕ) (hs : agent.Holdings) → AllByRecursion (λ h. AllStood t cs asn h.map) hs → (k : LowKey) (v : LowValue) → Member (k, v) (slice_in_use hs) → ObjectStood t cs k v
  slice_stood asn [] a k v m = absurd m
  slice_stood asn (h ∷ hs) a k v m =
      elim h.is_up as (λ b. Member (k, v) (cond b (objects h.map) (slice_in_use hs)) → ObjectStood t cs k v) [ true ↦ λ m. object_stood t cs asn h.map k v a.0 m | false ↦ λ m. slice_stood asn hs a.1 k v m ] m

  -- ---- what it forwards by
  abbrev pub LabelStood : LabelNo → Attached → Type 0
  LabelStood label (Port port instance) = Unit {0}
  LabelStood label (Circuit circuit service) = (label ≡ circuit_label_of circuit) × IsServiceAt t cs circuit service

  pub record ForwardsBySoFar (f : Forwarder) : Type 0 where
    pub labels : (label : LabelNo) (a : Attached) → Member (label, a) f.rows.labels → LabelStood label a
    pub acls : (k : LowKey) (v : LowValue) → Member (k, v) f.rows.acls → ObjectStood t cs k v
    pub routes : (r : (InstanceId × Block) × RouteEntry) → Member r f.rows.routes → IsRowOf t cs r.0.0 r.0.1 r.1.label

  abbrev PairStood : LabelNo × Attached → Type 0
  PairStood l = LabelStood l.0 l.1

  attached_stood : (k : LowKey) (v : LowValue) (l : LabelNo × Attached) → ObjectStood t cs k v → agent.attached k v ≡ Some l → PairStood l
  attached_stood (key.Attach n) (low.AttachPort p i x d) l is e = subst PairStood (same_Some _ l e) tt
  attached_stood (key.Attach n) (low.AttachCircuit c s d) l is e = subst PairStood (same_Some _ l e) (label_of n (circuit_label_of c) is.0, is.1)
  attached_stood (key.Attach n) (low.Instance ms) l is e = absurd (none_some l e)
  attached_stood (key.Attach n) (low.Acl s r) l is e = absurd (none_some l e)
  attached_stood (key.Attach n) (low.ChainUse a b c d f) l is e = absurd (none_some l e)
  attached_stood (key.Instance n) v l is e = absurd (none_some l e)
  attached_stood (key.Acl a b) v l is e = absurd (none_some l e)
  attached_stood (key.ChainUse u) v l is e = absurd (none_some l e)

  abbrev ListStood : LowKey × LowValue → Type 0
  ListStood o = ObjectStood t cs o.0 o.1

  acl_stood : (k : LowKey) (v : LowValue) (o : LowKey × LowValue) → ObjectStood t cs k v → agent.acl_entry k v ≡ Some o → ListStood o
  acl_stood (key.Acl a b) v o is e = subst ListStood (same_Some _ o e) is
  acl_stood (key.Attach n) v o is e = absurd (none_some o e)
  acl_stood (key.Instance n) v o is e = absurd (none_some o e)
  acl_stood (key.ChainUse u) v o is e = absurd (none_some o e)

  hop_stood : (asn : ℕ) (m : Map) (i : InstanceId) (prefix : Block) (hop : RouteEntry) → AllStood t cs asn m → (o : Option Value) → get m (Row i prefix) ≡ o → agent.as_hop o ≡ Some hop → IsRowOf t cs i prefix hop.label
  hop_stood asn m i prefix hop a (Some (Entry r)) is e = subst (λ (r : RouteEntry). IsRowOf t cs i prefix r.label) (same_Some r hop e) (a (Row i prefix) (Entry r) is)
  hop_stood asn m i prefix hop a (Some (Object v)) is e = absurd (none_some hop e)
  hop_stood asn m i prefix hop a (Some (Route v)) is e = absurd (none_some hop e)
  hop_stood asn m i prefix hop a (Some (Label v)) is e = absurd (none_some hop e)
  hop_stood asn m i prefix hop a None is e = absurd (none_some hop e)

  route_stood : (asn : ℕ) (hs : agent.Holdings) → AllByRecursion (λ h. AllStood t cs asn h.map) hs → (i : InstanceId) (prefix : Block) (hop : RouteEntry) → agent.route_from hs i prefix ≡ Some hop → IsRowOf t cs i prefix hop.label
  route_stood asn [] a i prefix hop e = absurd (none_some hop e)
  route_stood asn (h ∷ hs) a i prefix hop e =
      elim h.is_up as (λ b. cond b (agent.first_some (agent.as_hop (get h.map (Row i prefix))) (agent.route_from hs i prefix)) (agent.route_from hs i prefix) ≡ Some hop → IsRowOf t cs i prefix hop.label) [
        | true ↦ λ e. by_first (route_stood asn hs a.1 i prefix hop) (agent.as_hop (get h.map (Row i prefix))) refl e
        | false ↦ λ e. route_stood asn hs a.1 i prefix hop e
      ] e
    where
      by_first : (agent.route_from hs i prefix ≡ Some hop → IsRowOf t cs i prefix hop.label) → (o : Option RouteEntry) → agent.as_hop (get h.map (Row i prefix)) ≡ o → agent.first_some o (agent.route_from hs i prefix) ≡ Some hop → IsRowOf t cs i prefix hop.label
      by_first rest (Some r) is e = hop_stood asn h.map i prefix hop a.0 (get h.map (Row i prefix)) refl (is ∙ e)
      by_first rest None is e = rest e

  pub rows_stood : (asn : ℕ) (f : Forwarder) (hs : agent.Holdings) → AllByRecursion (λ h. AllStood t cs asn h.map) hs → agent.rows hs ≡ f.rows → ForwardsBySoFar f
  rows_stood asn f hs a e = subst (λ rows. ForwardsBySoFar (record { address = f.address; rows = rows })) e (record {
    labels = λ label l m. let q = from_filter_map (λ (e : LowKey × LowValue). agent.attached e.0 e.1) (label, l) (agent.slice_in_use hs) m in attached_stood q.0.0 q.0.1 (label, l) (slice_stood asn hs a q.0.0 q.0.1 q.1) q.2;
    acls = λ k v m. let q = from_filter_map (λ (e : LowKey × LowValue). agent.acl_entry e.0 e.1) (k, v) (agent.slice_in_use hs) m in acl_stood q.0.0 q.0.1 (k, v) (slice_stood asn hs a q.0.0 q.0.1 q.1) q.2;
    routes = λ r m. route_stood asn hs a r.0.0 r.0.1 r.1 ((route_is hs r.0.0 r.0.1 r.1).0 m).1;
  })
