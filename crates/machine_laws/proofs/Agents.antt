-- What an agent wants and forwards by is tied where all that it holds is.
use Rattle.std.specs.FinMap.{get}
use Rattle.std.specs.List.{AllByRecursion}
use Rattle.std.specs.Prelude.{List, cond, false, true, ℕ, [], ◌++◌, ◌∷◌, ◌≡◌}
use Rattle.std.specs.declared.option.Option.TheVariants.{None, Some}
use Rattle.std.specs.declared.option.Option.{Option}
use Rattle.std.proofs.Common.{inl, inr, refl, subst, ◌∙◌}
use Rattle.std.proofs.lemmas.Option.{same_Some}
use Rattle.ov_types.specs.Prefix.{Block}
use Rattle.ov_types.specs.declared.numbers.InstanceId.{InstanceId}
use Rattle.ov_types.specs.declared.numbers.Label.{Label as LabelNo}
use Rattle.ov_types.specs.declared.objects.LowKey.TheVariants as key
use Rattle.ov_types.specs.declared.objects.LowKey.{LowKey}
use Rattle.ov_types.specs.declared.objects.LowValue.TheVariants as low
use Rattle.ov_types.specs.declared.objects.LowValue.{LowValue}
use Rattle.route_targets.specs.Numbers.{circuit_instance_of, circuit_label_of, port_label_of}
use Rattle.node_laws.specs.NodeModel.Agent as agent
use Rattle.node_laws.specs.NodeModel.Agent.{needed_by, publication, slice_in_use, told_of}
use Rattle.node_laws.specs.NodeModel.Keys.{Key, Row}
use Rattle.node_laws.specs.NodeModel.Maps.{Map, objects}
use Rattle.node_laws.specs.NodeModel.Members.{Member}
use Rattle.node_laws.specs.NodeModel.Uses.{is_hop, use_of}
use Rattle.node_laws.specs.NodeModel.Values.{Entry, Label, Object, Route, Value}
use Rattle.node_laws.proofs.NodeModel.Members.{from_entry, from_filter_map, from_flat_map, from_map, in_either, none_some}
use Rattle.node_laws.proofs.NodeModel.Orders.{key_exact, key_total}
use Rattle.machine_laws.proofs.Told.{pair, publications, subscription_of, subscriptions_of}
use Rattle.std.specs.FinMap.{get}
use Rattle.std.specs.List.{AllByRecursion}
use Rattle.std.specs.Prelude.{List, cond, false, true, ℕ, [], ◌∷◌, ◌≡◌, ◌≤◌}
use Rattle.std.proofs.Common.{refl, subst, ◌∙◌}
use Rattle.ov_types.specs.declared.rows.Attached.TheVariants.{Circuit, Port}
use Rattle.ov_types.specs.declared.rows.Attached.{Attached}
use Rattle.ov_types.specs.declared.rows.Entry.{Entry as RouteEntry}
use Rattle.route_targets.specs.Forwarding.{Forwarder}
use Rattle.route_targets.specs.Numbers.{circuit_instance_of, circuit_label_of, other_side_of, port_label_of}
use Rattle.node_laws.specs.NodeModel.Keys.{Row}
use Rattle.node_laws.specs.NodeModel.Maps.{Map}
use Rattle.node_laws.specs.NodeModel.Uses.{is_hop, use_of}
use Rattle.node_laws.proofs.NodeModel.Heard.{route_is}
use Rattle.node_laws.proofs.NodeModel.Members.{from_filter_map, from_map, none_some}
use Rattle.schedule_script.specs.Ties.{Ties}
use Rattle.machine_laws.specs.Tied.{AreTied, IsInUse, IsRowLabel, IsTied, IsTiedObject}
use Rattle.machine_laws.proofs.Labels.{label_of, object_tied}

module _ (t : Ties) where
  publication_tied : (asn : ℕ) (k : LowKey) (v : LowValue) → IsTiedObject t k v → (e : Key × Value) → Member e (publication k v) → IsTied t asn e.0 e.1
  publication_tied asn (key.Attach l) (low.AttachPort p i x n) is e (inl same) = subst (λ (e : Key × Value). IsTied t asn e.0 e.1) same (inr (is.2, (p, label_of l (port_label_of p) is.0, is.1, is.3)))
  publication_tied asn (key.Attach l) (low.AttachPort p i x n) is e (inr m) = absurd m
  publication_tied asn (key.Attach l) (low.AttachCircuit c sv n) is e (inl same) = subst (λ (e : Key × Value). IsTied t asn e.0 e.1) same (inl (is.1, (c, label_of l (circuit_label_of c) is.0, (is.1, refl))))
  publication_tied asn (key.Attach l) (low.AttachCircuit c sv n) is e (inr m) = absurd m
  publication_tied asn (key.Attach l) (low.Instance ms) is e m = absurd m
  publication_tied asn (key.Attach l) (low.Acl s r) is e m = absurd m
  publication_tied asn (key.Attach l) (low.ChainUse a b c d f) is e m = absurd m
  publication_tied asn (key.Instance n) v is e m = absurd m
  publication_tied asn (key.Acl a b) v is e m = absurd m
  publication_tied asn (key.ChainUse u) v is e m = absurd m

  pub told_tied : (asn : ℕ) (es : List (LowKey × LowValue)) → ((k : LowKey) (v : LowValue) → Member (k, v) es → IsTiedObject t k v) → AreTied t asn (told_of es)
  told_tied asn es all k v e =
      elim (in_either (pair k v) (publications es) (subscriptions_of es) (from_entry key_total key_exact k v (publications es ++ subscriptions_of es) e)) as (λ _. IsTied t asn k v) [
        | inl l ↦
            let q = from_flat_map (λ (e : LowKey × LowValue). publication e.0 e.1) (pair k v) es l in
            publication_tied asn q.0.0 q.0.1 (all q.0.0 q.0.1 q.1) (pair k v) q.2
        | inr l ↦ let q = from_map subscription_of (pair k v) (needed_by es) l in subst (λ (e : Key × Value). IsTied t asn e.0 e.1) q.2 tt
      ]

  pub slice_tied : (asn : ℕ) (hs : agent.Holdings) → AllByRecursion (λ h. AreTied t asn h.map) hs → (k : LowKey) (v : LowValue) → Member (k, v) (slice_in_use hs) → IsTiedObject t k v
  slice_tied asn [] a k v m = absurd m
  slice_tied asn (h ∷ hs) a k v m =
      elim h.is_up as (λ b. Member (k, v) (cond b (objects h.map) (slice_in_use hs)) → IsTiedObject t k v) [ true ↦ λ m. object_tied t asn h.map k v a.0 m | false ↦ λ m. slice_tied asn hs a.1 k v m ] m

-- ---- what an agent forwards by
-- what is under a label
abbrev pub IsTiedLabel : Ties → LabelNo → Attached → Type 0
IsTiedLabel t label (Port port instance) =
    (label ≡ port_label_of port) × (port.0 ≤ 524271) × (is_hop instance ≡ false) × (t.port port ≡ Some instance)
IsTiedLabel t label (Circuit circuit service) =
    (label ≡ circuit_label_of circuit) × (is_hop (circuit_instance_of circuit) ≡ true)
    × IsInUse (use_of (circuit_instance_of circuit)) (other_side_of circuit)

pub record IsTiedForwarder (t : Ties) (f : Forwarder) : Type 0 where
  pub labels : (label : LabelNo) (a : Attached) → Member (label, a) f.rows.labels → IsTiedLabel t label a
  pub acls : (k : LowKey) (v : LowValue) → Member (k, v) f.rows.acls → IsTiedObject t k v
  pub routes : (r : (InstanceId × Block) × RouteEntry) → Member r f.rows.routes → IsRowLabel t r.0.0 r.1.label

abbrev TiedPair : Ties → LabelNo × Attached → Type 0
TiedPair t l = IsTiedLabel t l.0 l.1

attached_tied : (t : Ties) (k : LowKey) (v : LowValue) (l : LabelNo × Attached) → IsTiedObject t k v → agent.attached k v ≡ Some l → TiedPair t l
attached_tied t (key.Attach n) (low.AttachPort p i x d) l is e = subst (TiedPair t) (same_Some _ l e) (label_of n (port_label_of p) is.0, is.1, is.2, is.3)
attached_tied t (key.Attach n) (low.AttachCircuit c s d) l is e = subst (TiedPair t) (same_Some _ l e) (label_of n (circuit_label_of c) is.0, is.1, is.2)
attached_tied t (key.Attach n) (low.Instance ms) l is e = absurd (none_some l e)
attached_tied t (key.Attach n) (low.Acl s r) l is e = absurd (none_some l e)
attached_tied t (key.Attach n) (low.ChainUse a b c d f) l is e = absurd (none_some l e)
attached_tied t (key.Instance n) v l is e = absurd (none_some l e)
attached_tied t (key.Acl a b) v l is e = absurd (none_some l e)
attached_tied t (key.ChainUse u) v l is e = absurd (none_some l e)

abbrev TiedEntry : Ties → LowKey × LowValue → Type 0
TiedEntry t o = IsTiedObject t o.0 o.1

acl_tied : (t : Ties) (k : LowKey) (v : LowValue) (o : LowKey × LowValue) → IsTiedObject t k v → agent.acl_entry k v ≡ Some o → TiedEntry t o
acl_tied t (key.Acl a b) v o is e = subst (TiedEntry t) (same_Some _ o e) is
acl_tied t (key.Attach n) v o is e = absurd (none_some o e)
acl_tied t (key.Instance n) v o is e = absurd (none_some o e)
acl_tied t (key.ChainUse u) v o is e = absurd (none_some o e)

hop_tied : (t : Ties) (asn : ℕ) (m : Map) (i : InstanceId) (prefix : Block) (hop : RouteEntry) → AreTied t asn m → (o : Option Value) → get m (Row i prefix) ≡ o → agent.as_hop o ≡ Some hop → IsRowLabel t i hop.label
hop_tied t asn m i prefix hop a (Some (Entry r)) is e = subst (λ (r : RouteEntry). IsRowLabel t i r.label) (same_Some r hop e) (a (Row i prefix) (Entry r) is)
hop_tied t asn m i prefix hop a (Some (Object v)) is e = absurd (none_some hop e)
hop_tied t asn m i prefix hop a (Some (Route v)) is e = absurd (none_some hop e)
hop_tied t asn m i prefix hop a (Some (Label v)) is e = absurd (none_some hop e)
hop_tied t asn m i prefix hop a None is e = absurd (none_some hop e)

route_tied : (t : Ties) (asn : ℕ) (hs : agent.Holdings) → AllByRecursion (λ h. AreTied t asn h.map) hs → (i : InstanceId) (prefix : Block) (hop : RouteEntry) → agent.route_from hs i prefix ≡ Some hop → IsRowLabel t i hop.label
route_tied t asn [] a i prefix hop e = absurd (none_some hop e)
route_tied t asn (h ∷ hs) a i prefix hop e =
    elim h.is_up as (λ b. cond b (agent.first_some (agent.as_hop (get h.map (Row i prefix))) (agent.route_from hs i prefix)) (agent.route_from hs i prefix) ≡ Some hop → IsRowLabel t i hop.label) [
      | true ↦ λ e. by_first (route_tied t asn hs a.1 i prefix hop) (agent.as_hop (get h.map (Row i prefix))) refl e
      | false ↦ λ e. route_tied t asn hs a.1 i prefix hop e
    ] e
  where
    by_first : (agent.route_from hs i prefix ≡ Some hop → IsRowLabel t i hop.label) → (o : Option RouteEntry) → agent.as_hop (get h.map (Row i prefix)) ≡ o → agent.first_some o (agent.route_from hs i prefix) ≡ Some hop → IsRowLabel t i hop.label
    by_first rest (Some r) is e = hop_tied t asn h.map i prefix hop a.0 (get h.map (Row i prefix)) refl (is ∙ e)
    by_first rest None is e = rest e

pub rows_tied : (t : Ties) (asn : ℕ) (f : Forwarder) (hs : agent.Holdings) → AllByRecursion (λ h. AreTied t asn h.map) hs → agent.rows hs ≡ f.rows → IsTiedForwarder t f
rows_tied t asn f hs a e = subst (λ rows. IsTiedForwarder t (record { address = f.address; rows = rows })) e (record {
  labels = λ label l m. let q = from_filter_map (λ (e : LowKey × LowValue). agent.attached e.0 e.1) (label, l) (agent.slice_in_use hs) m in attached_tied t q.0.0 q.0.1 (label, l) (slice_tied t asn hs a q.0.0 q.0.1 q.1) q.2;
  acls = λ k v m. let q = from_filter_map (λ (e : LowKey × LowValue). agent.acl_entry e.0 e.1) (k, v) (agent.slice_in_use hs) m in acl_tied t q.0.0 q.0.1 (k, v) (slice_tied t asn hs a q.0.0 q.0.1 q.1) q.2;
  routes = λ r m. route_tied t asn hs a r.0.0 r.0.1 r.1 ((route_is hs r.0.0 r.0.1 r.1).0 m).1;
})
