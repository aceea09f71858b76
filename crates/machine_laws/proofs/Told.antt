-- What agents tell of their slices, and the own routes and publishers of circuits that come of it.
use Rattle.std.specs.FinMap.{get}
use Rattle.std.specs.List.{flat_map}
use Rattle.std.specs.Prelude.{List, is_some, map, suc, true, ℕ, [], ◌++◌, ◌<◌, ◌==◌, ◌∷◌, ◌≡◌, ◌⊎◌}
use Rattle.std.specs.declared.option.Option.TheVariants.{None, Some}
use Rattle.std.specs.declared.option.Option.{Option}
use Rattle.std.proofs.Common.{ap, inl, inr, refl, subst, sym, ◌∙◌}
use Rattle.std.proofs.lemmas.Bool.{eq-eqb}
use Rattle.std.proofs.lemmas.Option.{same_Some}
use Rattle.ov_types.specs.Prefix.{Block, host_prefix}
use Rattle.ov_types.specs.declared.numbers.InstanceId.{InstanceId}
use Rattle.ov_types.specs.declared.numbers.Label.{Label as LabelNo}
use Rattle.ov_types.specs.declared.objects.LowKey.TheVariants as key
use Rattle.ov_types.specs.declared.objects.LowKey.{LowKey}
use Rattle.ov_types.specs.declared.objects.LowValue.TheVariants as low
use Rattle.ov_types.specs.declared.objects.LowValue.{LowValue}
use Rattle.ov_types.specs.declared.prefix.Addr.{Addr}
use Rattle.route_targets.specs.Numbers.{circuit_instance_of, distinguisher_of, target_of}
use Rattle.node_laws.specs.NodeModel.Agent.{needed_by, publication, told_of}
use Rattle.node_laws.specs.NodeModel.Keys.{Key, Low, Publish, Row, Subscribe, Vpn}
use Rattle.node_laws.specs.NodeModel.Maps.{Map, as_label, objects}
use Rattle.node_laws.specs.NodeModel.Members.{Member}
use Rattle.node_laws.specs.NodeModel.Paths.{Path, Told, own_paths}
use Rattle.node_laws.specs.NodeModel.Reaching.{Side, circuit_at, hop_at, network, published_by, published_in, sides, subnets}
use Rattle.node_laws.specs.NodeModel.Values.{Label, Value}
use Rattle.node_laws.specs.NodeModel.Wants.{is_in_slice, slice}
use Rattle.node_laws.proofs.NodeModel.Members.{entry_in, from_entry, from_filter, from_filter_map, from_flat_map, from_map, in_either, in_filter, in_filter_map, in_flat_map, in_left, in_map, none_some}
use Rattle.node_laws.proofs.NodeModel.Orders.{key_exact, key_total}
use Rattle.node_laws.proofs.NodeModel.Routes.{own_route_from, own_route_in, label_is, led_by}
use Rattle.node_laws.proofs.NodeModel.Wanted.{instance_at, address_is}
use Rattle.node_laws.proofs.NodeModel.Alike.{as_label_no}
use Rattle.machine_laws.specs.Compiled.{Agents, Attachment, as_attachment, attachments, circuit_prefix, holds, local, told_by_agent}
use Rattle.machine_laws.specs.Sound.{IsAmong, IsSound}

pub record IsHost (asn : ℕ) (feed : Map) (p : Path) : Type 0 where
  pub to : Attachment
  pub attached : Member to (attachments feed)
  pub prefix : p.prefix ≡ to.prefix
  pub rd : p.rd ≡ distinguisher_of to.node to.instance
  pub next_hop : p.next_hop ≡ to.node
  pub label : p.label ≡ to.label
  pub targets : p.targets ≡ target_of asn to.instance ∷ []

pub record IsAggregate (asn : ℕ) (feed : Map) (p : Path) : Type 0 where
  pub side : Side
  pub of_use : Member side (sides feed)
  pub d : ℕ
  pub within : d < side.chain.services
  pub subnet : Member p.prefix (subnets side)
  pub held : holds feed (network side) p.prefix ≡ true
  pub to : Attachment
  pub attached : Member to (attachments feed)
  pub instance : to.instance ≡ hop_at side (suc d)
  pub circuit : to.prefix ≡ circuit_prefix (circuit_at side (suc d))
  pub rd : p.rd ≡ distinguisher_of to.node to.instance
  pub next_hop : p.next_hop ≡ to.node
  pub label : p.label ≡ to.label
  pub targets : p.targets ≡ target_of asn to.instance ∷ []

abbrev pub IsTold : ℕ → Map → Path → Type 0
IsTold asn feed p = IsHost asn feed p ⊎ IsAggregate asn feed p

-- ---- attachments and publications
abbrev pub publication_of : Attachment → Key × Value
publication_of a = (Publish a.instance a.prefix, Label a.label)

pub publication_cases : (k : LowKey) (v : LowValue) (e : Key × Value) → Member e (publication k v) → (a : Attachment) × (as_attachment k v ≡ Some a) × (publication_of a ≡ e)
publication_cases (key.Attach l) (low.AttachPort p i x n) e m = elim m as (λ _. (a : Attachment) × (as_attachment (key.Attach l) (low.AttachPort p i x n) ≡ Some a) × (publication_of a ≡ e)) [ inl is ↦ (record { label = record { 0 = l }; instance = i; prefix = host_prefix x.0; node = n }, refl, is) | inr n ↦ absurd n ]
publication_cases (key.Attach l) (low.AttachCircuit c sv n) e m = elim m as (λ _. (a : Attachment) × (as_attachment (key.Attach l) (low.AttachCircuit c sv n) ≡ Some a) × (publication_of a ≡ e)) [ inl is ↦ (record { label = record { 0 = l }; instance = circuit_instance_of c; prefix = circuit_prefix c; node = n }, refl, is) | inr n ↦ absurd n ]
publication_cases (key.Attach l) (low.Instance is) e m = absurd m
publication_cases (key.Attach l) (low.Acl s r) e m = absurd m
publication_cases (key.Attach l) (low.ChainUse a b c d f) e m = absurd m
publication_cases (key.Instance n) v e m = absurd m
publication_cases (key.Acl a b) v e m = absurd m
publication_cases (key.ChainUse u) v e m = absurd m

attached_cases : (feed : Map) (k : LowKey) (v : LowValue) (a : Attachment) → as_attachment k v ≡ Some a → (is_in_slice feed a.node k v ≡ true) × Member (publication_of a) (publication k v)
attached_cases feed (key.Attach l) (low.AttachPort p i x n) a h =
    let s = same_Some _ a h in subst (λ (a : Attachment). ((n.0 == a.node.0) ≡ true) × Member (publication_of a) (publication (key.Attach l) (low.AttachPort p i x n))) s (eq-eqb n.0 n.0 refl, inl refl)
attached_cases feed (key.Attach l) (low.AttachCircuit c sv n) a h =
    let s = same_Some _ a h in subst (λ (a : Attachment). ((n.0 == a.node.0) ≡ true) × Member (publication_of a) (publication (key.Attach l) (low.AttachCircuit c sv n))) s (eq-eqb n.0 n.0 refl, inl refl)
attached_cases feed (key.Attach l) (low.Instance is) a h = absurd (none_some a h)
attached_cases feed (key.Attach l) (low.Acl s r) a h = absurd (none_some a h)
attached_cases feed (key.Attach l) (low.ChainUse x b c d f) a h = absurd (none_some a h)
attached_cases feed (key.Instance n) v a h = absurd (none_some a h)
attached_cases feed (key.Acl x b) v a h = absurd (none_some a h)
attached_cases feed (key.ChainUse u) v a h = absurd (none_some a h)

-- of an attachment in a slice the node is the slice's
attached_node : (feed : Map) (address : Addr) (k : LowKey) (v : LowValue) (a : Attachment) → as_attachment k v ≡ Some a → is_in_slice feed address k v ≡ true → a.node ≡ address
attached_node feed address (key.Attach l) (low.AttachPort p i x n) a h e = ap (λ (a : Attachment). a.node) (sym (same_Some _ a h)) ∙ address_is n address e
attached_node feed address (key.Attach l) (low.AttachCircuit c sv n) a h e = ap (λ (a : Attachment). a.node) (sym (same_Some _ a h)) ∙ address_is n address e
attached_node feed address (key.Attach l) (low.Instance is) a h e = absurd (none_some a h)
attached_node feed address (key.Attach l) (low.Acl s r) a h e = absurd (none_some a h)
attached_node feed address (key.Attach l) (low.ChainUse x b c d f) a h e = absurd (none_some a h)
attached_node feed address (key.Instance n) v a h e = absurd (none_some a h)
attached_node feed address (key.Acl x b) v a h e = absurd (none_some a h)
attached_node feed address (key.ChainUse u) v a h e = absurd (none_some a h)

-- what an agent told
abbrev pub told_map : Map → Addr → Map
told_map feed address = told_of (slice feed address)

abbrev pub subscription_of : InstanceId → Key × Value
subscription_of i = (Subscribe i, Label (record { 0 = 0 }))

abbrev pub pair : Key → Value → Key × Value
pair k v = (k, v)

abbrev as_publish : Key → Option (InstanceId × Block)
as_publish (Publish i p) = Some (i, p)
as_publish (Low k) = None
as_publish (Vpn k) = None
as_publish (Row i p) = None
as_publish (Subscribe i) = None

apart_keys : (i j : InstanceId) (p : Block) → Subscribe i ≡ Publish j p → ⊥
apart_keys i j p e = none_some (instance_at j p) (ap as_publish e)

pub same_publish : (i j : InstanceId) (p q : Block) → Publish i p ≡ Publish j q → (i ≡ j) × (p ≡ q)
same_publish i j p q e =
    let s = same_Some (instance_at i p) (instance_at j q) (ap as_publish e) in
    (ap (λ (x : InstanceId × Block). x.0) s, ap (λ (x : InstanceId × Block). x.1) s)

pub same_label : (l m : LabelNo) → Label l ≡ Label m → l ≡ m
same_label l m e = same_Some l m (ap as_label_no e)

abbrev IsOfAttachment : Map → Addr → Key → Value → Type 0
IsOfAttachment feed address k v = (a : Attachment) × Member a (attachments feed) × (a.node ≡ address) × (publication_of a ≡ pair k v)

abbrev IsOfNeed : Map → Addr → Key → Value → Type 0
IsOfNeed feed address k v = (i : InstanceId) × Member i (needed_by (slice feed address)) × (subscription_of i ≡ pair k v)

abbrev pub publications : List (LowKey × LowValue) → List (Key × Value)
publications es = flat_map (λ e. publication e.0 e.1) es

abbrev pub subscriptions_of : List (LowKey × LowValue) → List (Key × Value)
subscriptions_of es = map (λ i. (Subscribe i, Label (record { 0 = 0 }))) (needed_by es)

pub told_entry : (feed : Map) (address : Addr) (k : Key) (v : Value) → get (told_map feed address) k ≡ Some v → IsOfAttachment feed address k v ⊎ IsOfNeed feed address k v
told_entry feed address k v h =
    let es = slice feed address in
    elim (in_either (pair k v) (publications es) (subscriptions_of es) (from_entry key_total key_exact k v (publications es ++ subscriptions_of es) h)) as (λ _. IsOfAttachment feed address k v ⊎ IsOfNeed feed address k v) [
      | inl m ↦
          let q = from_flat_map (λ (e : LowKey × LowValue). publication e.0 e.1) (pair k v) es m in
          let inner = from_filter (λ (e : LowKey × LowValue). is_in_slice feed address e.0 e.1) q.0 (objects feed) q.1 in
          let c = publication_cases q.0.0 q.0.1 (pair k v) q.2 in
          inl (c.0, in_filter_map (λ (e : LowKey × LowValue). as_attachment e.0 e.1) q.0 c.0 (objects feed) inner.0 c.1, attached_node feed address q.0.0 q.0.1 c.0 c.1 inner.1, c.2)
      | inr m ↦ inr (from_map subscription_of (pair k v) (needed_by es) m)
    ]

-- an attachment is published, with a label
pub published : (feed : Map) (a : Attachment) → Member a (attachments feed) → (l : LabelNo) × (get (told_map feed a.node) (Publish a.instance a.prefix) ≡ Some (Label l))
published feed a m =
    let es = slice feed a.node in
    let q = from_filter_map (λ (e : LowKey × LowValue). as_attachment e.0 e.1) a (objects feed) m in
    let c = attached_cases feed q.0.0 q.0.1 a q.2 in
    let e = entry_in key_total (publication_of a) (publications es ++ subscriptions_of es)
    (in_left (publication_of a) (publications es) (subscriptions_of es)
    (in_flat_map (λ (e : LowKey × LowValue). publication e.0 e.1) q.0 (publication_of a) es (in_filter (λ (e : LowKey × LowValue). is_in_slice feed a.node e.0 e.1) q.0 (objects feed) q.1 c.0) c.1)) in
    elim (told_entry feed a.node (Publish a.instance a.prefix) e.0 e.1) as (λ _. (l : LabelNo) × (get (told_map feed a.node) (Publish a.instance a.prefix) ≡ Some (Label l))) [
      | inl t ↦ (t.0.label, e.1 ∙ ap (λ (x : Key × Value). Some x.1) (sym t.3))
      | inr t ↦ absurd (apart_keys t.0 a.instance a.prefix (ap (λ (x : Key × Value). x.0) t.2))
    ]

-- what is published under a label is an attachment
record OfAttachment (feed : Map) (address : Addr) (i : InstanceId) (prefix : Block) (label : LabelNo) : Type 0 where
  pub to : Attachment
  pub attached : Member to (attachments feed)
  pub node : to.node ≡ address
  pub instance : to.instance ≡ i
  pub at : to.prefix ≡ prefix
  pub labelled : to.label ≡ label

of_publication : (feed : Map) (address : Addr) (i : InstanceId) (prefix : Block) (label : LabelNo) → get (told_map feed address) (Publish i prefix) ≡ Some (Label label) → OfAttachment feed address i prefix label
of_publication feed address i prefix label h =
    elim (told_entry feed address (Publish i prefix) (Label label) h) as (λ _. OfAttachment feed address i prefix label) [
      | inl a ↦
          let keys = same_publish a.0.instance i a.0.prefix prefix (ap (λ (x : Key × Value). x.0) a.3) in
          record { to = a.0; attached = a.1; node = a.2; instance = keys.0; at = keys.1; labelled = same_label a.0.label label (ap (λ (x : Key × Value). x.1) a.3) }
      | inr s ↦ absurd (apart_keys s.0 i prefix (ap (λ (x : Key × Value). x.0) s.2))
    ]

-- ---- own routes
-- each own route is the host route of an attachment
pub own_is_host : (asn : ℕ) (feed : Map) (agents : Agents) (p : Path) → Member p (own_paths (local asn feed agents)) → IsHost asn feed p
own_is_host asn feed agents p m =
    let o = own_route_from (local asn feed agents) p m in
    let t = from_map (told_by_agent feed) o.agent agents o.told in
    let at : told_map feed t.0.1 ≡ o.agent.map = ap (λ (a : Told). a.map) t.2 in
    let a = of_publication feed t.0.1 o.instance p.prefix p.label (ap (λ (m : Map). get m (Publish o.instance p.prefix)) at ∙ o.publishes) in
    let node : o.agent.address ≡ a.to.node = ap (λ (a : Told). a.address) (sym t.2) ∙ sym a.node in
    record {
      to = a.to;
      attached = a.attached;
      prefix = sym a.at;
      rd = o.rd ∙ (λ i. distinguisher_of (node i) (sym a.instance i));
      next_hop = o.next_hop ∙ node;
      label = sym a.labelled;
      targets = o.targets ∙ ap (λ (n : InstanceId). target_of asn n ∷ []) (sym a.instance);
    }

-- an attachment at one of the agents has its route
pub own_found : (asn : ℕ) (feed : Map) (agents : Agents) (a : Attachment) → IsSound feed → Member a (attachments feed) → IsAmong a.node agents
    → (p : Path) × Member p (own_paths (local asn feed agents)) × (p.prefix ≡ a.prefix) × (p.rd ≡ distinguisher_of a.node a.instance) × (p.targets ≡ target_of asn a.instance ∷ [])
own_found asn feed agents a sound m among =
    let e = among.0 in
    let l = published feed a m in
    let p : Path = record { prefix = a.prefix; rd = distinguisher_of e.1 a.instance; next_hop = e.1; label = l.0; targets = target_of asn a.instance ∷ []; session = e.0 } in (
      p,
      own_route_in (local asn feed agents) p (record {
        agent = told_by_agent feed e;
        instance = a.instance;
        told = in_map (told_by_agent feed) e agents among.1;
        publishes = ap (λ (n : Addr). get (told_map feed n) (Publish a.instance a.prefix)) among.2 ∙ l.1;
        known = sound.known a m;
        rd = refl;
        next_hop = refl;
        targets = refl;
        session = refl;
      }),
      refl,
      ap (λ (n : Addr). distinguisher_of n a.instance) among.2,
      refl,
    )

-- ---- publishers of circuits
pub record IsPublished (feed : Map) (circuit : ℕ) (by : Addr × LabelNo) : Type 0 where
  pub to : Attachment
  pub attached : Member to (attachments feed)
  pub instance : to.instance ≡ circuit_instance_of circuit
  pub prefix : to.prefix ≡ circuit_prefix circuit
  pub node : by.0 ≡ to.node
  pub label : by.1 ≡ to.label

abbrev or_else : Map → Addr → Agents → ℕ → Option LabelNo → Option (Addr × LabelNo)
or_else feed address agents circuit o = elim o [ Some l ↦ Some (led_by address l) | None ↦ published_in (map (told_by_agent feed) agents) circuit ]

pub publisher_is : (feed : Map) (agents : Agents) (circuit : ℕ) (by : Addr × LabelNo) → published_in (map (told_by_agent feed) agents) circuit ≡ Some by → IsPublished feed circuit by
publisher_is feed [] circuit by e = absurd (none_some by e)
publisher_is feed (a ∷ agents) circuit by e = by_first (publisher_is feed agents circuit by) (published_by (told_by_agent feed a) circuit) refl e
  where
    by_first : (published_in (map (told_by_agent feed) agents) circuit ≡ Some by → IsPublished feed circuit by) → (o : Option LabelNo) → published_by (told_by_agent feed a) circuit ≡ o → or_else feed a.1 agents circuit o ≡ Some by → IsPublished feed circuit by
    by_first rest None is e = rest e
    by_first rest (Some l) is e =
        let o = of_publication feed a.1 (circuit_instance_of circuit) (circuit_prefix circuit) l (label_is (get (told_map feed a.1) (Publish (circuit_instance_of circuit) (circuit_prefix circuit))) l is) in
        let s : ◌≡◌ {A = Addr × LabelNo} (led_by a.1 l) by = same_Some (led_by a.1 l) by e in
        record { to = o.to; attached = o.attached; instance = o.instance; prefix = o.at; node = ap (λ (x : Addr × LabelNo). x.0) (sym s) ∙ sym o.node; label = ap (λ (x : Addr × LabelNo). x.1) (sym s) ∙ sym o.labelled }

pub publisher_found : (feed : Map) (agents : Agents) (circuit : ℕ) (a : Attachment) → Member a (attachments feed) → a.instance ≡ circuit_instance_of circuit → a.prefix ≡ circuit_prefix circuit → IsAmong a.node agents
    → is_some (published_in (map (told_by_agent feed) agents) circuit) ≡ true
publisher_found feed [] circuit a m i p among = absurd among.1
publisher_found feed (b ∷ agents) circuit a m i p (e, mem, at) =
    elim mem as (λ _. is_some (published_in (map (told_by_agent feed) (b ∷ agents)) circuit) ≡ true) [
      | inl is ↦
          let l = published feed a m in
          let here : get (told_map feed b.1) (Publish (circuit_instance_of circuit) (circuit_prefix circuit)) ≡ Some (Label l.0) =
          (λ k. get (told_map feed ((ap (λ (x : ℕ × Addr). x.1) is ∙ at) k)) (Publish (sym i k) (sym p k))) ∙ l.1 in
          ap (λ (o : Option Value). is_some (or_else feed b.1 agents circuit (as_label o))) here
      | inr mem ↦
          let rest = publisher_found feed agents circuit a m i p (e, mem, at) in
          elim (as_label (get (told_map feed b.1) (Publish (circuit_instance_of circuit) (circuit_prefix circuit)))) as (λ (o : Option LabelNo). is_some (or_else feed b.1 agents circuit o) ≡ true) [ None ↦ rest | Some l ↦ refl ]
    ]
