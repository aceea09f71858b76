-- What a control node wants its sessions to have been told.
use Rattle.std.specs.Prelude.{◌≡◌, ◌≢◌, ◌↔◌, ℕ, suc, List, ◌++◌, map, true, is_some, ◌==◌}
use Rattle.std.specs.declared.option.Option.{Option}
use Rattle.std.specs.declared.option.Option.TheVariants.{Some, None}
use Rattle.std.specs.List.{flat_map, list_any}
use Rattle.std.specs.FinMap.{get, entries}
use Rattle.std.proofs.lemmas.Bool.{true≢false, eqb-true, eq-eqb}
use Rattle.std.proofs.lemmas.Option.{same_Some}
use Rattle.std.proofs.Common.{refl, sym, ◌∙◌, ap, subst, inl, inr}
use Rattle.ov_types.specs.Prefix.{Block}
use Rattle.ov_types.specs.declared.numbers.InstanceId.{InstanceId}
use Rattle.ov_types.specs.declared.objects.LowKey.{LowKey}
use Rattle.ov_types.specs.declared.objects.LowKey.TheVariants as key
use Rattle.ov_types.specs.declared.objects.LowValue.{LowValue}
use Rattle.ov_types.specs.declared.objects.LowValue.TheVariants as low
use Rattle.ov_types.specs.declared.prefix.Addr.{Addr}
use Rattle.ov_types.specs.declared.rows.Entry.{Entry as RouteEntry}
use Rattle.ov_types.specs.declared.vpn.VpnRoute.{VpnRoute}
use Rattle.node_model.specs.Members.{Member}
use Rattle.node_model.specs.Keys.{Key, Low, Vpn, Row, Publish, Subscribe}
use Rattle.node_model.specs.Values.{Value, Object, Route, Entry, Label}
use Rattle.node_model.specs.Maps.{Map, objects}
use Rattle.node_model.specs.Paths.{Holdings, Told, Path, own_paths, IsPublishedHere}
use Rattle.node_model.specs.Reaching.{reoriginated_paths, circuit_at}
use Rattle.node_model.specs.Tables.{table}
use Rattle.node_model.specs.Wants.{route_entry, wanted_by_peers, is_at, port_at, networks_at, is_in_slice, slice, slice_entry, subscribed, subscriptions, rows_of, wanted_by_agent, IsAttachedAt, HasPortAt, BelongsTo, IsSubscribedRow}
use Rattle.node_model.proofs.Members.{none_some, in_left, in_right, in_either, in_map, from_map, in_filter, from_filter, in_filter_map, from_filter_map, in_flat_map, from_flat_map, any_in, from_any, get_member, member_get, entry_in, from_entry}
use Rattle.node_model.proofs.Orders.{key_total, key_exact, prefix_total, prefix_exact}
use Rattle.node_model.proofs.Objects.{object_of}
use Rattle.node_model.proofs.Routes.{own_route_from, reoriginated_from, published_here}

-- ---- towards peers
abbrev pub as_route : Value → Option VpnRoute
as_route (Route r) = Some r
as_route (Object v) = None
as_route (Entry r) = None
as_route (Label l) = None

published_path : (h : Holdings) (p : Path) → Member p (own_paths h ++ reoriginated_paths h) → IsPublishedHere h p.next_hop p.label
published_path h p m =
    elim (in_either p (own_paths h) (reoriginated_paths h) m) as (λ _. IsPublishedHere h p.next_hop p.label) [
      | inl l ↦
          let o = own_route_from h p l in
          record { agent = o.agent; instance = o.instance; prefix = p.prefix; told = o.told; at = sym o.next_hop; publishes = o.publishes }
      | inr r ↦
          let o = reoriginated_from h p r in
          published_here h (circuit_at o.side (suc o.depth)) p.next_hop p.label o.published
    ]

route_is : (e : Key × Value) (k : Key) (r : VpnRoute) (p : Path) → route_entry p ≡ e → e.1 ≡ Route r → record { next_hop = p.next_hop; label = p.label; targets = p.targets } ≡ r
route_is e k r p is v = same_Some (record { next_hop = p.next_hop; label = p.label; targets = p.targets }) r (ap (λ (e : Key × Value). as_route e.1) is ∙ ap as_route v)

abbrev pub told : Key → Value → Key × Value
told k v = (k, v)

pub next_hop_here : (h : Holdings) (k : Key) (r : VpnRoute) → get (wanted_by_peers h) k ≡ Some (Route r) → IsPublishedHere h r.next_hop r.label
next_hop_here h k r e =
    let m = from_entry key_total key_exact k (Route r) (map route_entry (own_paths h ++ reoriginated_paths h)) e in
    let q = from_map route_entry (told k (Route r)) (own_paths h ++ reoriginated_paths h) m in
    let is : ◌≡◌ {A = VpnRoute} (record { next_hop = q.0.next_hop; label = q.0.label; targets = q.0.targets }) r = route_is (told k (Route r)) k r q.0 q.2 refl in
    subst (λ (x : VpnRoute). IsPublishedHere h x.next_hop x.label) is (published_path h q.0 q.1)

-- ---- slices
pub address_is : (a b : Addr) → (a.0 == b.0) ≡ true → a ≡ b
address_is a b e = λ i. record { 0 = eqb-true a.0 b.0 e i }

at_from : (address : Addr) (v : LowValue) → is_at address v ≡ true → IsAttachedAt address v
at_from address (low.AttachPort port instance host node) e = address_is node address e
at_from address (low.AttachCircuit circuit service node) e = address_is node address e
at_from address (low.Instance imports) e = true≢false (sym e)
at_from address (low.Acl subnets rules) e = true≢false (sym e)
at_from address (low.ChainUse left right ls rs hops) e = true≢false (sym e)

at_to : (address : Addr) (v : LowValue) → IsAttachedAt address v → is_at address v ≡ true
at_to address (low.AttachPort port instance host node) e = eq-eqb node.0 address.0 (ap (λ (a : Addr). a.0) e)
at_to address (low.AttachCircuit circuit service node) e = eq-eqb node.0 address.0 (ap (λ (a : Addr). a.0) e)
at_to address (low.Instance imports) e = absurd e
at_to address (low.Acl subnets rules) e = absurd e
at_to address (low.ChainUse left right ls rs hops) e = absurd e

abbrev pub named : LowKey → LowValue → LowKey × LowValue
named k v = (k, v)

port_from : (feed : Map) (address : Addr) (network : ℕ) → list_any (λ (n : InstanceId). n.0 == network) (networks_at feed address) ≡ true → HasPortAt feed address network
port_from feed address network e =
    let q = from_any (λ (n : InstanceId). n.0 == network) (networks_at feed address) e in
    let p = from_filter_map (λ (e : LowKey × LowValue). port_at address e.1) q.0 (objects feed) q.1 in
    record { name = p.0.0; port = p.0.1; held = p.1; port_is = p.2 ∙ (λ i. Some (record { 0 = eqb-true q.0.0 network q.2 i })) }

port_to : (feed : Map) (address : Addr) (network : ℕ) → HasPortAt feed address network → list_any (λ (n : InstanceId). n.0 == network) (networks_at feed address) ≡ true
port_to feed address network h =
    any_in (λ (n : InstanceId). n.0 == network) (record { 0 = network }) (networks_at feed address)
    (in_filter_map (λ (e : LowKey × LowValue). port_at address e.1) (h.name, h.port) (record { 0 = network }) (objects feed) h.held h.port_is)
    (eq-eqb network network refl)

belongs_from : (feed : Map) (address : Addr) (k : LowKey) (v : LowValue) → is_in_slice feed address k v ≡ true → BelongsTo feed address k v
belongs_from feed address (key.Attach label) v e = at_from address v e
belongs_from feed address (key.Acl from to) v e = port_from feed address from e
belongs_from feed address (key.Instance n) v e = true≢false (sym e)
belongs_from feed address (key.ChainUse n) v e = true≢false (sym e)

belongs_to : (feed : Map) (address : Addr) (k : LowKey) (v : LowValue) → BelongsTo feed address k v → is_in_slice feed address k v ≡ true
belongs_to feed address (key.Attach label) v b = at_to address v b
belongs_to feed address (key.Acl from to) v b = port_to feed address from b
belongs_to feed address (key.Instance n) v b = absurd b
belongs_to feed address (key.ChainUse n) v b = absurd b

pub slice_is : (feed : Map) (address : Addr) (k : LowKey) (v : LowValue) → Member (k, v) (slice feed address) ↔ (Member (k, v) (objects feed) × BelongsTo feed address k v)
slice_is feed address k v = (
  (λ m. let f = from_filter (λ (e : LowKey × LowValue). is_in_slice feed address e.0 e.1) (k, v) (objects feed) m in (f.0, belongs_from feed address k v f.1)),
  (λ b. in_filter (λ (e : LowKey × LowValue). is_in_slice feed address e.0 e.1) (k, v) (objects feed) b.0 (belongs_to feed address k v b.1)),
)

one_node : (a b : Addr) (v : LowValue) → IsAttachedAt a v → IsAttachedAt b v → a ≡ b
one_node a b (low.AttachPort port instance host node) p q = sym p ∙ q
one_node a b (low.AttachCircuit circuit service node) p q = sym p ∙ q
one_node a b (low.Instance imports) p q = absurd p
one_node a b (low.Acl subnets rules) p q = absurd p
one_node a b (low.ChainUse left right ls rs hops) p q = absurd p

pub slices_apart : (feed : Map) (a b : Addr) → a ≢ b → (label : ℕ) (v : LowValue) → Member (key.Attach label, v) (slice feed a) → Member (key.Attach label, v) (slice feed b) → ⊥
slices_apart feed a b apart label v m n = apart (one_node a b v ((slice_is feed a (key.Attach label) v).0 m).1 ((slice_is feed b (key.Attach label) v).0 n).1)

-- ---- towards an agent
abbrev pub as_low : Key → Option LowKey
as_low (Low k) = Some k
as_low (Vpn k) = None
as_low (Row i p) = None
as_low (Publish i p) = None
as_low (Subscribe i) = None

abbrev pub as_row : Key → Option (InstanceId × Block)
as_row (Row i p) = Some (i, p)
as_row (Low k) = None
as_row (Vpn k) = None
as_row (Publish i p) = None
as_row (Subscribe i) = None

abbrev pub as_entry : Value → Option RouteEntry
as_entry (Entry r) = Some r
as_entry (Object v) = None
as_entry (Route r) = None
as_entry (Label l) = None

abbrev pub as_low_value : Value → Option LowValue
as_low_value (Object v) = Some v
as_low_value (Route r) = None
as_low_value (Entry r) = None
as_low_value (Label l) = None

pub subscribed_is : (k : Key) (i : InstanceId) → subscribed k ≡ Some i → k ≡ Subscribe i
subscribed_is (Subscribe j) i e = ap Subscribe (same_Some j i e)
subscribed_is (Low k) i e = absurd (none_some i e)
subscribed_is (Vpn k) i e = absurd (none_some i e)
subscribed_is (Row j p) i e = absurd (none_some i e)
subscribed_is (Publish j p) i e = absurd (none_some i e)

some_is : {A : Type 0} (o : Option A) → is_some o ≡ true → (x : A) × (o ≡ Some x)
some_is (Some x) e = (x, refl)
some_is None e = absurd (true≢false (sym e))

pub subscription_from : (m : Map) (i : InstanceId) → Member i (subscriptions m) → is_some (get m (Subscribe i)) ≡ true
subscription_from m i h =
    let q = from_filter_map (λ (e : Key × Value). subscribed e.0) i (entries m) h in
    ap (λ (k : Key). is_some (get m k)) (sym (subscribed_is q.0.0 i q.2)) ∙ ap is_some (get_member key_total m q.0.0 q.0.1 q.1)

pub subscription_in : (m : Map) (i : InstanceId) → is_some (get m (Subscribe i)) ≡ true → Member i (subscriptions m)
subscription_in m i h =
    let q = some_is (get m (Subscribe i)) h in
    in_filter_map (λ (e : Key × Value). subscribed e.0) (told (Subscribe i) q.0) i (entries m) (member_get key_total key_exact m (Subscribe i) q.0 q.1) refl

-- the row of a path
abbrev pub row_of_path : InstanceId → Block × Path → Key × Value
row_of_path i e = (Row i e.0, Entry (record { next_hop = e.1.next_hop; label = e.1.label }))

abbrev pub at_path : Block → Path → Block × Path
at_path prefix p = (prefix, p)

abbrev pub instance_at : InstanceId → Block → InstanceId × Block
instance_at i prefix = (i, prefix)

same_hop : (v : Value) (p q : Path) (hop : RouteEntry) → v ≡ Entry (record { next_hop = p.next_hop; label = p.label }) → p ≡ q → hop ≡ record { next_hop = q.next_hop; label = q.label } → v ≡ Entry hop
same_hop v p q hop e is h = e ∙ (λ i. Entry (record { next_hop = (is i).next_hop; label = (is i).label })) ∙ ap Entry (sym h)

module _ (h : Holdings) (a : Told) where
  abbrev slice_told : List (Key × Value)
  slice_told = map slice_entry (slice h.feed a.address)

  abbrev rows_told : List (Key × Value)
  rows_told = flat_map (rows_of h) (subscriptions a.map)

  -- what an entry of a row's key is
  row_parts : (i : InstanceId) (prefix : Block) (v : Value) → Member (told (Row i prefix) v) (slice_told ++ rows_told)
      → (p : Path) × Member i (subscriptions a.map) × (get (table h i) prefix ≡ Some p) × (v ≡ Entry (record { next_hop = p.next_hop; label = p.label }))
  row_parts i prefix v m =
      elim (in_either (told (Row i prefix) v) slice_told rows_told m) as (λ _. (p : Path) × Member i (subscriptions a.map) × (get (table h i) prefix ≡ Some p) × (v ≡ Entry (record { next_hop = p.next_hop; label = p.label }))) [
        | inl l ↦
            let q = from_map slice_entry (told (Row i prefix) v) (slice h.feed a.address) l in
            absurd (none_some q.0.0 (sym (ap (λ (e : Key × Value). as_low e.0) q.2)))
        | inr r ↦
            let q = from_flat_map (rows_of h) (told (Row i prefix) v) (subscriptions a.map) r in
            let t = from_map (row_of_path q.0) (told (Row i prefix) v) (entries (table h q.0)) q.2 in
            let at : instance_at q.0 t.0.0 ≡ instance_at i prefix = same_Some (instance_at q.0 t.0.0) (instance_at i prefix) (ap (λ (e : Key × Value). as_row e.0) t.2) in
            let held : get (table h q.0) t.0.0 ≡ Some t.0.1 = get_member prefix_total (table h q.0) t.0.0 t.0.1 t.1 in (
              t.0.1,
              subst (λ (x : InstanceId). Member x (subscriptions a.map)) (ap (λ (x : InstanceId × Block). x.0) at) q.1,
              (ap (λ (x : InstanceId × Block). get (table h x.0) x.1) (sym at) ∙ held),
              sym (ap (λ (e : Key × Value). e.1) t.2),
            )
      ]

  pub row_from : (i : InstanceId) (prefix : Block) (hop : RouteEntry) → get (wanted_by_agent h a) (Row i prefix) ≡ Some (Entry hop) → IsSubscribedRow h a i prefix hop
  row_from i prefix hop e =
      let q = row_parts i prefix (Entry hop) (from_entry key_total key_exact (Row i prefix) (Entry hop) (slice_told ++ rows_told) e) in
      record {
        subscribed = subscription_from a.map i q.1;
        path = q.0;
        row = q.2;
        hop_is = same_Some hop (record { next_hop = q.0.next_hop; label = q.0.label }) (ap as_entry q.3);
      }

  pub row_to : (i : InstanceId) (prefix : Block) (hop : RouteEntry) → IsSubscribedRow h a i prefix hop → get (wanted_by_agent h a) (Row i prefix) ≡ Some (Entry hop)
  row_to i prefix hop r =
      let there : Member (row_of_path i (at_path prefix r.path)) rows_told =
      in_flat_map (rows_of h) i (row_of_path i (at_path prefix r.path)) (subscriptions a.map) (subscription_in a.map i r.subscribed)
      (in_map (row_of_path i) (at_path prefix r.path) (entries (table h i)) (member_get prefix_total prefix_exact (table h i) prefix r.path r.row)) in
      let found = entry_in key_total (row_of_path i (at_path prefix r.path)) (slice_told ++ rows_told) (in_right (row_of_path i (at_path prefix r.path)) slice_told rows_told there) in
      let q = row_parts i prefix found.0 (from_entry key_total key_exact (Row i prefix) found.0 (slice_told ++ rows_told) found.1) in
      let one : q.0 ≡ r.path = same_Some q.0 r.path (sym q.2 ∙ r.row) in
      found.1 ∙ ap Some (same_hop found.0 q.0 r.path hop q.3 one r.hop_is)

  -- what an entry of an object's key is
  object_parts : (k : LowKey) (v : Value) → Member (told (Low k) v) (slice_told ++ rows_told) → (o : LowValue) × Member (named k o) (slice h.feed a.address) × (v ≡ Object o)
  object_parts k v m =
      elim (in_either (told (Low k) v) slice_told rows_told m) as (λ _. (o : LowValue) × Member (named k o) (slice h.feed a.address) × (v ≡ Object o)) [
        | inl l ↦
            let q = from_map slice_entry (told (Low k) v) (slice h.feed a.address) l in
            (q.0.1, subst (λ (x : LowKey). Member (named x q.0.1) (slice h.feed a.address)) (same_Some q.0.0 k (ap (λ (e : Key × Value). as_low e.0) q.2)) q.1, sym (ap (λ (e : Key × Value). e.1) q.2))
        | inr r ↦
            let q = from_flat_map (rows_of h) (told (Low k) v) (subscriptions a.map) r in
            let t = from_map (row_of_path q.0) (told (Low k) v) (entries (table h q.0)) q.2 in
            absurd (none_some k (ap (λ (e : Key × Value). as_low e.0) t.2))
      ]

  pub wanted_object : (k : LowKey) (v : Value) → get (wanted_by_agent h a) (Low k) ≡ Some v → (o : LowValue) × Member (named k o) (slice h.feed a.address) × (v ≡ Object o)
  wanted_object k v e = object_parts k v (from_entry key_total key_exact (Low k) v (slice_told ++ rows_told) e)

  pub object_from : (k : LowKey) (o : LowValue) → get (wanted_by_agent h a) (Low k) ≡ Some (Object o) → Member (named k o) (slice h.feed a.address)
  object_from k o e =
      let q = object_parts k (Object o) (from_entry key_total key_exact (Low k) (Object o) (slice_told ++ rows_told) e) in
      subst (λ (x : LowValue). Member (named k x) (slice h.feed a.address)) (sym (same_Some o q.0 (ap as_low_value q.2))) q.1

  pub object_to : (k : LowKey) (o : LowValue) → Member (named k o) (slice h.feed a.address) → get (wanted_by_agent h a) (Low k) ≡ Some (Object o)
  object_to k o m =
      let found = entry_in key_total (told (Low k) (Object o)) (slice_told ++ rows_told) (in_left (told (Low k) (Object o)) slice_told rows_told (in_map slice_entry (named k o) (slice h.feed a.address) m)) in
      let q = object_parts k found.0 (from_entry key_total key_exact (Low k) found.0 (slice_told ++ rows_told) found.1) in
      let held : (x : LowValue) → Member (named k x) (slice h.feed a.address) → get h.feed (Low k) ≡ Some (Object x) = λ x m. object_of h.feed k x ((slice_is h.feed a.address k x).0 m).0 in
      let one : Some (Object q.0) ≡ Some (Object o) = sym (held q.0 q.1) ∙ held o m in
      found.1 ∙ ap Some q.2 ∙ one
