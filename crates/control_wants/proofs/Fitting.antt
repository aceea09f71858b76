-- What is wanted can be told where what is held can.
use Rattle.std.specs.Prelude.{◌≡◌, ◌≤◌, ◌<◌, ◌^◌, ◌+◌, ◌*◌, ◌-◌, ◌&&◌, ℕ, suc, List, [], ◌∷◌, ◌++◌, map, length, Bool, true, false, nat_le, is_some, IsTrue}
use Rattle.std.specs.declared.option.Option.{Option}
use Rattle.std.specs.declared.option.Option.TheVariants.{Some, None}
use Rattle.std.specs.List.{AllByRecursion, filter, filter_map, flat_map, enumerate_from}
use Rattle.std.specs.FinMap.{get, entries}
use Rattle.std.proofs.lemmas.Bool.{and_parts, leb-true, true≢false}
use Rattle.std.proofs.lemmas.Grind.{common_steps}
use Rattle.std.proofs.lemmas.Option.{same_Some}
use Rattle.std.proofs.Common.{refl, sym, ◌∙◌, ap, subst, inl, inr, arith}
use Rattle.ov_sync.specs.Keyed.{Values}
use Rattle.ov_types.specs.Prefix.{Block}
use Rattle.ov_types.specs.Targets.{is_target}
use Rattle.ov_types.specs.declared.numbers.InstanceId.{InstanceId}
use Rattle.ov_types.specs.declared.numbers.Label.{Label as LabelNo}
use Rattle.ov_types.specs.declared.numbers.ServiceNo.{ServiceNo}
use Rattle.ov_types.specs.declared.objects.LowKey.{LowKey}
use Rattle.ov_types.specs.declared.objects.LowKey.TheVariants as key
use Rattle.ov_types.specs.declared.objects.LowValue.{LowValue}
use Rattle.ov_types.specs.declared.objects.LowValue.TheVariants as low
use Rattle.ov_types.specs.declared.prefix.Addr.{Addr}
use Rattle.ov_types.specs.declared.vpn.VpnKey.{VpnKey}
use Rattle.ov_types.specs.declared.vpn.VpnRoute.{VpnRoute}
use Rattle.route_targets.specs.Numbers.{target_of}
use Rattle.node_core.specs.ItemWire.Ranges.{is_in_range, is_instance, is_attached_label}
use Rattle.node_core.specs.ItemWire.Entries.{is_from_to}
use Rattle.node_core.specs.ItemWire.Item.{Item}
use Rattle.node_core.specs.ItemWire.Item.TheVariants as I
use Rattle.node_core.specs.Told.{AllFit, Fits}
use Rattle.node_routes.specs.NodeModel.Members.{Member}
use Rattle.node_routes.specs.NodeModel.Keys.{Key, Low, Vpn, Row, Publish, Subscribe}
use Rattle.node_routes.specs.NodeModel.Values.{Value, Object, Route, Entry, Label}
use Rattle.node_routes.specs.NodeModel.Maps.{Map, objects}
use Rattle.node_routes.specs.NodeModel.Uses.{Use, as_use, imports, uses}
use Rattle.node_routes.specs.NodeModel.Paths.{Holdings, Told, Path, IsPublishedHere, has_target, own_paths, peer_path, peer_paths, received}
use Rattle.node_routes.specs.NodeModel.Reaching.{Side, circuit_at, hop_at, reoriginated_paths}
use Rattle.node_routes.specs.NodeModel.Tables.{paths_of, table}
use Rattle.node_routes.specs.NodeModel.Wants.{route_entry, rows_of, slice, slice_entry, subscriptions, wanted_by_agent, wanted_by_peers}
use Rattle.node_routes.proofs.NodeModel.Members.{none_some, in_either, from_map, from_filter, from_filter_map, from_flat_map, get_member, from_entry}
use Rattle.node_routes.proofs.NodeModel.Objects.{object_of, side_use}
use Rattle.node_routes.proofs.NodeModel.Orders.{key_total, key_exact, prefix_total}
use Rattle.node_routes.proofs.NodeModel.Routes.{own_route_from, reoriginated_from, published_here}
use Rattle.node_routes.proofs.NodeModel.Selection.{selected_least}
use Rattle.node_routes.proofs.NodeModel.Wanted.{row_of_path, slice_is, subscription_from}
use Rattle.node_routes.specs.Told.{IsWritable}
use Rattle.control_wants.specs.Held.{HoldingsFit, RouteFits}

-- ---- members of what is held
pub all_at : {X : Type 0} (P : X → Type 0) (x : X) (xs : List X) → AllByRecursion P xs → Member x xs → P x
all_at P x [] all m = absurd m
all_at P x (y ∷ xs) all (inl e) = subst P e all.0
all_at P x (y ∷ xs) all (inr m) = all_at P x xs all.1 m

pub numbered : {X : Type 0} (n : ℕ) (xs : List X) (p : ℕ × X) → Member p (enumerate_from n xs) → Member p.1 xs
numbered n [] p m = absurd m
numbered n (x ∷ xs) p (inl e) = inl (λ i. (e i).1)
numbered n (x ∷ xs) p (inr m) = inr (numbered (n + 1) xs p m)

-- ---- numbers within their ranges
pub within : (low high n : ℕ) → is_from_to low high n ≡ true → n ≤ high
within low high n e = leb-true n high (and_parts (nat_le low n) (nat_le n high) e).1

pub instance_small : (i : InstanceId) → IsTrue (is_instance i.0) → i.0 < 2 ^ 16
instance_small i h = let small : i.0 ≤ 65535 = within 1 65535 i.0 h in omega arith

label_small : (l : LabelNo) → IsTrue (is_attached_label l.0) → l.0 < 2 ^ 20
label_small l h = let small : l.0 ≤ 655358 = within 16 655358 l.0 h in omega arith

targets_are : (asn : ℕ) (i : InstanceId) → asn < 2 ^ 32 → i.0 < 2 ^ 16 → IsTrue (is_target (target_of asn i).0)
targets_are asn i a h = grind (arith, common_steps)

-- ---- publications
publication : (agents : List Told) (a : Told) (i : InstanceId) (prefix : Block) (l : LabelNo) → AllByRecursion (λ (a : Told). AllFit a.map) agents → Member a agents
    → get a.map (Publish i prefix) ≡ Some (Label l) → (i.0 < 2 ^ 16) × (l.0 < 2 ^ 20)
publication agents a i prefix l fit m e =
    let f = all_at (λ (a : Told). AllFit a.map) a agents fit m (Publish i prefix) (Label l) e in
    (instance_small i f.0, label_small l f.1)

-- ---- uses
second : (a b c d e f g : Bool) → (a && b && c && d && e && f && g) ≡ true → b ≡ true
second a b c d e f g h =
    let upto_f = (and_parts (a && b && c && d && e && f) g h).0 in
    let upto_e = (and_parts (a && b && c && d && e) f upto_f).0 in
    let upto_d = (and_parts (a && b && c && d) e upto_e).0 in
    let upto_c = (and_parts (a && b && c) d upto_d).0 in
    (and_parts a b (and_parts (a && b) c upto_c).0).1

services : (hops : List (ServiceNo × Addr)) (left right : InstanceId) (ls rs : List Block) (n : ℕ) (item : Item) → I.Use hops left ls right rs n ≡ item → IsTrue (is_in_range item) → length hops ≤ 15
services hops left right ls rs n item is h = within 1 15 (length hops) (second _ _ _ _ _ _ _ (ap is_in_range is ∙ h))

use_parts : (k : LowKey) (v : LowValue) (u : Use) → as_use k v ≡ Some u → Fits (Low k) (Object v) → (u.number ≤ 3071) × (u.services ≤ 15)
use_parts (key.ChainUse n) (low.ChainUse left right ls rs hops) u e f =
    let is : ◌≡◌ {A = Use} (record { number = n; left = left; right = right; left_subnets = ls; right_subnets = rs; services = length hops }) u = same_Some _ u e in
    let number : n ≤ 3071 = leb-true n 3071 f.0 in (
      subst (λ (u : Use). u.number ≤ 3071) is number,
      subst (λ (u : Use). u.services ≤ 15) is (services hops left right ls rs n f.1.item (same_Some _ f.1.item f.1.is) f.1.writable.in_range),
    )
use_parts (key.ChainUse n) (low.Instance is) u e f = absurd (none_some u e)
use_parts (key.ChainUse n) (low.AttachPort p i a b) u e f = absurd (none_some u e)
use_parts (key.ChainUse n) (low.AttachCircuit p i a) u e f = absurd (none_some u e)
use_parts (key.ChainUse n) (low.Acl s r) u e f = absurd (none_some u e)
use_parts (key.Instance n) v u e f = absurd (none_some u e)
use_parts (key.Attach n) v u e f = absurd (none_some u e)
use_parts (key.Acl n m) v u e f = absurd (none_some u e)

pub use_fits : (feed : Map) (u : Use) → AllFit feed → Member u (uses feed) → (u.number ≤ 3071) × (u.services ≤ 15)
use_fits feed u fit m =
    let q = from_filter_map (λ (e : LowKey × LowValue). as_use e.0 e.1) u (objects feed) m in
    use_parts q.0.0 q.0.1 u q.2 (fit (Low q.0.0) (Object q.0.1) (object_of feed q.0.0 q.0.1 q.1))

pub hop_small : (s : Side) (d : ℕ) → s.chain.number ≤ 3071 → s.chain.services ≤ 15 → d ≤ s.chain.services → (hop_at s d).0 < 2 ^ 16
hop_small s d number services h =
    elim s.is_right as (λ b. (hop_at (record { chain = s.chain; is_right = b }) d).0 < 2 ^ 16) [
      | true ↦ bound s.chain.number (s.chain.services - d) number (omega arith)
      | false ↦ bound s.chain.number d number (omega arith)
    ]
  where
    bound : (u j : ℕ) → u ≤ 3071 → j ≤ 15 → 16384 + 16 * u + j < 2 ^ 16
    bound u j a b = omega arith

-- ---- towards peers
record IsTellable (asn : ℕ) (p : Path) : Type 0 where
  instance : InstanceId
  small : instance.0 < 2 ^ 16
  targets : p.targets ≡ target_of asn instance ∷ []
  label : p.label.0 < 2 ^ 20

module _ (h : Holdings) (fit : HoldingsFit h) where
  own_tellable : (p : Path) → Member p (own_paths h) → IsTellable h.asn p
  own_tellable p m =
      let o = own_route_from h p m in
      let q = publication h.agents o.agent o.instance p.prefix p.label fit.agents o.told o.publishes in
      record { instance = o.instance; small = q.0; targets = o.targets; label = q.1 }

  led_tellable : (p : Path) → Member p (reoriginated_paths h) → IsTellable h.asn p
  led_tellable p m =
      let o = reoriginated_from h p m in
      let u = use_fits h.feed o.side.chain fit.feed (side_use h.feed o.side o.held) in
      let by : IsPublishedHere h p.next_hop p.label = published_here h (circuit_at o.side (suc o.depth)) p.next_hop p.label o.published in
      record {
        instance = hop_at o.side (suc o.depth);
        small = hop_small o.side (suc o.depth) u.0 u.1 (next o.depth o.side.chain.services o.within);
        targets = o.targets;
        label = (publication h.agents by.agent by.instance by.prefix p.label fit.agents by.told by.publishes).1;
      }
    where
      next : (d n : ℕ) → d < n → suc d ≤ n
      next d n h = omega arith

  tellable : (p : Path) → Member p (own_paths h ++ reoriginated_paths h) → IsTellable h.asn p
  tellable p m = elim (in_either p (own_paths h) (reoriginated_paths h) m) as (λ _. IsTellable h.asn p) [ inl l ↦ own_tellable p l | inr r ↦ led_tellable p r ]

as_route : Value → Option VpnRoute
as_route (Route r) = Some r
as_route (Object v) = None
as_route (Entry r) = None
as_route (Label l) = None

told_route : Path → VpnRoute
told_route p = record { next_hop = p.next_hop; label = p.label; targets = p.targets }

writable : (asn : ℕ) (p : Path) → asn < 2 ^ 32 → IsTellable asn p → IsWritable (told_route p)
unfolding told_route
writable asn p small t = record {
  few = subst (λ (l : List _). length l ≤ 31) (sym t.targets) (omega arith);
  targets = subst (λ (l : List _). AllByRecursion (λ t. IsTrue (is_target t.0)) l) (sym t.targets) (targets_are asn t.instance small t.small, tt);
  label = t.label;
}

pub peers_fit : (h : Holdings) → h.asn < 2 ^ 32 → HoldingsFit h → (k : VpnKey) (r : VpnRoute) → get (wanted_by_peers h) (Vpn k) ≡ Some (Route r) → IsWritable r
unfolding told_route as_route
peers_fit h small fit k r e =
    let m = from_entry key_total key_exact (Vpn k) (Route r) (map route_entry (own_paths h ++ reoriginated_paths h)) e in
    let q = from_map route_entry (Vpn k, Route r) (own_paths h ++ reoriginated_paths h) m in
    subst IsWritable (same_Some (told_route q.0) r (ap (λ (e : Key × Value). as_route e.1) q.2)) (writable h.asn q.0 small (tellable h fit q.0 q.1))

-- ---- towards an agent
route_fits : (session : ℕ) (k : Key) (v : Value) (p : Path) → peer_path session k v ≡ Some p → RouteFits k v → p.label.0 < 2 ^ 20
route_fits session (Vpn k) (Route r) p e f = subst (λ (p : Path). p.label.0 < 2 ^ 20) (same_Some _ p e) f
route_fits session (Vpn k) (Object v) p e f = absurd f
route_fits session (Vpn k) (Entry r) p e f = absurd f
route_fits session (Vpn k) (Label l) p e f = absurd f
route_fits session (Low k) v p e f = absurd f
route_fits session (Row i prefix) v p e f = absurd f
route_fits session (Publish i prefix) v p e f = absurd f
route_fits session (Subscribe i) v p e f = absurd f

peer_label : (h : Holdings) (p : Path) → AllByRecursion (Values RouteFits) h.peers → Member p (peer_paths h) → p.label.0 < 2 ^ 20
peer_label h p fit m =
    let q = from_flat_map (λ (p : ℕ × Map). filter_map (λ e. peer_path p.0 e.0 e.1) (entries p.1)) p (enumerate_from 1 h.peers) m in
    let e = from_filter_map (λ (e : Key × Value). peer_path q.0.0 e.0 e.1) p (entries q.0.1) q.2 in
    route_fits q.0.0 e.0.0 e.0.1 p e.2
    (all_at (Values RouteFits) q.0.1 h.peers fit (numbered 1 h.peers q.0 q.1) e.0.0 e.0.1 (get_member key_total q.0.1 e.0.0 e.0.1 e.1))

path_label : (h : Holdings) (i : InstanceId) (p : Path) → HoldingsFit h → Member p (paths_of h i) → p.label.0 < 2 ^ 20
path_label h i p fit m =
    elim (in_either p (received h i) (filter (has_target (target_of h.asn i ∷ [])) (reoriginated_paths h)) m) as (λ _. p.label.0 < 2 ^ 20) [
      | inl l ↦
          let q = from_filter (has_target (map (target_of h.asn) (imports h.feed i))) p (own_paths h ++ peer_paths h) l in
          elim (in_either p (own_paths h) (peer_paths h) q.0) as (λ _. p.label.0 < 2 ^ 20) [
            | inl own ↦ (own_tellable h fit p own).label
            | inr told ↦ peer_label h p fit.peers told
          ]
      | inr r ↦ (led_tellable h fit p (from_filter (has_target (target_of h.asn i ∷ [])) p (reoriginated_paths h) r).0).label
    ]

subscribed_fits : (i : InstanceId) (o : Option Value) → is_some o ≡ true → ((v : Value) → o ≡ Some v → Fits (Subscribe i) v) → IsTrue (is_instance i.0)
subscribed_fits i None t f = absurd (true≢false (sym t))
subscribed_fits i (Some (Label l)) t f = (f (Label l) refl).0
subscribed_fits i (Some (Object v)) t f = absurd (f (Object v) refl)
subscribed_fits i (Some (Route r)) t f = absurd (f (Route r) refl)
subscribed_fits i (Some (Entry r)) t f = absurd (f (Entry r) refl)

row_label : (n : ℕ) → n < 2 ^ 20 → n ≤ 1048575
row_label n h = omega arith

pub agents_fit : (h : Holdings) (a : Told) → HoldingsFit h → AllFit a.map → AllFit (wanted_by_agent h a)
agents_fit h a fit told k v e =
    let m = from_entry key_total key_exact k v (map slice_entry (slice h.feed a.address) ++ flat_map (rows_of h) (subscriptions a.map)) e in
    elim (in_either (k, v) (map slice_entry (slice h.feed a.address)) (flat_map (rows_of h) (subscriptions a.map)) m) as (λ _. Fits k v) [
      | inl l ↦ object_fits l
      | inr r ↦ row_fits r
    ]
  where
    object_fits : Member (k, v) (map slice_entry (slice h.feed a.address)) → Fits k v
    object_fits m =
        let q = from_map slice_entry (k, v) (slice h.feed a.address) m in
        subst (λ (e : Key × Value). Fits e.0 e.1) q.2
        (fit.feed (Low q.0.0) (Object q.0.1) (object_of h.feed q.0.0 q.0.1 ((slice_is h.feed a.address q.0.0 q.0.1).0 q.1).0))

    row_fits : Member (k, v) (flat_map (rows_of h) (subscriptions a.map)) → Fits k v
    row_fits m =
        let q = from_flat_map (rows_of h) (k, v) (subscriptions a.map) m in
        let t = from_map (row_of_path q.0) (k, v) (entries (table h q.0)) q.2 in
        let least = selected_least (paths_of h q.0) t.0.0 t.0.1 (get_member prefix_total (table h q.0) t.0.0 t.0.1 t.1) in
        subst (λ (e : Key × Value). Fits e.0 e.1) t.2 (
          subscribed_fits q.0 (get a.map (Subscribe q.0)) (subscription_from a.map q.0 q.1) (told (Subscribe q.0)),
          row_label t.0.1.label.0 (path_label h q.0 t.0.1 fit least.member),
        )
