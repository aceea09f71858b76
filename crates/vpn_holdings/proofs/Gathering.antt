-- The keys of agents, from the typed entries, and what holds of every feed that is held.
use Rattle.std.specs.Prelude.{◌≡◌, ◌≤◌, List, [], ◌∷◌, map, length}
use Rattle.std.specs.declared.cmp.Ordering.{Ordering}
use Rattle.std.specs.declared.option.Option.{Option}
use Rattle.std.specs.declared.option.Option.TheVariants.{Some, None}
use Rattle.std.specs.Cmp.{IsTotalOrder}
use Rattle.std.specs.List.{cons_option, filter_map}
use Rattle.std.specs.List.Sorted.{IsStrictlySortedBy}
use Rattle.std.specs.FinMap.{FinMap, empty, entries, get, from_entries, keys}
use Rattle.std.proofs.Common.{refl, sym, ◌∙◌, ap, subst}
use Rattle.ov_sync.specs.Embed.{moved_entry}
use Rattle.ov_sync.specs.Keyed.{map_of, Values}
use Rattle.ov_sync.proofs.Ascending.{entries-empty, entries-map_of, ascends}
use Rattle.ov_types.specs.Prefix.{Block}
use Rattle.ov_types.specs.declared.keys.UpKey.{UpKey}
use Rattle.ov_types.specs.declared.keys.UpKey.TheVariants as Up
use Rattle.ov_types.specs.declared.numbers.Label.{Label as LabelNo}
use Rattle.ov_types.specs.declared.objects.LowKey.{LowKey}
use Rattle.ov_types.specs.declared.objects.LowKey.TheVariants as key
use Rattle.ov_types.specs.declared.objects.LowValue.{LowValue}
use Rattle.ov_types.specs.declared.objects.LowValue.TheVariants as low
use Rattle.ov_types.specs.declared.vpn.VpnKey.{VpnKey}
use Rattle.ov_types.specs.declared.vpn.VpnRoute.{VpnRoute}
use Rattle.path_select.specs.NodeModel.Keys.{Key, Low, Vpn, key_cmp, of_up}
use Rattle.path_select.specs.NodeModel.Values.{Value, Label, Object, Route}
use Rattle.path_select.specs.NodeModel.Maps.{Map, object, objects, as_object}
use Rattle.path_select.specs.NodeModel.Paths.{Told}
use Rattle.path_select.specs.NodeModel.Uses.{Use, as_use}
use Rattle.path_select.proofs.NodeModel.Members.{from_filter_map, none_some}
use Rattle.path_select.proofs.NodeModel.Objects.{object_of}
use Rattle.vpn_holdings.specs.declared.holdings.Agent.{Agent}
use Rattle.vpn_holdings.specs.Gathered.{in_order, keyed, keys_told, prefix_in, prefixes_in, up_key, UsesAreInRange}
use Rattle.vpn_holdings.specs.Ranges.{Fits}
use Rattle.vpn_holdings.specs.Views.{agent_of, feed_of, low_order, peer_of, up_order, vpn_order}
use Rattle.vpn_holdings.proofs.Images.{feed-object, peer-entries, told-entries}

-- ---- keys
key_again : (k : UpKey) (label : LabelNo) → up_key (of_up k) (Label label) ≡ Some k
key_again (Up.Publish i prefix) label = refl
key_again (Up.Subscribe i) label = refl

keys_typed : (es : List (UpKey × LabelNo)) → filter_map (λ e. up_key e.0 e.1) (map (moved_entry of_up Label) es) ≡ map (λ e. e.0) es
keys_typed [] = refl
keys_typed (e ∷ es) = λ i. cons_option (key_again e.0 e.1 i) (keys_typed es i)

pub keys_are : (a : Agent) → IsStrictlySortedBy up_order (map (λ e. e.0) a.told) → keys_told (agent_of a) ≡ map (λ e. e.0) a.told
keys_are a sorted = ap (filter_map (λ (e : Key × Value). up_key e.0 e.1)) (told-entries a.told sorted) ∙ keys_typed a.told

pub none_told : (a : Told) → a.map ≡ empty → keys_told a ≡ []
none_told a e = ap (λ (m : Map). filter_map (λ (e : Key × Value). up_key e.0 e.1) (entries m)) e ∙ ap (filter_map (λ (e : Key × Value). up_key e.0 e.1)) (entries-empty {V = Value} key_cmp)

-- ---- prefixes
abbrev pub up_prefix : UpKey → Option Block
up_prefix (Up.Publish i prefix) = Some prefix
up_prefix (Up.Subscribe i) = None

prefix_again : (k : UpKey) → prefix_in (of_up k) ≡ up_prefix k
prefix_again (Up.Publish i prefix) = refl
prefix_again (Up.Subscribe i) = refl

prefixes_typed : (es : List (UpKey × LabelNo)) → filter_map (λ e. prefix_in e.0) (map (moved_entry of_up Label) es) ≡ filter_map (λ e. up_prefix e.0) es
prefixes_typed [] = refl
prefixes_typed (e ∷ es) = λ i. cons_option (prefix_again e.0 i) (prefixes_typed es i)

pub prefixes_are : (a : Agent) → IsStrictlySortedBy up_order (map (λ e. e.0) a.told) → prefixes_in (agent_of a).map ≡ filter_map (λ e. up_prefix e.0) a.told
prefixes_are a sorted = ap (filter_map (λ (e : Key × Value). prefix_in e.0)) (told-entries a.told sorted) ∙ prefixes_typed a.told

routes_typed : (es : List (VpnKey × VpnRoute)) → filter_map (λ e. prefix_in e.0) (map (moved_entry Vpn Route) es) ≡ map (λ e. e.0.prefix) es
routes_typed [] = refl
routes_typed (e ∷ es) = ap (λ (ps : List Block). e.0.prefix ∷ ps) (routes_typed es)

pub routes_are : (es : List (VpnKey × VpnRoute)) → IsStrictlySortedBy vpn_order (map (λ e. e.0) es) → prefixes_in (peer_of es) ≡ map (λ e. e.0.prefix) es
routes_are es sorted = ap (filter_map (λ (e : Key × Value). prefix_in e.0)) (peer-entries es sorted) ∙ routes_typed es

-- the keys of a map that has each once
pub in_order_are : {K : Type 0} (R : K → K → Ordering) → IsTotalOrder R → (xs : List K) (es : List (K × Unit {0}))
    → IsStrictlySortedBy R (map (λ e. e.0) es) → map_of R es ≡ from_entries (map keyed xs) → map (λ e. e.0) es ≡ in_order R xs
in_order_are {K} R o xs es sorted is =
    ap (map (λ (e : K × Unit {0}). e.0)) (sym (entries-map_of R o es (ascends R es sorted))) ∙ ap (λ (m : FinMap R (Unit {0})). keys m) is

-- ---- ranges
use_parts : (k : LowKey) (v : LowValue) (u : Use) → as_use k v ≡ Some u → Fits k v → (u.number ≤ 3071) × (u.services ≤ 15)
use_parts (key.ChainUse n) (low.ChainUse left right ls rs hops) u e f =
    subst (λ (u : Use). (u.number ≤ 3071) × (u.services ≤ 15)) (same_use u e) f
  where
    same_use : (u : Use) → as_use (key.ChainUse n) (low.ChainUse left right ls rs hops) ≡ Some u
        → ◌≡◌ {A = Use} (record { number = n; left = left; right = right; left_subnets = ls; right_subnets = rs; services = length hops }) u
    same_use u e = cc
use_parts (key.ChainUse n) (low.Instance is) u e f = absurd (none_some u e)
use_parts (key.ChainUse n) (low.AttachPort p i a b) u e f = absurd (none_some u e)
use_parts (key.ChainUse n) (low.AttachCircuit p i a) u e f = absurd (none_some u e)
use_parts (key.ChainUse n) (low.Acl s r) u e f = absurd (none_some u e)
use_parts (key.Instance n) v u e f = absurd (none_some u e)
use_parts (key.Attach n) v u e f = absurd (none_some u e)
use_parts (key.Acl n m) v u e f = absurd (none_some u e)

pub uses_in_range : (es : List (LowKey × LowValue)) (feed : Map) → feed_of es ≡ feed → Values Fits (map_of low_order es) → UsesAreInRange feed
uses_in_range es feed is fit u m =
    let q = from_filter_map (λ (e : LowKey × LowValue). as_use e.0 e.1) u (objects feed) m in
    let held = in_feed q.0.0 q.0.1 (object_of feed q.0.0 q.0.1 q.1) in
    use_parts q.0.0 q.0.1 u q.2 (fit q.0.0 q.0.1 held)
  where
    in_feed : (k : LowKey) (v : LowValue) → get feed (Low k) ≡ Some (Object v) → get (map_of low_order es) k ≡ Some v
    in_feed k v e = sym (feed-object es k) ∙ ap (λ (f : Map). object f k) is ∙ ap as_object e
