-- What is wanted at one key.
use Rattle.std.specs.Prelude.{◌≡◌, ◌==◌, ◌&&◌, ℕ, List, [], ◌∷◌, ◌++◌, map, Bool, true, false, cond, Some, None, is_some}
use Rattle.std.specs.declared.option.Option.{Option}
use Rattle.std.specs.Option.{option_map}
use Rattle.std.specs.List.{flat_map}
use Rattle.std.specs.FinMap.{entries, find, get, get-from_entries}
use Rattle.std.specs.Ordering.{eq_by_cmp, is_eq}
use Rattle.std.specs.Cmp.{Equal-is, tied_itself}
use Rattle.std.proofs.lemmas.Bool.{and_parts, eqb-true, true≢false}
use Rattle.std.proofs.lemmas.Option.{same_Some}
use Rattle.std.proofs.Common.{refl, sym, ◌∙◌, ap, subst, inl, inr, arith}
use Rattle.ov_types.specs.Prefix.{Block}
use Rattle.ov_types.specs.declared.numbers.InstanceId.{InstanceId}
use Rattle.ov_types.specs.declared.objects.LowKey.{LowKey}
use Rattle.ov_types.specs.declared.objects.LowValue.{LowValue}
use Rattle.ov_types.specs.declared.prefix.Addr.{Addr}
use Rattle.ov_types.specs.declared.vpn.VpnKey.{VpnKey}
use Rattle.node_routes.specs.NodeModel.Keys.{Key, Low, Publish, Row, Subscribe, Vpn, key_cmp}
use Rattle.node_routes.specs.NodeModel.Maps.{Map, as_object, object, objects}
use Rattle.node_routes.specs.NodeModel.Members.{Member}
use Rattle.node_routes.specs.NodeModel.Paths.{Holdings, Path, Told, own_paths}
use Rattle.node_routes.specs.NodeModel.Reaching.{reoriginated_paths}
use Rattle.node_routes.specs.NodeModel.Tables.{same_prefix, table, table_row}
use Rattle.node_routes.specs.NodeModel.Values.{Entry, Label, Object, Route, Value}
use Rattle.node_routes.specs.NodeModel.Wants.{is_in_slice, route_entry, rows_of, slice, slice_entry, subscriptions, wanted_by_agent, wanted_by_peers}
use Rattle.node_routes.proofs.NodeModel.Members.{from_entry, from_filter, from_flat_map, from_map, get_member, iff_same, in_either, in_filter, none_some}
use Rattle.node_routes.proofs.NodeModel.Objects.{in_objects, object_of}
use Rattle.node_routes.proofs.NodeModel.Orders.{key_exact, key_total, prefix_same, prefix_total, same_prefix-from}
use Rattle.node_routes.proofs.NodeModel.Wanted.{as_low, as_row, row_of_path, row_to, subscription_from, wanted_object, object_to}
use Rattle.vpn_tables.specs.At.{row_at}
use Rattle.vpn_tables.specs.Listing.{in_slice, sliced}
use Rattle.vpn_tables.specs.TouchedKeys.{first_keyed, path_key, same_key}
use Rattle.control_wants.specs.Entries.{hop_of}

-- ---- towards peers
abbrev pub told_value : Path → Value
told_value p = Route (record { next_hop = p.next_hop; label = p.label; targets = p.targets })

abbrev vpn_in : Key → VpnKey → VpnKey
vpn_in (Vpn k) d = k
vpn_in (Low k) d = d
vpn_in (Row i q) d = d
vpn_in (Publish i q) d = d
vpn_in (Subscribe i) d = d

tied : (k : VpnKey) (p : Path) → eq_by_cmp key_cmp (Vpn k) (Vpn (path_key p)) ≡ same_key k p
tied k p =
    iff_same (eq_by_cmp key_cmp (Vpn k) (Vpn (path_key p))) (same_key k p)
    (λ e.
    let is : k ≡ path_key p = ap (λ x. vpn_in x k) (key_exact (Vpn k) (Vpn (path_key p)) ((Equal-is (key_cmp (Vpn k) (Vpn (path_key p)))).0 e)) in
    subst (λ (x : VpnKey). same_key x p ≡ true) (sym is) (λ j. itself p.rd.0 j && same_prefix-from p.prefix p.prefix refl j))
    (λ t.
    let parts = and_parts (p.rd.0 == k.rd.0) (same_prefix p.prefix k.prefix) t in
    let is : path_key p ≡ k = (λ j. record { rd = record { 0 = eqb-true p.rd.0 k.rd.0 parts.0 j }; prefix = prefix_same p.prefix k.prefix parts.1 j }) in
    ap is_eq (ap (λ (x : VpnKey). key_cmp (Vpn k) (Vpn x)) is ∙ tied_itself key_total (Vpn k)))
  where
    itself : (n : ℕ) → (n == n) ≡ true
    itself n = grind arith

found_route : (k : VpnKey) (ps : List Path) → find key_cmp (Vpn k) (map route_entry ps) ≡ option_map told_value (first_keyed k ps)
found_route k [] = refl
found_route k (p ∷ ps) =
    (λ j. cond (tied k p j) (Some (told_value p)) (found_route k ps j))
    ∙ elim (same_key k p) as (λ b. cond b (Some (told_value p)) (option_map told_value (first_keyed k ps)) ≡ option_map told_value (cond b (Some p) (first_keyed k ps))) [ true ↦ refl | false ↦ refl ]

pub route_wanted : (h : Holdings) (k : VpnKey) (o : Option Path) → o ≡ first_keyed k (own_paths h ++ reoriginated_paths h) → option_map told_value o ≡ get (wanted_by_peers h) (Vpn k)
route_wanted h k o e = ap (option_map told_value) e ∙ sym (get-from_entries key_total (map route_entry (own_paths h ++ reoriginated_paths h)) (Vpn k) ∙ found_route k (own_paths h ++ reoriginated_paths h))

-- ---- towards an agent
module _ (h : Holdings) (a : Told) where
  abbrev told_at : Key → Value → Key × Value
  told_at k v = (k, v)

  abbrev at_row : InstanceId → Block → InstanceId × Block
  at_row i q = (i, q)

  row_parts : (i : InstanceId) (q : Block) (v : Value) → get (wanted_by_agent h a) (Row i q) ≡ Some v
      → (p : Path) × (is_some (get a.map (Subscribe i)) ≡ true) × (get (table h i) q ≡ Some p) × (v ≡ Entry (record { next_hop = p.next_hop; label = p.label }))
  row_parts i q v e =
      let slice_told = map slice_entry (slice h.feed a.address) in
      let rows_told = flat_map (rows_of h) (subscriptions a.map) in
      let m : Member (told_at (Row i q) v) (slice_told ++ rows_told) = from_entry key_total key_exact (Row i q) v (slice_told ++ rows_told) e in
      elim (in_either (told_at (Row i q) v) slice_told rows_told m) as (λ _. (p : Path) × (is_some (get a.map (Subscribe i)) ≡ true) × (get (table h i) q ≡ Some p) × (v ≡ Entry (record { next_hop = p.next_hop; label = p.label }))) [
        | inl l ↦
            let s = from_map slice_entry (told_at (Row i q) v) (slice h.feed a.address) l in
            absurd (none_some s.0.0 (sym (ap (λ (e : Key × Value). as_low e.0) s.2)))
        | inr r ↦
            let s = from_flat_map (rows_of h) (told_at (Row i q) v) (subscriptions a.map) r in
            let t = from_map (row_of_path s.0) (told_at (Row i q) v) (entries (table h s.0)) s.2 in
            let at : at_row s.0 t.0.0 ≡ at_row i q = same_Some (at_row s.0 t.0.0) (at_row i q) (ap (λ (e : Key × Value). as_row e.0) t.2) in (
              t.0.1,
              subscription_from a.map i (subst (λ (x : InstanceId). Member x (subscriptions a.map)) (ap (λ (x : InstanceId × Block). x.0) at) s.1),
              (ap (λ (x : InstanceId × Block). get (table h x.0) x.1) (sym at) ∙ get_member prefix_total (table h s.0) t.0.0 t.0.1 t.1),
              sym (ap (λ (e : Key × Value). e.1) t.2),
            )
      ]

  pub no_row_wanted : (i : InstanceId) (q : Block) → is_some (get a.map (Subscribe i)) ≡ false → None ≡ get (wanted_by_agent h a) (Row i q)
  no_row_wanted i q none = by_value (get (wanted_by_agent h a) (Row i q)) refl
    where
      by_value : (o : Option Value) → get (wanted_by_agent h a) (Row i q) ≡ o → None ≡ get (wanted_by_agent h a) (Row i q)
      by_value None e = sym e
      by_value (Some v) e = absurd (true≢false (sym (row_parts i q v e).1 ∙ none))

  pub row_wanted : (i : InstanceId) (q : Block) → is_some (get a.map (Subscribe i)) ≡ true → option_map Entry (option_map hop_of (row_at h i q)) ≡ get (wanted_by_agent h a) (Row i q)
  row_wanted i q yes_it_is = by_path (get (table h i) q) refl
    where
      by_value : get (table h i) q ≡ None → (o : Option Value) → get (wanted_by_agent h a) (Row i q) ≡ o → None ≡ get (wanted_by_agent h a) (Row i q)
      by_value none None e = sym e
      by_value none (Some v) e = let r = row_parts i q v e in absurd (none_some r.0 (sym none ∙ r.2))

      by_path : (o : Option Path) → get (table h i) q ≡ o → option_map Entry (option_map hop_of (option_map table_row (get (table h i) q))) ≡ get (wanted_by_agent h a) (Row i q)
      by_path None e = ap (λ (o : Option Path). option_map Entry (option_map hop_of (option_map table_row o))) e ∙ by_value e (get (wanted_by_agent h a) (Row i q)) refl
      by_path (Some p) e =
          ap (λ (o : Option Path). option_map Entry (option_map hop_of (option_map table_row o))) e
          ∙ sym (row_to h a i q (record { next_hop = p.next_hop; label = p.label }) (record { subscribed = yes_it_is; path = p; row = e; hop_is = refl }))

  -- ---- an object of the slice
  pub object_wanted : (k : LowKey) (o : Option LowValue) → ((v : LowValue) → o ≡ Some v → Member (k, v) (slice h.feed a.address)) → ((v : LowValue) → Member (k, v) (slice h.feed a.address) → o ≡ Some v)
      → option_map Object o ≡ get (wanted_by_agent h a) (Low k)
  object_wanted k o to from = by_object o refl
    where
      by_value : o ≡ None → (w : Option Value) → get (wanted_by_agent h a) (Low k) ≡ w → None ≡ get (wanted_by_agent h a) (Low k)
      by_value none None e = sym e
      by_value none (Some v) e = let r = wanted_object h a k v e in absurd (none_some r.0 (sym none ∙ from r.0 r.1))

      by_object : (x : Option LowValue) → o ≡ x → option_map Object o ≡ get (wanted_by_agent h a) (Low k)
      by_object None e = ap (option_map Object) e ∙ by_value e (get (wanted_by_agent h a) (Low k)) refl
      by_object (Some v) e = ap (option_map Object) e ∙ sym (object_to h a k v (to v e))

-- ---- the object of a key in a slice
held_object : (o : Option Value) (v : LowValue) → as_object o ≡ Some v → o ≡ Some (Object v)
held_object (Some (Object w)) v e = ap (λ (x : LowValue). Some (Object x)) (same_Some w v e)
held_object (Some (Route r)) v e = absurd (none_some v e)
held_object (Some (Entry r)) v e = absurd (none_some v e)
held_object (Some (Label l)) v e = absurd (none_some v e)
held_object None v e = absurd (none_some v e)

abbrev entry_of : LowKey → LowValue → LowKey × LowValue
entry_of k v = (k, v)

abbrev passes : Map → Addr → LowKey × LowValue → Bool
passes feed address e = is_in_slice feed address e.0 e.1

sliced_to : (feed : Map) (address : Addr) (k : LowKey) (v : LowValue) → sliced feed address k ≡ Some v → Member (entry_of k v) (slice feed address)
sliced_to feed address k v e = by_held (object feed k) refl e
  where
    by_test : (w : LowValue) → object feed k ≡ Some w → (b : Bool) → is_in_slice feed address k w ≡ b → cond b (Some w) None ≡ Some v → Member (entry_of k v) (slice feed address)
    by_test w is true t e =
        subst (λ (x : LowValue). Member (entry_of k x) (slice feed address)) (same_Some w v e)
        (in_filter (passes feed address) (entry_of k w) (objects feed) (in_objects feed k w (held_object (get feed (Low k)) w is)) t)
    by_test w is false t e = absurd (none_some v e)

    by_held : (o : Option LowValue) → object feed k ≡ o → in_slice feed address k o ≡ Some v → Member (entry_of k v) (slice feed address)
    by_held None is e = absurd (none_some v e)
    by_held (Some w) is e = by_test w is (is_in_slice feed address k w) refl e

sliced_from : (feed : Map) (address : Addr) (k : LowKey) (v : LowValue) → Member (entry_of k v) (slice feed address) → sliced feed address k ≡ Some v
sliced_from feed address k v m =
    let f = from_filter (passes feed address) (entry_of k v) (objects feed) m in
    ap (in_slice feed address k) (ap as_object (object_of feed k v f.0)) ∙ ap (λ b. cond b (Some v) None) f.1

pub sliced_wanted : (h : Holdings) (a : Told) (k : LowKey) (address : Addr) (o : Option LowValue) → address ≡ a.address → o ≡ sliced h.feed address k → option_map Object o ≡ get (wanted_by_agent h a) (Low k)
sliced_wanted h a k address o at is =
    ap (option_map Object) (is ∙ ap (λ (x : Addr). sliced h.feed x k) at)
    ∙ object_wanted h a k (sliced h.feed a.address k) (sliced_to h.feed a.address k) (sliced_from h.feed a.address k)
