-- What a control node wants at an agent, in the compiled holdings, and what the agent makes of it.
use Rattle.std.specs.FinMap.{entries, get}
use Rattle.std.specs.List.{flat_map}
use Rattle.std.specs.Option.{option_map}
use Rattle.std.specs.Prelude.{List, map, ℕ, ◌++◌, ◌≡◌}
use Rattle.std.specs.declared.option.Option.TheVariants.{None, Some}
use Rattle.std.specs.declared.option.Option.{Option}
use Rattle.std.proofs.Common.{ap, inl, inr, refl, subst, sym, ◌∙◌}
use Rattle.std.proofs.lemmas.Option.{same_Some}
use Rattle.ov_types.specs.Prefix.{Block}
use Rattle.ov_types.specs.declared.numbers.InstanceId.{InstanceId}
use Rattle.ov_types.specs.declared.objects.LowKey.{LowKey}
use Rattle.ov_types.specs.declared.objects.LowValue.{LowValue}
use Rattle.ov_types.specs.declared.prefix.Addr.{Addr}
use Rattle.ov_types.specs.declared.rows.Entry.{Entry as RouteEntry}
use Rattle.ov_types.specs.declared.rows.TableRow.{TableRow}
use Rattle.node_laws.specs.NodeModel.Agent.{needed_by, publication}
use Rattle.node_laws.specs.NodeModel.Keys.{Key, Low, Publish, Row, Subscribe}
use Rattle.node_laws.specs.NodeModel.Maps.{Map, objects}
use Rattle.node_laws.specs.NodeModel.Members.{Member}
use Rattle.node_laws.specs.NodeModel.Paths.{Holdings}
use Rattle.node_laws.specs.NodeModel.Tables.{table, table_row}
use Rattle.node_laws.specs.NodeModel.Values.{Entry, Object, Value}
use Rattle.node_laws.specs.NodeModel.Wants.{is_in_slice, rows_of, slice, slice_entry, subscribed, subscriptions, wanted_by_agent}
use Rattle.node_laws.proofs.NodeModel.Members.{entry_in, from_entry, from_filter, from_filter_map, from_flat_map, from_map, get_member, in_either, in_filter_map, in_flat_map, in_left, in_map, in_right, member_get, none_some}
use Rattle.node_laws.proofs.NodeModel.Objects.{in_objects, object_of}
use Rattle.node_laws.proofs.NodeModel.Orders.{key_exact, key_total, prefix_exact, prefix_total}
use Rattle.node_laws.proofs.NodeModel.Wanted.{row_of_path, subscribed_is}
use Rattle.machine_laws.specs.Compiled.{Agents, Attachment, compiled_entries, compiled_holdings, compiled_table, entry_of, told_by_agent, told_to_agent}
use Rattle.machine_laws.specs.Sound.{HasOneRow, IsServed, IsSound}
use Rattle.node_laws.proofs.NodeModel.Local.{low_exact, low_total}
use Rattle.machine_laws.proofs.Sorted.{objects_sorted, same_made, same_sorted, slice_sorted}
use Rattle.machine_laws.proofs.TableRows.{table_is_compiled}
use Rattle.machine_laws.proofs.Tables.{row_of_table}
use Rattle.machine_laws.proofs.Told.{pair, publication_of, subscription_of, told_entry, told_map}

-- ---- what an agent subscribed
not_publish : (i : InstanceId) (a : Attachment) (v : Value) → publication_of a ≡ pair (Subscribe i) v → ⊥
not_publish i a v e = apart i a.instance a.prefix (ap (λ (x : Key × Value). x.0) e)
  where
    apart : (i j : InstanceId) (p : Block) → Publish j p ≡ Subscribe i → ⊥
    apart i j p e = cc

same_subscription : (i j : InstanceId) (v : Value) → subscription_of i ≡ pair (Subscribe j) v → i ≡ j
same_subscription i j v e = same i j (ap (λ (x : Key × Value). x.0) e)
  where
    same : (i j : InstanceId) → Subscribe i ≡ Subscribe j → i ≡ j
    same i j e = cc

abbrev subscriptions_at : Map → Addr → List InstanceId
subscriptions_at feed address = subscriptions (told_map feed address)

abbrev slice_told : Map → Addr → List (Key × Value)
slice_told feed address = map slice_entry (slice feed address)

from_subscribed : (feed : Map) (address : Addr) (i : InstanceId) → Member i (subscriptions_at feed address) → Member i (needed_by (slice feed address))
from_subscribed feed address i m =
    let q = from_filter_map (λ (e : Key × Value). subscribed e.0) i (entries (told_map feed address)) m in
    let at = subscribed_is q.0.0 i q.2 in
    elim (told_entry feed address q.0.0 q.0.1 (get_member key_total (told_map feed address) q.0.0 q.0.1 q.1)) as (λ _. Member i (needed_by (slice feed address))) [
      | inl t ↦ absurd (not_publish i t.0 q.0.1 (t.3 ∙ ap (λ k. pair k q.0.1) at))
      | inr t ↦ subst (λ (j : InstanceId). Member j (needed_by (slice feed address))) (same_subscription t.0 i q.0.1 (t.2 ∙ ap (λ k. pair k q.0.1) at)) t.1
    ]

in_subscribed : (feed : Map) (address : Addr) (i : InstanceId) → Member i (needed_by (slice feed address)) → Member i (subscriptions_at feed address)
in_subscribed feed address i m =
    let slice' = slice feed address in
    let ps = flat_map (λ (e : LowKey × LowValue). publication e.0 e.1) slice' in
    let e = entry_in key_total (subscription_of i) (ps ++ map subscription_of (needed_by slice')) (in_right (subscription_of i) ps (map subscription_of (needed_by slice')) (in_map subscription_of i (needed_by slice') m)) in
    in_filter_map (λ (e : Key × Value). subscribed e.0) (pair (Subscribe i) e.0) i (entries (told_map feed address)) (member_get key_total key_exact (told_map feed address) (Subscribe i) e.0 e.1) refl

-- ---- rows
abbrev pub hop_of : TableRow → RouteEntry
hop_of r = record { next_hop = r.next_hop; label = r.label }

compiled_row_parts : (feed : Map) (i : InstanceId) (e : Key × Value) → Member e (compiled_entries feed i) → (x : Block) × (r : TableRow) × (get (compiled_table feed i) x ≡ Some r) × (entry_of i x r ≡ e)
compiled_row_parts feed i e m =
    let q = from_map (λ (e : Block × TableRow). entry_of i e.0 e.1) e (entries (compiled_table feed i)) m in
    (q.0.0, q.0.1, get_member prefix_total (compiled_table feed i) q.0.0 q.0.1 q.1, q.2)

in_compiled_rows : (feed : Map) (i : InstanceId) (x : Block) (r : TableRow) → get (compiled_table feed i) x ≡ Some r → Member (entry_of i x r) (compiled_entries feed i)
in_compiled_rows feed i x r h = in_map (λ (e : Block × TableRow). entry_of i e.0 e.1) (x, r) (entries (compiled_table feed i)) (member_get prefix_total prefix_exact (compiled_table feed i) x r h)

-- ---- a slice in a map that is told to an agent
low_not_row : (k : LowKey) (v w : Value) (i : InstanceId) (x : Block) → pair (Row i x) w ≡ pair (Low k) v → ⊥
low_not_row k v w i x e = apart k i x (ap (λ (x : Key × Value). x.0) e)
  where
    apart : (k : LowKey) (i : InstanceId) (x : Block) → Row i x ≡ Low k → ⊥
    apart k i x e = cc

told_parts : (k : LowKey) (v : Value) (e : LowKey × LowValue) → slice_entry e ≡ pair (Low k) v → (e.0 ≡ k) × (Object e.1 ≡ v)
told_parts k v e h = (same e.0 k (ap (λ (x : Key × Value). x.0) h), ap (λ (x : Key × Value). x.1) h)
  where
    same : (a b : LowKey) → Low a ≡ Low b → a ≡ b
    same a b e = cc

abbrev all_rows : Map → Addr → List (Key × Value)
all_rows feed address = flat_map (compiled_entries feed) (needed_by (slice feed address))

row_keys : (feed : Map) (address : Addr) (e : Key × Value) → Member e (all_rows feed address) → (i : InstanceId) × Member i (needed_by (slice feed address)) × (x : Block) × (r : TableRow) × (get (compiled_table feed i) x ≡ Some r) × (entry_of i x r ≡ e)
row_keys feed address e m =
    let q = from_flat_map (compiled_entries feed) e (needed_by (slice feed address)) m in
    let p = compiled_row_parts feed q.0 e q.2 in
    (q.0, q.1, p.0, p.1, p.2, p.3)

from_slice : (feed : Map) (address : Addr) (k : LowKey) (v : Value) → Member (pair (Low k) v) (slice_told feed address ++ all_rows feed address) → (w : LowValue) × Member (k, w) (slice feed address) × (Object w ≡ v)
from_slice feed address k v m =
    elim (in_either (pair (Low k) v) (slice_told feed address) (all_rows feed address) m) as (λ _. (w : LowValue) × Member (k, w) (slice feed address) × (Object w ≡ v)) [
      | inl l ↦
          let q = from_map slice_entry (pair (Low k) v) (slice feed address) l in
          let p = told_parts k v q.0 q.2 in
          (q.0.1, subst (λ k. Member (k, q.0.1) (slice feed address)) p.0 q.1, p.1)
      | inr r ↦ let q = row_keys feed address (pair (Low k) v) r in absurd (low_not_row k v (Entry (hop_of q.3)) q.0 q.2 q.5)
    ]

one_object : (feed : Map) (address : Addr) (k : LowKey) (v w : LowValue) → Member (k, v) (slice feed address) → Member (k, w) (slice feed address) → v ≡ w
one_object feed address k v w m n =
    let p = λ (e : LowKey × LowValue). is_in_slice feed address e.0 e.1 in
    same v w (same_Some (Object v) (Object w) (sym (object_of feed k v (from_filter p (k, v) (objects feed) m).0) ∙ object_of feed k w (from_filter p (k, w) (objects feed) n).0))
  where
    same : (v w : LowValue) → Object v ≡ Object w → v ≡ w
    same v w e = cc

-- the slice in the map is the agent's
pub objects-told_to_agent : (feed : Map) (address : Addr) → objects (told_to_agent feed address) ≡ slice feed address
objects-told_to_agent feed address =
    let es = slice_told feed address ++ all_rows feed address in
    same_sorted low_total low_exact (objects (told_to_agent feed address)) (slice feed address) (objects_sorted (told_to_agent feed address)) (slice_sorted feed address)
    (λ e m.
    let q = from_slice feed address e.0 (Object e.1) (from_entry key_total key_exact (Low e.0) (Object e.1) es (object_of (told_to_agent feed address) e.0 e.1 m)) in
    subst (λ v. Member (e.0, v) (slice feed address)) (same q.0 e.1 q.2) q.1)
    (λ e m.
    let n = entry_in key_total (slice_entry e) es (in_left (slice_entry e) (slice_told feed address) (all_rows feed address) (in_map slice_entry e (slice feed address) m)) in
    let q = from_slice feed address e.0 n.0 (from_entry key_total key_exact (Low e.0) n.0 es n.1) in
    in_objects (told_to_agent feed address) e.0 e.1 (n.1 ∙ ap Some (sym q.2) ∙ ap (λ v. Some (Object v)) (one_object feed address e.0 q.0 e.1 q.1 m)))
  where
    same : (v w : LowValue) → Object v ≡ Object w → v ≡ w
    same v w e = cc

pub told_object : (feed : Map) (address : Addr) (k : LowKey) (v : Value) → get (told_to_agent feed address) (Low k) ≡ Some v → (o : LowValue) × Member (k, o) (slice feed address) × (v ≡ Object o)
told_object feed address k v h =
    let q = from_slice feed address k v (from_entry key_total key_exact (Low k) v (slice_told feed address ++ all_rows feed address) h) in
    (q.0, q.1, sym q.2)

-- ---- a route in the map is that of the compiled table
pub rows-told_to_agent : (feed : Map) (address : Addr) (i : InstanceId) (x : Block) → Member i (needed_by (slice feed address)) → get (told_to_agent feed address) (Row i x) ≡ option_map (λ r. Entry (hop_of r)) (get (compiled_table feed i) x)
rows-told_to_agent feed address i x needs = go (get (told_to_agent feed address) (Row i x)) (get (compiled_table feed i) x) refl refl
  where
    not_low : (e : LowKey × LowValue) (v : Value) → slice_entry e ≡ pair (Row i x) v → ⊥
    not_low e v h = apart e.0 i x (ap (λ (x : Key × Value). x.0) h)
      where
        apart : (k : LowKey) (i : InstanceId) (x : Block) → Low k ≡ Row i x → ⊥
        apart k i x e = cc

    of_row : (j : InstanceId) (y : Block) (r : TableRow) (v : Value) → get (compiled_table feed j) y ≡ Some r → entry_of j y r ≡ pair (Row i x) v → (get (compiled_table feed i) x ≡ Some r) × (Entry (hop_of r) ≡ v)
    of_row j y r v h e =
        let keys = same j i y x (ap (λ (x : Key × Value). x.0) e) in
        ((λ k. get (compiled_table feed (sym keys.0 k)) (sym keys.1 k)) ∙ h, ap (λ (x : Key × Value). x.1) e)
      where
        same : (j i : InstanceId) (y x : Block) → Row j y ≡ Row i x → (j ≡ i) × (y ≡ x)
        same j i y x e = (cc, cc)

    from_rows : (v : Value) → Member (pair (Row i x) v) (slice_told feed address ++ all_rows feed address) → (r : TableRow) × (get (compiled_table feed i) x ≡ Some r) × (Entry (hop_of r) ≡ v)
    from_rows v m =
        elim (in_either (pair (Row i x) v) (slice_told feed address) (all_rows feed address) m) as (λ _. (r : TableRow) × (get (compiled_table feed i) x ≡ Some r) × (Entry (hop_of r) ≡ v)) [
          | inl l ↦ let q = from_map slice_entry (pair (Row i x) v) (slice feed address) l in absurd (not_low q.0 v q.2)
          | inr n ↦ let q = row_keys feed address (pair (Row i x) v) n in let p = of_row q.0 q.2 q.3 v q.4 q.5 in (q.3, p.0, p.1)
        ]

    go : (o : Option Value) (r : Option TableRow) → get (told_to_agent feed address) (Row i x) ≡ o → get (compiled_table feed i) x ≡ r → o ≡ option_map (λ r. Entry (hop_of r)) r
    go None None d e = refl
    go (Some v) r d e =
        let q = from_rows v (from_entry key_total key_exact (Row i x) v (slice_told feed address ++ all_rows feed address) d) in
        ap Some (sym q.2) ∙ ap (option_map (λ r. Entry (hop_of r))) (sym q.1 ∙ e)
    go None (Some r) d e =
        let n = entry_in key_total (entry_of i x r) (slice_told feed address ++ all_rows feed address) (in_right (entry_of i x r) (slice_told feed address) (all_rows feed address) (in_flat_map (compiled_entries feed) i (entry_of i x r) (needed_by (slice feed address)) needs (in_compiled_rows feed i x r e))) in
        absurd (none_some n.0 (sym d ∙ n.1))

-- ---- what a control node wants at an agent
module _ (asn : ℕ) (feed : Map) (agents : Agents) (peers : List Agents) (sound : IsSound feed) (served : IsServed feed agents peers) (one : (i : InstanceId) → HasOneRow feed i) where
  abbrev now : Holdings
  now = compiled_holdings asn feed agents peers

  from_row : (i : InstanceId) (e : Key × Value) → Member e (rows_of now i) → Member e (compiled_entries feed i)
  from_row i e m =
      let q = from_map (row_of_path i) e (entries (table now i)) m in
      let h : get (compiled_table feed i) q.0.0 ≡ Some (table_row q.0.1) = sym (table_is_compiled asn feed agents peers sound served i (one i) q.0.0) ∙ ap (option_map table_row) (get_member prefix_total (table now i) q.0.0 q.0.1 q.1) in
      subst (λ (e : Key × Value). Member e (compiled_entries feed i)) q.2 (in_compiled_rows feed i q.0.0 (table_row q.0.1) h)

  in_row : (i : InstanceId) (e : Key × Value) → Member e (compiled_entries feed i) → Member e (rows_of now i)
  in_row i e m =
      let q = compiled_row_parts feed i e m in
      let p = row_of_table (get (table now i) q.0) q.1 (table_is_compiled asn feed agents peers sound served i (one i) q.0 ∙ q.2) in
      subst (λ (e : Key × Value). Member e (rows_of now i)) (ap (λ (r : TableRow). entry_of i q.0 r) p.2 ∙ q.3)
      (in_map (row_of_path i) (q.0, p.0) (entries (table now i)) (member_get prefix_total prefix_exact (table now i) q.0 p.0 p.1))

  one_entry : (address : Addr) (k : Key) (v w : Value) → Member (pair k v) (slice_told feed address ++ all_rows feed address) → Member (pair k w) (slice_told feed address ++ all_rows feed address) → v ≡ w
  one_entry address k v w m n =
      elim (in_either (pair k v) (slice_told feed address) (all_rows feed address) m) as (λ _. v ≡ w) [
        | inl l ↦
            let q = from_map slice_entry (pair k v) (slice feed address) l in
            let at : Low q.0.0 ≡ k = ap (λ (x : Key × Value). x.0) q.2 in
            let r = from_slice feed address q.0.0 w (subst (λ k. Member (pair k w) (slice_told feed address ++ all_rows feed address)) (sym at) n) in
            ap (λ (x : Key × Value). x.1) (sym q.2) ∙ ap Object (one_object feed address q.0.0 q.0.1 r.0 q.1 r.1) ∙ r.2
        | inr l ↦
            let q = row_keys feed address (pair k v) l in
            let at : Row q.0 q.2 ≡ k = ap (λ (x : Key × Value). x.0) q.5 in
            let told : (u : Value) → Member (pair k u) (slice_told feed address ++ all_rows feed address) → u ≡ Entry (hop_of q.3) = λ u m.
            go q.0 q.2 q.3 u q.4 (subst (λ k. Member (pair k u) (slice_told feed address ++ all_rows feed address)) (sym at) m) in
            told v m ∙ sym (told w n)
      ]
    where
      go : (i : InstanceId) (x : Block) (r : TableRow) (u : Value) → get (compiled_table feed i) x ≡ Some r → Member (pair (Row i x) u) (slice_told feed address ++ all_rows feed address) → u ≡ Entry (hop_of r)
      go i x r u h m =
          elim (in_either (pair (Row i x) u) (slice_told feed address) (all_rows feed address) m) as (λ _. u ≡ Entry (hop_of r)) [
            | inl l ↦ let q = from_map slice_entry (pair (Row i x) u) (slice feed address) l in absurd (apart q.0.0 i x (ap (λ (x : Key × Value). x.0) q.2))
            | inr l ↦
                let q = row_keys feed address (pair (Row i x) u) l in
                let keys = same q.0 i q.2 x (ap (λ (x : Key × Value). x.0) q.5) in
                let rs : q.3 ≡ r = same_Some q.3 r (sym q.4 ∙ (λ k. get (compiled_table feed (keys.0 k)) (keys.1 k)) ∙ h) in
                ap (λ (x : Key × Value). x.1) (sym q.5) ∙ ap (λ (r : TableRow). Entry (hop_of r)) rs
          ]
        where
          apart : (k : LowKey) (i : InstanceId) (x : Block) → Low k ≡ Row i x → ⊥
          apart k i x e = cc

          same : (j i : InstanceId) (y x : Block) → Row j y ≡ Row i x → (j ≡ i) × (y ≡ x)
          same j i y x e = (cc, cc)

  -- towards an agent
  pub wants_itself_by_agent : (session : ℕ) (address : Addr) → wanted_by_agent now (told_by_agent feed (session, address)) ≡ told_to_agent feed address
  wants_itself_by_agent session address =
      same_made key_total key_exact (slice_told feed address ++ flat_map (rows_of now) (subscriptions_at feed address)) (slice_told feed address ++ all_rows feed address)
      (λ e m. elim (in_either e (slice_told feed address) (flat_map (rows_of now) (subscriptions_at feed address)) m) as (λ _. Member e (slice_told feed address ++ all_rows feed address)) [
        | inl l ↦ in_left e (slice_told feed address) (all_rows feed address) l
        | inr l ↦
            let q = from_flat_map (rows_of now) e (subscriptions_at feed address) l in
            in_right e (slice_told feed address) (all_rows feed address) (in_flat_map (compiled_entries feed) q.0 e (needed_by (slice feed address)) (from_subscribed feed address q.0 q.1) (from_row q.0 e q.2))
      ])
      (λ e m. elim (in_either e (slice_told feed address) (all_rows feed address) m) as (λ _. Member e (slice_told feed address ++ flat_map (rows_of now) (subscriptions_at feed address))) [
        | inl l ↦ in_left e (slice_told feed address) (flat_map (rows_of now) (subscriptions_at feed address)) l
        | inr l ↦
            let q = from_flat_map (compiled_entries feed) e (needed_by (slice feed address)) l in
            in_right e (slice_told feed address) (flat_map (rows_of now) (subscriptions_at feed address)) (in_flat_map (rows_of now) q.0 e (subscriptions_at feed address) (in_subscribed feed address q.0 q.1) (in_row q.0 e q.2))
      ])
      (one_entry address)
