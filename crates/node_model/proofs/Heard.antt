-- What an agent wants and forwards by.
use Rattle.std.specs.Prelude.{◌≡◌, ◌↔◌, ℕ, List, [], ◌∷◌, ◌++◌, Bool, true, false, cond, get_or}
use Rattle.std.specs.declared.cmp.Ordering.{Ordering}
use Rattle.std.specs.Ordering.{nat_cmp, eq_by_cmp, ordering_then}
use Rattle.std.specs.Cmp.{IsTotalOrder, on_total}
use Rattle.std.specs.Cmp.Lexicographic.{slice_cmp, nat_list_cmp_total}
use Rattle.std.specs.declared.option.Option.{Option}
use Rattle.std.specs.declared.option.Option.TheVariants.{Some, None}
use Rattle.std.specs.List.{AllByRecursion, filter, filter_map, flat_map}
use Rattle.std.specs.FinMap.{FinMap, IsAntisymmetric, slice_cmp-IsAntisymmetric, nat_cmp-IsAntisymmetric, get, entries, from_entries, find, get-from_entries}
use Rattle.std.proofs.lemmas.Option.{same_Some}
use Rattle.std.proofs.Common.{refl, sym, ◌∙◌, ap, subst}
use Rattle.ov_types.specs.Keys.{row_key_cmp}
use Rattle.ov_types.specs.Prefix.{Block}
use Rattle.ov_types.specs.declared.numbers.InstanceId.{InstanceId}
use Rattle.ov_types.specs.declared.objects.LowKey.{LowKey}
use Rattle.ov_types.specs.declared.objects.LowValue.{LowValue}
use Rattle.ov_types.specs.declared.rows.Entry.{Entry as RouteEntry}
use Rattle.node_model.specs.Members.{Member}
use Rattle.node_model.specs.Keys.{Key, Low, Vpn, Row, Publish, Subscribe}
use Rattle.node_model.specs.Values.{Value, Object, Route, Entry, Label}
use Rattle.node_model.specs.Maps.{Map, objects}
use Rattle.node_model.specs.Agent.{Heard, Holdings, slice_in_use, told_of, wanted, is_needed, row_entry, rows_heard, routes, besides_rows, as_hop, first_some, route_from}
use Rattle.node_model.proofs.Members.{none_some, found, from_find, in_filter, from_filter, in_filter_map, from_filter_map, get_member, member_get}
use Rattle.node_model.proofs.Orders.{key_total, key_exact, then_equal}
use Rattle.node_model.proofs.Wanted.{instance_at, told}

-- ---- rows do not matter to what it wants
slice_among : List (Bool × List (LowKey × LowValue)) → List (LowKey × LowValue)
slice_among [] = []
slice_among (s ∷ h) = cond s.0 s.1 (slice_among h)

slice_is_among : (h : Holdings) → slice_in_use h ≡ slice_among (besides_rows h)
unfolding slice_among
slice_is_among [] = refl
slice_is_among (s ∷ h) = ap (cond s.is_up (objects s.map)) (slice_is_among h)

pub wanted_besides : (h g : Holdings) → besides_rows h ≡ besides_rows g → wanted h ≡ wanted g
wanted_besides h g e = ap told_of (slice_is_among h ∙ ap slice_among e ∙ sym (slice_is_among g))

-- ---- the slice in use
pub slice_of_first_up : (before : Holdings) (s : Heard) (after : Holdings) → AllByRecursion (λ (t : Heard). t.is_up ≡ false) before → s.is_up ≡ true → slice_in_use (before ++ s ∷ after) ≡ objects s.map
slice_of_first_up [] s after down up = ap (λ b. cond b (objects s.map) (slice_in_use after)) up
slice_of_first_up (t ∷ before) s after down up =
    ap (λ b. cond b (objects t.map) (slice_in_use (before ++ s ∷ after))) down.0 ∙ slice_of_first_up before s after down.1 up

pub slice_of_none : (h : Holdings) → AllByRecursion (λ (t : Heard). t.is_up ≡ false) h → slice_in_use h ≡ []
slice_of_none [] down = refl
slice_of_none (t ∷ h) down = ap (λ b. cond b (objects t.map) (slice_in_use h)) down.0 ∙ slice_of_none h down.1

-- ---- the order of rows

abbrev by_numbers : InstanceId × Block → InstanceId × Block → Ordering
by_numbers a b = slice_cmp nat_cmp (a.0.0 ∷ a.1.addr ∷ a.1.len ∷ []) (b.0.0 ∷ b.1.addr ∷ b.1.len ∷ [])

same_at : (a b : InstanceId × Block) → by_numbers a b ≡ row_key_cmp a b
same_at a b = ap (λ (r : Ordering). ordering_then (nat_cmp a.0.0 b.0.0) (ordering_then (nat_cmp a.1.addr b.1.addr) r)) (then_equal (nat_cmp a.1.len b.1.len))

same_order : by_numbers ≡ row_key_cmp
same_order = λ i a b. same_at a b i

pub row_total : IsTotalOrder row_key_cmp
row_total = subst IsTotalOrder same_order (on_total (λ (k : InstanceId × Block). k.0.0 ∷ k.1.addr ∷ k.1.len ∷ []) nat_list_cmp_total)

pub row_exact : IsAntisymmetric row_key_cmp
row_exact a b e =
    ap (λ (ns : List ℕ). instance_at (record { 0 = get_or ns 0 0 }) (record { addr = get_or ns 1 0; len = get_or ns 2 0 }))
    (slice_cmp-IsAntisymmetric nat_cmp-IsAntisymmetric (a.0.0 ∷ a.1.addr ∷ a.1.len ∷ []) (b.0.0 ∷ b.1.addr ∷ b.1.len ∷ []) (same_at a b ∙ e))

-- ---- the rows that are used
pub same_options : {A : Type 0} (a b : Option A) → ((x : A) → a ≡ Some x → b ≡ Some x) → ((x : A) → b ≡ Some x → a ≡ Some x) → a ≡ b
same_options None None f g = refl
same_options None (Some y) f g = g y refl
same_options (Some x) b f g = sym (f x refl)

pub find_either : {K V : Type 0} (R : K → K → Ordering) (q : K) (es fs : List (K × V)) → find R q (es ++ fs) ≡ first_some (find R q es) (find R q fs)
find_either R q [] fs = refl
find_either {V = V} R q (e ∷ es) fs = elim (eq_by_cmp R q e.0) as (λ b. cond b (Some e.1) (find R q (es ++ fs)) ≡ first_some (cond b (Some e.1) (find R q es)) (find R q fs)) [ true ↦ refl | false ↦ find_either R q es fs ]

abbrev pub row_at : InstanceId → Block → RouteEntry → (InstanceId × Block) × RouteEntry
row_at i prefix hop = (instance_at i prefix, hop)

row_entry_is : (k : Key) (v : Value) (i : InstanceId) (prefix : Block) (hop : RouteEntry) → row_entry k v ≡ Some (row_at i prefix hop) → (k ≡ Row i prefix) × (v ≡ Entry hop)
row_entry_is (Row j p) (Entry r) i prefix hop e =
    let s : ◌≡◌ {A = (InstanceId × Block) × RouteEntry} (row_at j p r) (row_at i prefix hop) = same_Some (row_at j p r) (row_at i prefix hop) e in
    ((λ x. Row (s x).0.0 (s x).0.1), (λ x. Entry (s x).1))
row_entry_is (Row j p) (Object v) i prefix hop e = absurd (none_some (row_at i prefix hop) e)
row_entry_is (Row j p) (Route v) i prefix hop e = absurd (none_some (row_at i prefix hop) e)
row_entry_is (Row j p) (Label v) i prefix hop e = absurd (none_some (row_at i prefix hop) e)
row_entry_is (Low k) v i prefix hop e = absurd (none_some (row_at i prefix hop) e)
row_entry_is (Vpn k) v i prefix hop e = absurd (none_some (row_at i prefix hop) e)
row_entry_is (Publish j p) v i prefix hop e = absurd (none_some (row_at i prefix hop) e)
row_entry_is (Subscribe j) v i prefix hop e = absurd (none_some (row_at i prefix hop) e)

abbrev rows_in : Map → List ((InstanceId × Block) × RouteEntry)
rows_in m = filter_map (λ e. row_entry e.0 e.1) (entries m)

hop_is : (o : Option Value) (hop : RouteEntry) → as_hop o ≡ Some hop → o ≡ Some (Entry hop)
hop_is (Some (Entry r)) hop e = ap (λ (x : RouteEntry). Some (Entry x)) (same_Some r hop e)
hop_is (Some (Object v)) hop e = absurd (none_some hop e)
hop_is (Some (Route v)) hop e = absurd (none_some hop e)
hop_is (Some (Label v)) hop e = absurd (none_some hop e)
hop_is None hop e = absurd (none_some hop e)

row_held : (m : Map) (i : InstanceId) (prefix : Block) (hop : RouteEntry) → Member (row_at i prefix hop) (rows_in m) → get m (Row i prefix) ≡ Some (Entry hop)
row_held m i prefix hop h =
    let q = from_filter_map (λ (e : Key × Value). row_entry e.0 e.1) (row_at i prefix hop) (entries m) h in
    let parts = row_entry_is q.0.0 q.0.1 i prefix hop q.2 in
    ap (get m) (sym parts.0) ∙ get_member key_total m q.0.0 q.0.1 q.1 ∙ ap Some parts.1

-- the row that a session has
row_of_session : (m : Map) (i : InstanceId) (prefix : Block) → find row_key_cmp (instance_at i prefix) (rows_in m) ≡ as_hop (get m (Row i prefix))
row_of_session m i prefix = same_options (find row_key_cmp (instance_at i prefix) (rows_in m)) (as_hop (get m (Row i prefix)))
    (λ hop e. ap as_hop (row_held m i prefix hop (from_find row_total row_exact (instance_at i prefix) hop (rows_in m) e)))
    (λ hop e.
    let there = in_filter_map (λ (e : Key × Value). row_entry e.0 e.1) (told (Row i prefix) (Entry hop)) (row_at i prefix hop) (entries m)
    (member_get key_total key_exact m (Row i prefix) (Entry hop) (hop_is (get m (Row i prefix)) hop e)) refl in
    let f = found row_total (row_at i prefix hop) (rows_in m) there in
    let held = row_held m i prefix f.0 (from_find row_total row_exact (instance_at i prefix) f.0 (rows_in m) f.1) in
    f.1 ∙ sym (ap as_hop held) ∙ e)

row_heard : (h : Holdings) (i : InstanceId) (prefix : Block) → find row_key_cmp (instance_at i prefix) (rows_heard h) ≡ route_from h i prefix
row_heard [] i prefix = refl
row_heard (s ∷ h) i prefix =
    elim s.is_up as (λ b. find row_key_cmp (instance_at i prefix) (flat_map (λ (x : Heard). rows_in x.map) (cond b (s ∷ filter (λ (x : Heard). x.is_up) h) (filter (λ (x : Heard). x.is_up) h)))
    ≡ cond b (first_some (as_hop (get s.map (Row i prefix))) (route_from h i prefix)) (route_from h i prefix)) [
      | true ↦ find_either row_key_cmp (instance_at i prefix) (rows_in s.map) (rows_heard h) ∙ (λ x. first_some (row_of_session s.map i prefix x) (row_heard h i prefix x))
      | false ↦ row_heard h i prefix
    ]

abbrev pub first_rows : Holdings → FinMap row_key_cmp RouteEntry
first_rows h = from_entries {R = row_key_cmp} (rows_heard h)

-- an agent uses the route of the first session that is up and has it, of the instances that it needs
pub route_is : (h : Holdings) (i : InstanceId) (prefix : Block) (hop : RouteEntry) → Member (row_at i prefix hop) (routes h) ↔ ((is_needed h i ≡ true) × (route_from h i prefix ≡ Some hop))
route_is h i prefix hop = (
  (λ m.
      let f = from_filter (λ (r : (InstanceId × Block) × RouteEntry). is_needed h r.0.0) (row_at i prefix hop) (entries (first_rows h)) m in
      (f.1, sym (row_heard h i prefix) ∙ sym (get-from_entries row_total (rows_heard h) (instance_at i prefix)) ∙ get_member row_total (first_rows h) (instance_at i prefix) hop f.0)),
  (λ b. in_filter (λ (r : (InstanceId × Block) × RouteEntry). is_needed h r.0.0) (row_at i prefix hop) (entries (first_rows h))
      (member_get row_total row_exact (first_rows h) (instance_at i prefix) hop (get-from_entries row_total (rows_heard h) (instance_at i prefix) ∙ row_heard h i prefix ∙ b.1)) b.0),
)
