-- Routes that change one by one change their rows alone.
use Rattle.std.specs.Prelude.{◌≡◌, ℕ, zero, suc, ◌==◌, ◌&&◌, ◌||◌, List, [], ◌∷◌, ◌++◌, map, Bool, true, false, cond, get_or, drop, is_some}
use Rattle.std.specs.declared.cmp.Ordering.{Ordering}
use Rattle.std.specs.declared.cmp.Ordering.TheVariants.{Less, Equal, Greater}
use Rattle.std.specs.declared.option.Option.{Option}
use Rattle.std.specs.declared.option.Option.TheVariants.{Some, None}
use Rattle.std.specs.BTreeMap.{insert_entry, is_at}
use Rattle.std.specs.Ordering.{nat_cmp, is_eq, eq_by_cmp, match_ordering, ordering_then}
use Rattle.std.specs.Cmp.{nat_cmp_total, tied_itself}
use Rattle.std.specs.List.{cons_option, filter_map, list_any}
use Rattle.std.specs.List.Sorted.{IsStrictlySortedBy}
use Rattle.std.specs.Map.{lookup, remove_entry, set_value}
use Rattle.std.specs.FinMap.{find, get, entries, entries-insert, get-insert, get-remove}
use Rattle.std.proofs.lemmas.Bool.{eqb-true, true≢false}
use Rattle.std.proofs.lemmas.Option.{same_Some}
use Rattle.std.proofs.Common.{refl, sym, ◌∙◌, ap, subst, set}
use Rattle.ov_sync.specs.declared.Delta.TheVariants.{Put, Drop}
use Rattle.ov_sync.specs.Keyed.{after, changed}
use Rattle.ov_sync.proofs.Ascending.{Over, Ascends, above, ascends, put-insert_entry, put-over, without, entries-remove}
use Rattle.ov_types.specs.Keys.{row_key_cmp}
use Rattle.ov_types.specs.Prefix.{Block, block_cmp}
use Rattle.ov_types.specs.declared.numbers.InstanceId.{InstanceId}
use Rattle.ov_types.specs.declared.objects.LowKey.{LowKey}
use Rattle.ov_types.specs.declared.objects.LowValue.{LowValue}
use Rattle.ov_types.specs.declared.rows.AgentRows.{AgentRows}
use Rattle.ov_types.specs.declared.rows.Entry.{Entry as RouteEntry}
use Rattle.packet_trace.specs.Tables.{rows_in}
use Rattle.item_wire.specs.declared.item.Item.{Item}
use Rattle.node_core.specs.Told.{change_of}
use Rattle.node_core.specs.NodeModel.Agent.{Heard, Holdings, acl_entry, as_hop, attached, besides_rows, first_some, is_needed, needed_by, route_from, routes, rows as rows_held, slice_in_use}
use Rattle.node_core.specs.NodeModel.Keys.{Key, Low, Row, Vpn, Publish, Subscribe, key_cmp}
use Rattle.node_core.specs.NodeModel.Maps.{Change, Map, low_entry, objects}
use Rattle.node_core.specs.NodeModel.Values.{Value}
use Rattle.node_core.proofs.NodeModel.Heard.{first_rows, route_is, row_exact, row_total, same_options}
use Rattle.node_core.proofs.NodeModel.Members.{found, from_find, none_some}
use Rattle.node_core.proofs.NodeModel.Orders.{key_exact, key_total, then_equal}
use Rattle.agent_tables.specs.Routes.{Table, has_table, instance_order, routes_of}
use Rattle.agent_tables.specs.Touched.{AgreeBut, AreTables, RowKey, SameRoutes, Tabled, is_among, is_listed, led, led_all, led_in, route_key, with_row, with_rows, with_routes}
use Rattle.agent_tables.proofs.Lists.{or_none}
use Rattle.agent_tables.proofs.Ordered.{ascends_filter, ascends_inserted, ascends_map, find-inserted, same_lists}
use Rattle.agent_tables.proofs.Routes.{Routed, key, over_routes, same_instance}

-- ---- rows in the order of their keys
gone : (k : RowKey) (es : List Routed) → Over row_key_cmp k es → remove_entry (is_at (row_key_cmp k)) es ≡ es
gone k [] h = refl
gone k (e ∷ es) h =
    ap (λ r. cond (is_eq r) es (e ∷ remove_entry (is_at (row_key_cmp k)) es)) h.0 ∙ ap (λ (l : List Routed). e ∷ l) (gone k es h.1)

nowhere : (k : RowKey) (es : List Routed) → Over row_key_cmp k es → find row_key_cmp k es ≡ None
nowhere k [] h = refl
nowhere k (e ∷ es) h = ap (λ r. cond (is_eq r) (Some e.1) (find row_key_cmp k es)) h.0 ∙ nowhere k es h.1

over_removed : (j : RowKey) (p : RowKey → Bool) (es : List Routed) → Over row_key_cmp j es → Over row_key_cmp j (remove_entry p es)
over_removed j p [] h = tt
over_removed j p (e ∷ es) h =
    elim (p e.0) as (λ b. Over row_key_cmp j (cond b es (e ∷ remove_entry p es))) [ true ↦ h.1 | false ↦ (h.0, over_removed j p es h.1) ]

ascends_removed : (p : RowKey → Bool) (es : List Routed) → Ascends row_key_cmp es → Ascends row_key_cmp (remove_entry p es)
ascends_removed p [] h = tt
ascends_removed p (e ∷ es) h =
    elim (p e.0) as (λ b. Ascends row_key_cmp (cond b es (e ∷ remove_entry p es))) [ true ↦ h.1 | false ↦ (over_removed e.0 p es h.0, ascends_removed p es h.1) ]

ascends_with : (k : RowKey) (o : Option RouteEntry) (es : List Routed) → Ascends row_key_cmp es → Ascends row_key_cmp (with_row es k o)
ascends_with k None es h = ascends_removed (is_at (row_key_cmp k)) es h
ascends_with k (Some hop) es h = ascends_inserted row_key_cmp row_total row_exact k hop es h

equal_is : (r : Ordering) → is_eq r ≡ true → r ≡ Equal
equal_is Equal e = refl
equal_is Less e = absurd (true≢false (sym e))
equal_is Greater e = absurd (true≢false (sym e))

same_key : (q k : RowKey) → eq_by_cmp row_key_cmp q k ≡ true → q ≡ k
same_key q k e = row_exact q k (equal_is (row_key_cmp q k) e)

key_itself : (k : RowKey) → eq_by_cmp row_key_cmp k k ≡ true
key_itself k = ap is_eq (tied_itself row_total k)

find_removed : (q k : RowKey) (es : List Routed) → Ascends row_key_cmp es → find row_key_cmp q (remove_entry (is_at (row_key_cmp k)) es) ≡ cond (eq_by_cmp row_key_cmp q k) None (find row_key_cmp q es)
find_removed q k [] h = elim (eq_by_cmp row_key_cmp q k) as (λ b. find {X = RouteEntry} row_key_cmp q [] ≡ cond b None (find {X = RouteEntry} row_key_cmp q [])) [ true ↦ refl | false ↦ refl ]
find_removed q k (e ∷ es) h = at (is_eq (row_key_cmp k e.0)) (eq_by_cmp row_key_cmp q k) (eq_by_cmp row_key_cmp q e.0) refl refl refl (find_removed q k es h.1)
  where
    at : (a b c : Bool) → is_eq (row_key_cmp k e.0) ≡ a → eq_by_cmp row_key_cmp q k ≡ b → eq_by_cmp row_key_cmp q e.0 ≡ c
        → find row_key_cmp q (remove_entry (is_at (row_key_cmp k)) es) ≡ cond (eq_by_cmp row_key_cmp q k) None (find row_key_cmp q es)
        → find row_key_cmp q (cond a es (e ∷ remove_entry (is_at (row_key_cmp k)) es)) ≡ cond b None (cond c (Some e.1) (find row_key_cmp q es))
    at true true c s t u later =
        ap (λ (x : RowKey). find row_key_cmp x es) (same_key q k t ∙ same_key k e.0 s) ∙ nowhere e.0 es h.0
    at true false true s t u later =
        absurd (true≢false (sym (key_itself q) ∙ ap (eq_by_cmp row_key_cmp q) (same_key q e.0 u ∙ sym (same_key k e.0 s)) ∙ t))
    at true false false s t u later = refl
    at false true true s t u later =
        absurd (true≢false (sym (key_itself k) ∙ ap (eq_by_cmp row_key_cmp k) (sym (same_key q k t) ∙ same_key q e.0 u) ∙ s))
    at false true false s t u later =
        ap (λ b. cond b (Some e.1) (find row_key_cmp q (remove_entry (is_at (row_key_cmp k)) es))) u
        ∙ later ∙ ap (λ b. cond b None (find row_key_cmp q es)) t
    at false false true s t u later = ap (λ b. cond b (Some e.1) (find row_key_cmp q (remove_entry (is_at (row_key_cmp k)) es))) u
    at false false false s t u later =
        ap (λ b. cond b (Some e.1) (find row_key_cmp q (remove_entry (is_at (row_key_cmp k)) es))) u
        ∙ later ∙ ap (λ b. cond b None (find row_key_cmp q es)) t

find_with : (q k : RowKey) (o : Option RouteEntry) (es : List Routed) → Ascends row_key_cmp es → find row_key_cmp q (with_row es k o) ≡ cond (eq_by_cmp row_key_cmp q k) o (find row_key_cmp q es)
find_with q k None es h = find_removed q k es h
find_with q k (Some hop) es h = find-inserted row_key_cmp row_total q k hop es h

-- ---- the routes of tables, where one is led elsewhere
same_row : (n : InstanceId) (p q : Block) → row_key_cmp (key n p) (key n q) ≡ block_cmp p q
same_row n p q = ap (λ c. ordering_then c (block_cmp p q)) (tied_itself nat_cmp_total n.0)

in_front : (k : RowKey) (hop : RouteEntry) (es : List Routed) → Over row_key_cmp k es → insert_entry row_key_cmp es k hop ≡ (k, hop) ∷ es
in_front k hop es h = put-insert_entry row_key_cmp k hop es ∙ put-over row_key_cmp k hop es h

module _ (n : InstanceId) (p : Block) (more : List Routed) (over : Over row_key_cmp (key n p) more) where
  led_here : (o : Option RouteEntry) (table : List (Block × RouteEntry)) → rows_in n (led table p o) ++ more ≡ with_row (rows_in n table ++ more) (key n p) o
  led_here None [] = sym (gone (key n p) more over)
  led_here None (r ∷ table) =
      let later = ap (λ (l : List Routed). (key n r.0, r.1) ∷ l) (led_here None table) in
      elim (block_cmp p r.0) as (λ c. rows_in n (cond (is_eq c) table (r ∷ remove_entry (is_at (block_cmp p)) table)) ++ more
      ≡ cond (is_eq c) (rows_in n table ++ more) ((key n r.0, r.1) ∷ remove_entry (is_at (row_key_cmp (key n p))) (rows_in n table ++ more))) [
        | Less ↦ later
        | Equal ↦ refl
        | Greater ↦ later
      ]
      ∙ sym (ap (λ c. cond (is_eq c) (rows_in n table ++ more) ((key n r.0, r.1) ∷ remove_entry (is_at (row_key_cmp (key n p))) (rows_in n table ++ more))) (same_row n p r.0))
  led_here (Some hop) [] = sym (in_front (key n p) hop more over)
  led_here (Some hop) (r ∷ table) =
      let later = ap (λ (l : List Routed). (key n r.0, r.1) ∷ l) (led_here (Some hop) table) in
      elim (block_cmp p r.0) as (λ c. rows_in n (match_ordering c ((p, hop) ∷ r ∷ table) ((r.0, hop) ∷ table) (r ∷ insert_entry block_cmp table p hop)) ++ more
      ≡ match_ordering c ((key n p, hop) ∷ (key n r.0, r.1) ∷ (rows_in n table ++ more)) ((key n r.0, hop) ∷ (rows_in n table ++ more)) ((key n r.0, r.1) ∷ insert_entry row_key_cmp (rows_in n table ++ more) (key n p) hop)) [
        | Less ↦ refl
        | Equal ↦ refl
        | Greater ↦ later
      ]
      ∙ sym (ap (λ c. match_ordering c ((key n p, hop) ∷ (key n r.0, r.1) ∷ (rows_in n table ++ more)) ((key n r.0, hop) ∷ (rows_in n table ++ more)) ((key n r.0, r.1) ∷ insert_entry row_key_cmp (rows_in n table ++ more) (key n p) hop)) (same_row n p r.0))

module _ (i n : InstanceId) (p : Block) (more : List Routed) (before : instance_order i n ≡ Greater) where
  greater : (q : Block) → row_key_cmp (key i p) (key n q) ≡ Greater
  greater q = ap (λ c. ordering_then c (block_cmp p q)) before

  led_past : (o : Option RouteEntry) (table : List (Block × RouteEntry)) → rows_in n table ++ with_row more (key i p) o ≡ with_row (rows_in n table ++ more) (key i p) o
  led_past None [] = refl
  led_past (Some hop) [] = refl
  led_past None (r ∷ table) =
      ap (λ (l : List Routed). (key n r.0, r.1) ∷ l) (led_past None table)
      ∙ sym (ap (λ c. cond (is_eq c) (rows_in n table ++ more) ((key n r.0, r.1) ∷ remove_entry (is_at (row_key_cmp (key i p))) (rows_in n table ++ more))) (greater r.0))
  led_past (Some hop) (r ∷ table) =
      ap (λ (l : List Routed). (key n r.0, r.1) ∷ l) (led_past (Some hop) table)
      ∙ sym (ap (λ c. match_ordering c ((key i p, hop) ∷ (key n r.0, r.1) ∷ (rows_in n table ++ more)) ((key n r.0, hop) ∷ (rows_in n table ++ more)) ((key n r.0, r.1) ∷ insert_entry row_key_cmp (rows_in n table ++ more) (key i p) hop)) (greater r.0))

later_table : (n i : InstanceId) (ts : List Table) → Over instance_order n ts → has_table ts i ≡ true → instance_order n i ≡ Less
later_table n i [] h e = absurd (true≢false (sym e))
later_table n i (t ∷ ts) h e =
    elim (t.0.0 == i.0) as (λ b. (t.0.0 == i.0) ≡ b → (b || has_table ts i) ≡ true → instance_order n i ≡ Less) [
      | true ↦ λ s e. ap (nat_cmp n.0) (sym (eqb-true t.0.0 i.0 s)) ∙ h.0
      | false ↦ λ s e. later_table n i ts h.1 e
    ] refl e

routes_led : (i : InstanceId) (p : Block) (o : Option RouteEntry) (ts : List Table) → Ascends instance_order ts
    → routes_of (led_in ts i p o) ≡ cond (has_table ts i) (with_row (routes_of ts) (key i p) o) (routes_of ts)
routes_led i p o [] h = refl
routes_led i p o (t ∷ ts) h = at (t.0.0 == i.0) refl (routes_led i p o ts h.1)
  where
    missed : (b : Bool) → has_table ts i ≡ b
        → rows_in t.0 t.1 ++ cond b (with_row (routes_of ts) (key i p) o) (routes_of ts)
        ≡ cond b (with_row (rows_in t.0 t.1 ++ routes_of ts) (key i p) o) (rows_in t.0 t.1 ++ routes_of ts)
    missed true s = led_past i t.0 p (routes_of ts) (above nat_cmp nat_cmp_total t.0.0 i.0 (later_table t.0 i ts h.0 s)) o t.1
    missed false s = refl

    at : (b : Bool) → (t.0.0 == i.0) ≡ b
        → routes_of (led_in ts i p o) ≡ cond (has_table ts i) (with_row (routes_of ts) (key i p) o) (routes_of ts)
        → routes_of (cond b ((t.0, led t.1 p o) ∷ ts) (t ∷ led_in ts i p o))
        ≡ cond (b || has_table ts i) (with_row (rows_in t.0 t.1 ++ routes_of ts) (key i p) o) (rows_in t.0 t.1 ++ routes_of ts)
    at true s later =
        let same : t.0 ≡ i = λ x. record { 0 = eqb-true t.0.0 i.0 s x } in
        subst (λ (n : InstanceId). rows_in t.0 (led t.1 p o) ++ routes_of ts ≡ with_row (rows_in t.0 t.1 ++ routes_of ts) (key n p) o) same
        (led_here t.0 p (routes_of ts) (over_routes t.0 p ts h.0) o t.1)
    at false s later = ap (λ (l : List Routed). rows_in t.0 t.1 ++ l) later ∙ missed (has_table ts i) refl

abbrev pub instances_of : List Table → List InstanceId
instances_of ts = map (λ t. t.0) ts

instances_led : (i : InstanceId) (p : Block) (o : Option RouteEntry) (ts : List Table) → instances_of (led_in ts i p o) ≡ instances_of ts
instances_led i p o [] = refl
instances_led i p o (t ∷ ts) =
    elim (t.0.0 == i.0) as (λ b. instances_of (cond b ((t.0, led t.1 p o) ∷ ts) (t ∷ led_in ts i p o)) ≡ t.0 ∷ instances_of ts) [
      | true ↦ refl
      | false ↦ ap (λ (l : List InstanceId). t.0 ∷ l) (instances_led i p o ts)
    ]

pub has_listed : (ts : List Table) (i : InstanceId) → has_table ts i ≡ is_listed (instances_of ts) i
has_listed [] i = refl
has_listed (t ∷ ts) i = ap (λ b. t.0.0 == i.0 || b) (has_listed ts i)

-- all of them, in turn
pub rows_led : (h : Holdings) (ks : List RowKey) (ts : List Table) → IsStrictlySortedBy instance_order (instances_of ts)
    → routes_of (led_all h ts ks) ≡ with_rows (instances_of ts) h (routes_of ts) ks
rows_led h [] ts sorted = refl
rows_led h (k ∷ ks) ts sorted =
    let o : Option RouteEntry = route_from h k.0 k.1 in
    let next : List Table = led_in ts k.0 k.1 o in
    let same : instances_of next ≡ instances_of ts = instances_led k.0 k.1 o ts in
    let first : routes_of next ≡ cond (is_listed (instances_of ts) k.0) (with_row (routes_of ts) k o) (routes_of ts) =
    routes_led k.0 k.1 o ts (ascends instance_order ts sorted)
    ∙ ap (λ b. cond b (with_row (routes_of ts) k o) (routes_of ts)) (has_listed ts k.0) in
    rows_led h ks next (subst (IsStrictlySortedBy instance_order) (sym same) sorted)
    ∙ (λ x. with_rows (same x) h (first x) ks)

-- as a map puts it
module _ (i : InstanceId) (p : Block) (o : Option RouteEntry) where
  pub set_led : (ts : List Table) (v w : List (Block × RouteEntry)) → lookup (is_at (instance_order i)) ts ≡ Some v → w ≡ led v p o → set_value (is_at (instance_order i)) ts w ≡ led_in ts i p o
  set_led [] v w found is = absurd (none_some v found)
  set_led (t ∷ ts) v w found is =
      ap (λ b. cond b ((t.0, w) ∷ ts) (t ∷ set_value (is_at (instance_order i)) ts w)) (same_instance i t.0)
      ∙ at (t.0.0 == i.0) (sym (ap (λ b. cond b (Some t.1) (lookup (is_at (instance_order i)) ts)) (same_instance i t.0)) ∙ found) (λ later. set_led ts v w later is)
    where
      at : (b : Bool) → cond b (Some t.1) (lookup (is_at (instance_order i)) ts) ≡ Some v → (lookup (is_at (instance_order i)) ts ≡ Some v → set_value (is_at (instance_order i)) ts w ≡ led_in ts i p o)
          → cond b ((t.0, w) ∷ ts) (t ∷ set_value (is_at (instance_order i)) ts w) ≡ cond b ((t.0, led t.1 p o) ∷ ts) (t ∷ led_in ts i p o)
      at true found rest = ap (λ (l : List (Block × RouteEntry)). (t.0, l) ∷ ts) (is ∙ ap (λ (l : List (Block × RouteEntry)). led l p o) (sym (same_Some t.1 v found)))
      at false found rest = ap (λ (l : List Table). t ∷ l) (rest found)

  pub none_led : (ts : List Table) → lookup (is_at (instance_order i)) ts ≡ None → ts ≡ led_in ts i p o
  none_led [] none = refl
  none_led (t ∷ ts) none =
      at (t.0.0 == i.0) (sym (ap (λ b. cond b (Some t.1) (lookup (is_at (instance_order i)) ts)) (same_instance i t.0)) ∙ none) (λ later. none_led ts later)
    where
      at : (b : Bool) → cond b (Some t.1) (lookup (is_at (instance_order i)) ts) ≡ None → (lookup (is_at (instance_order i)) ts ≡ None → ts ≡ led_in ts i p o) → t ∷ ts ≡ cond b ((t.0, led t.1 p o) ∷ ts) (t ∷ led_in ts i p o)
      at true found rest = absurd (none_some t.1 (sym found))
      at false found rest = ap (λ (l : List Table). t ∷ l) (rest found)

-- ---- the rows of what is held
both_from : {A : Type 0} (b : Bool) (o : Option A) (x : A) → cond b o None ≡ Some x → (b ≡ true) × (o ≡ Some x)
both_from true o x e = (refl, e)
both_from false o x e = absurd (none_some x e)

route_found : (h : Holdings) (k : RowKey) → find row_key_cmp k (routes h) ≡ cond (is_needed h k.0) (route_from h k.0 k.1) None
route_found h k = same_options (find row_key_cmp k (routes h)) (cond (is_needed h k.0) (route_from h k.0 k.1) None)
    (λ hop e.
    let both = (route_is h k.0 k.1 hop).0 (from_find row_total row_exact k hop (routes h) e) in
    ap (λ b. cond b (route_from h k.0 k.1) None) both.0 ∙ both.1)
    (λ hop e.
    let both = both_from (is_needed h k.0) (route_from h k.0 k.1) hop e in
    let there = found row_total (k, hop) (routes h) ((route_is h k.0 k.1 hop).1 both) in
    let again = (route_is h k.0 k.1 there.0).0 (from_find row_total row_exact k there.0 (routes h) there.1) in
    there.1 ∙ sym again.1 ∙ both.1)

ascends_held : (h : Holdings) → Ascends row_key_cmp (routes h)
ascends_held h = ascends_filter row_key_cmp (λ k. is_needed h k.0) (entries (first_rows h)) (ascends_map row_key_cmp row_total row_exact (first_rows h))

-- the routes follow from the routes that are heard and the instances that are needed
pub routes_same : (h g : Holdings) → SameRoutes h g → ((i : InstanceId) → is_needed h i ≡ is_needed g i) → routes h ≡ routes g
routes_same h g same needs =
    same_lists row_key_cmp row_total row_exact (routes h) (routes g) (ascends_held h) (ascends_held g)
    (λ q. route_found h q ∙ (λ x. cond (needs q.0 x) (same.routes q x) None) ∙ sym (route_found g q))

-- tables with the labels and access lists of what is held now, where the same routes were heard before
pub objects_set : (h g : Holdings) (t u : Tabled) → AreTables h t → SameRoutes h g → ((i : InstanceId) → is_listed t.instances i ≡ is_needed g i)
    → u.rows.labels ≡ (rows_held g).labels → u.rows.acls ≡ (rows_held g).acls → u.rows.routes ≡ t.rows.routes → u.instances ≡ t.instances → AreTables g u
objects_set h g t u are same needs labels lists stay instances =
    let routes_are = stay ∙ ap (λ (r : AgentRows). r.routes) are.rows ∙ routes_same h g same (λ i. sym (are.instances i) ∙ needs i) in
    record {
      rows = λ x. record { labels = labels x; acls = lists x; routes = routes_are x };
      instances = λ i. ap (λ (is : List InstanceId). is_listed is i) instances ∙ needs i;
    }

and_false : (b : Bool) → (b && false) ≡ false
and_false true = refl
and_false false = refl

-- rows that are those of what is held at all keys of listed instances but some are those of what is held once these are led
module _ (instances : List InstanceId) (h : Holdings) (need : (i : InstanceId) → is_listed instances i ≡ is_needed h i) where
  remade : (ks : List RowKey) (rows : List Routed) → Ascends row_key_cmp rows
      → ((q : RowKey) → (is_listed instances q.0 && is_among ks q) ≡ false → find row_key_cmp q rows ≡ find row_key_cmp q (routes h))
      → with_rows instances h rows ks ≡ routes h
  remade [] rows a same = same_lists row_key_cmp row_total row_exact rows (routes h) a (ascends_held h) (λ q. same q (and_false (is_listed instances q.0)))
  remade (k ∷ ks) rows a same = at (is_listed instances k.0) refl (remade ks)
    where
      apart : (q : RowKey) → eq_by_cmp row_key_cmp q k ≡ false → (is_listed instances q.0 && is_among ks q) ≡ false → find row_key_cmp q rows ≡ find row_key_cmp q (routes h)
      apart q e others = same q (ap (λ b. is_listed instances q.0 && (b || is_among ks q)) e ∙ others)

      set_here : is_listed instances k.0 ≡ true → (q : RowKey) (b : Bool) → eq_by_cmp row_key_cmp q k ≡ b → (is_listed instances q.0 && is_among ks q) ≡ false
          → cond b (route_from h k.0 k.1) (find row_key_cmp q rows) ≡ find row_key_cmp q (routes h)
      set_here l q true e others =
          sym (ap (λ (x : RowKey). find row_key_cmp x (routes h)) (same_key q k e) ∙ route_found h k
          ∙ ap (λ b. cond b (route_from h k.0 k.1) None) (sym (need k.0) ∙ l))
      set_here l q false e others = apart q e others

      kept_here : is_listed instances k.0 ≡ false → (q : RowKey) (b : Bool) → eq_by_cmp row_key_cmp q k ≡ b → (is_listed instances q.0 && is_among ks q) ≡ false
          → find row_key_cmp q rows ≡ find row_key_cmp q (routes h)
      kept_here l q true e others =
          same q (ap (λ b. b && is_among (k ∷ ks) q) (ap (λ (x : RowKey). is_listed instances x.0) (same_key q k e) ∙ l))
      kept_here l q false e others = apart q e others

      at : (b : Bool) → is_listed instances k.0 ≡ b
          → ((rows : List Routed) → Ascends row_key_cmp rows
          → ((q : RowKey) → (is_listed instances q.0 && is_among ks q) ≡ false → find row_key_cmp q rows ≡ find row_key_cmp q (routes h))
          → with_rows instances h rows ks ≡ routes h)
          → with_rows instances h (cond b (with_row rows k (route_from h k.0 k.1)) rows) ks ≡ routes h
      at true l rest =
          rest (with_row rows k (route_from h k.0 k.1)) (ascends_with k (route_from h k.0 k.1) rows a)
          (λ q others. find_with q k (route_from h k.0 k.1) rows a ∙ set_here l q (eq_by_cmp row_key_cmp q k) refl others)
      at false l rest = rest rows a (λ q others. kept_here l q (eq_by_cmp row_key_cmp q k) refl others)

-- ---- the slice in use does not depend on rows
abbrev among : List (Bool × List (LowKey × LowValue)) → List (LowKey × LowValue)
among [] = []
among (s ∷ h) = cond s.0 s.1 (among h)

slice_among : (h : Holdings) → slice_in_use h ≡ among (besides_rows h)
slice_among [] = refl
slice_among (s ∷ h) = ap (cond s.is_up (objects s.map)) (slice_among h)

pub same_slice : (h g : Holdings) → besides_rows h ≡ besides_rows g → slice_in_use h ≡ slice_in_use g
same_slice h g e = slice_among h ∙ ap among e ∙ sym (slice_among g)

pub tables_remade : (h g : Holdings) (t : Tabled) (ks : List RowKey) → AreTables h t → AgreeBut ks h g → AreTables g (with_routes g t ks)
tables_remade h g t ks are agree =
    let slice : slice_in_use h ≡ slice_in_use g = same_slice h g agree.besides in
    let needs : (i : InstanceId) → is_needed h i ≡ is_needed g i = λ i. ap (λ (s : List (LowKey × LowValue)). list_any (λ n. n.0 == i.0) (needed_by s)) slice in
    let listed : (i : InstanceId) → is_listed t.instances i ≡ is_needed g i = λ i. are.instances i ∙ needs i in
    let held : t.rows.routes ≡ routes h = ap (λ (r : AgentRows). r.routes) are.rows in
    let routes_are : with_rows t.instances g t.rows.routes ks ≡ routes g =
    remade t.instances g listed ks t.rows.routes (subst (Ascends row_key_cmp) (sym held) (ascends_held h))
    (λ q others. ap (find row_key_cmp q) held ∙ route_found h q ∙ between q (is_listed t.instances q.0) refl others ∙ sym (route_found g q)) in
    record {
      rows = λ x. record {
        labels = (ap (λ (r : AgentRows). r.labels) are.rows ∙ ap (filter_map (λ (e : LowKey × LowValue). attached e.0 e.1)) slice) x;
        acls = (ap (λ (r : AgentRows). r.acls) are.rows ∙ ap (filter_map (λ (e : LowKey × LowValue). acl_entry e.0 e.1)) slice) x;
        routes = routes_are x;
      };
      instances = listed;
    }
  where
    between : (q : RowKey) (b : Bool) → is_listed t.instances q.0 ≡ b → (is_listed t.instances q.0 && is_among ks q) ≡ false
        → cond (is_needed h q.0) (route_from h q.0 q.1) None ≡ cond (is_needed g q.0) (route_from g q.0 q.1) None
    between q true l others =
        ap (λ b. cond b (route_from h q.0 q.1) None) (sym (are.instances q.0) ∙ l)
        ∙ agree.routes q (sym (ap (λ b. b && is_among ks q) l) ∙ others)
        ∙ sym (ap (λ b. cond b (route_from g q.0 q.1) None) (needed_there q ∙ l))
      where
        needed_there : (q : RowKey) → is_needed g q.0 ≡ is_listed t.instances q.0
        needed_there q = sym (are.instances q.0 ∙ ap (λ (s : List (LowKey × LowValue)). list_any (λ n. n.0 == q.0.0) (needed_by s)) (same_slice h g agree.besides))
    between q false l others =
        ap (λ b. cond b (route_from h q.0 q.1) None) (sym (are.instances q.0) ∙ l)
        ∙ sym (ap (λ b. cond b (route_from g q.0 q.1) None) (needed_there q ∙ l))
      where
        needed_there : (q : RowKey) → is_needed g q.0 ≡ is_listed t.instances q.0
        needed_there q = sym (are.instances q.0 ∙ ap (λ (s : List (LowKey × LowValue)). list_any (λ n. n.0 == q.0.0) (needed_by s)) (same_slice h g agree.besides))

-- ---- what a change of a route leaves as it was
row_keeps : (q k : RowKey) → key_cmp (Row q.0 q.1) (Row k.0 k.1) ≡ row_key_cmp q k
row_keeps q k = ap (λ (r : Ordering). ordering_then (nat_cmp q.0.0 k.0.0) (ordering_then (nat_cmp q.1.addr k.1.addr) r)) (then_equal (nat_cmp q.1.len k.1.len))

abbrev low_of : List (Key × Value) → List (LowKey × LowValue)
low_of es = filter_map (λ e. low_entry e.0 e.1) es

no_object : (i : InstanceId) (p : Block) (k : Key) (v : Value) → Row i p ≡ k → low_entry k v ≡ None
no_object i p k v e = ap (λ (k : Key). low_entry k v) (sym e)

low_put : (i : InstanceId) (p : Block) (v : Value) (es : List (Key × Value)) → low_of (insert_entry key_cmp es (Row i p) v) ≡ low_of es
low_put i p v [] = refl
low_put i p v (e ∷ es) =
    elim (key_cmp (Row i p) e.0) as (λ r. key_cmp (Row i p) e.0 ≡ r → low_of (match_ordering r ((Row i p, v) ∷ e ∷ es) ((e.0, v) ∷ es) (e ∷ insert_entry key_cmp es (Row i p) v)) ≡ cons_option (low_entry e.0 e.1) (low_of es)) [
      | Less ↦ λ s. refl
      | Equal ↦ λ s.
          let same = key_exact (Row i p) e.0 s in
          ap (λ (o : Option (LowKey × LowValue)). cons_option o (low_of es)) (no_object i p e.0 v same ∙ sym (no_object i p e.0 e.1 same))
      | Greater ↦ λ s. ap (cons_option (low_entry e.0 e.1)) (low_put i p v es)
    ] refl

low_gone : (i : InstanceId) (p : Block) (es : List (Key × Value)) → low_of (without key_cmp (Row i p) es) ≡ low_of es
low_gone i p [] = refl
low_gone i p (e ∷ es) =
    elim (eq_by_cmp key_cmp (Row i p) e.0) as (λ b. eq_by_cmp key_cmp (Row i p) e.0 ≡ b → low_of (cond b (without key_cmp (Row i p) es) (e ∷ without key_cmp (Row i p) es)) ≡ cons_option (low_entry e.0 e.1) (low_of es)) [
      | true ↦ λ s.
          low_gone i p es
          ∙ sym (ap (λ (o : Option (LowKey × LowValue)). cons_option o (low_of es)) (no_object i p e.0 e.1 (key_exact (Row i p) e.0 (equal_is (key_cmp (Row i p) e.0) s))))
      | false ↦ λ s. ap (cons_option (low_entry e.0 e.1)) (low_gone i p es)
    ] refl

-- two maps have the same objects, and the same routes but for some
pub record MapsAgreeBut (ks : List RowKey) (m n : Map) : Type 0 where
  pub objects_same : objects m ≡ objects n
  pub rows_same : (q : RowKey) → is_among ks q ≡ false → get m (Row q.0 q.1) ≡ get n (Row q.0 q.1)

or_none_of : (b c : Bool) → (b || c) ≡ false → b ≡ false
or_none_of false c e = refl
or_none_of true c e = absurd (true≢false e)

pub one_changed : (m : Map) (c : Change) (k : RowKey) → route_key (Some c) ≡ Some k → MapsAgreeBut (k ∷ []) m (changed m c)
one_changed m (Put (Row i p) v) k e = record {
  objects_same = sym (ap low_of (entries-insert key_total m (Row i p) v ∙ sym (put-insert_entry key_cmp (Row i p) v (entries m))) ∙ low_put i p v (entries m));
  rows_same = λ q apart. sym (get-insert key_total m (Row i p) v (Row q.0 q.1)
      ∙ ap (λ b. cond b (Some v) (get m (Row q.0 q.1))) (ap is_eq (row_keeps q (i, p)) ∙ ap (eq_by_cmp row_key_cmp q) (same_Some (i, p) k e) ∙ or_none_of (eq_by_cmp row_key_cmp q k) false apart));
}
one_changed m (Drop (Row i p)) k e = record {
  objects_same = sym (ap low_of (entries-remove key_cmp key_total key_exact m (Row i p)) ∙ low_gone i p (entries m));
  rows_same = λ q apart. sym (get-remove key_total m (Row i p) (Row q.0 q.1)
      ∙ ap (λ b. cond b None (get m (Row q.0 q.1))) (ap is_eq (row_keeps q (i, p)) ∙ ap (eq_by_cmp row_key_cmp q) (same_Some (i, p) k e) ∙ or_none_of (eq_by_cmp row_key_cmp q k) false apart));
}
one_changed m (Put (Low l) v) k e = absurd (none_some k e)
one_changed m (Put (Vpn l) v) k e = absurd (none_some k e)
one_changed m (Put (Publish i p) v) k e = absurd (none_some k e)
one_changed m (Put (Subscribe i) v) k e = absurd (none_some k e)
one_changed m (Drop (Low l)) k e = absurd (none_some k e)
one_changed m (Drop (Vpn l)) k e = absurd (none_some k e)
one_changed m (Drop (Publish i p)) k e = absurd (none_some k e)
one_changed m (Drop (Subscribe i)) k e = absurd (none_some k e)

or_parts : (b c : Bool) → (b || c) ≡ false → ((b || false) ≡ false) × (c ≡ false)
or_parts false c e = (refl, e)
or_parts true c e = absurd (true≢false e)

-- records of routes alone
abbrev pub key_of : Item → Option RowKey
key_of item = route_key (change_of item)

pub all_changed : (items : List Item) (ks : List RowKey) (m : Map) → map key_of items ≡ map Some ks → MapsAgreeBut ks m (after m (filter_map change_of items))
all_changed [] [] m e = record { objects_same = refl; rows_same = λ q apart. refl }
all_changed [] (k ∷ ks) m e = absurd (none_some k (ap (λ (l : List (Option RowKey)). get_or l 0 None) e))
all_changed (i ∷ items) [] m e = absurd (true≢false (ap (λ (l : List (Option RowKey)). is_more l) e))
  where
    is_more : List (Option RowKey) → Bool
    is_more [] = false
    is_more (x ∷ l) = true
all_changed (i ∷ items) (k ∷ ks) m e =
    let rest : map key_of items ≡ map Some ks = ap (drop 1) e in
    elim (change_of i) as (λ o. route_key o ≡ Some k → MapsAgreeBut (k ∷ ks) m (after m (cons_option o (filter_map change_of items)))) [
      | None ↦ λ s. absurd (none_some k s)
      | Some c ↦ λ s.
          let first = one_changed m c k s in
          let then = all_changed items ks (changed m c) rest in
          record {
            objects_same = first.objects_same ∙ then.objects_same;
            rows_same = λ q apart.
                let parts = or_parts (eq_by_cmp row_key_cmp q k) (is_among ks q) apart in
                first.rows_same q parts.0 ∙ then.rows_same q parts.1;
          }
    ] (ap (λ (l : List (Option RowKey)). get_or l 0 None) e)

-- a change of what is no route leaves each route as it was
pub rows_stay : (m : Map) (c : Change) → route_key (Some c) ≡ None → (k : RowKey) → get m (Row k.0 k.1) ≡ get (changed m c) (Row k.0 k.1)
rows_stay m (Put (Row i p) v) e k = absurd (none_some (i, p) (sym e))
rows_stay m (Drop (Row i p)) e k = absurd (none_some (i, p) (sym e))
rows_stay m (Put (Low l) v) e k = sym (get-insert key_total m (Low l) v (Row k.0 k.1))
rows_stay m (Put (Vpn l) v) e k = sym (get-insert key_total m (Vpn l) v (Row k.0 k.1))
rows_stay m (Put (Publish i p) v) e k = sym (get-insert key_total m (Publish i p) v (Row k.0 k.1))
rows_stay m (Put (Subscribe i) v) e k = sym (get-insert key_total m (Subscribe i) v (Row k.0 k.1))
rows_stay m (Drop (Low l)) e k = sym (get-remove key_total m (Low l) (Row k.0 k.1))
rows_stay m (Drop (Vpn l)) e k = sym (get-remove key_total m (Vpn l) (Row k.0 k.1))
rows_stay m (Drop (Publish i p)) e k = sym (get-remove key_total m (Publish i p) (Row k.0 k.1))
rows_stay m (Drop (Subscribe i)) e k = sym (get-remove key_total m (Subscribe i) (Row k.0 k.1))

no_key : (o : Option RowKey) → is_some o ≡ false → o ≡ None
no_key None e = refl
no_key (Some k) e = absurd (true≢false e)

-- and so do records
pub all_stay : (items : List Item) (m : Map) → list_any (λ i. is_some (route_key (change_of i))) items ≡ false
    → (k : RowKey) → get m (Row k.0 k.1) ≡ get (after m (filter_map change_of items)) (Row k.0 k.1)
all_stay [] m none k = refl
all_stay (i ∷ items) m none k =
    let parts = or_parts (is_some (route_key (change_of i))) (list_any (λ i. is_some (route_key (change_of i))) items) none in
    elim (change_of i) as (λ o. route_key o ≡ None → get m (Row k.0 k.1) ≡ get (after m (cons_option o (filter_map change_of items))) (Row k.0 k.1)) [
      | None ↦ λ s. all_stay items m parts.1 k
      | Some c ↦ λ s. rows_stay m c s k ∙ all_stay items (changed m c) parts.1 k
    ] (no_key (route_key (change_of i)) (or_none_of (is_some (route_key (change_of i))) (list_any (λ i. is_some (route_key (change_of i))) items) none))

-- ---- one session of an agent
pub session_stays : (h : Holdings) (n : ℕ) (s g : Heard) → ((d : Heard) → get_or h n d ≡ s) → g.is_up ≡ s.is_up
    → ((k : RowKey) → get s.map (Row k.0 k.1) ≡ get g.map (Row k.0 k.1)) → SameRoutes h (set h n g)
session_stays [] n s g at up same = record { routes = λ k. refl }
session_stays (t ∷ h) zero s g at up same =
    let here : t ≡ s = at t in
    record {
      routes = λ k.
          let row = ap (λ (y : Heard). get y.map (Row k.0 k.1)) here ∙ same k in
          λ x. cond ((ap (λ (y : Heard). y.is_up) here ∙ sym up) x) (first_some (as_hop (row x)) (route_from h k.0 k.1)) (route_from h k.0 k.1);
    }
session_stays (t ∷ h) (suc n) s g at up same =
    let rest = session_stays h n s g at up same in
    record { routes = λ k. λ x. cond t.is_up (first_some (as_hop (get t.map (Row k.0 k.1))) (rest.routes k x)) (rest.routes k x) }

pub session_changed : (h : Holdings) (n : ℕ) (s g : Heard) (ks : List RowKey) → ((d : Heard) → get_or h n d ≡ s) → g.is_up ≡ s.is_up → MapsAgreeBut ks s.map g.map → AgreeBut ks h (set h n g)
session_changed [] n s g ks at up agree = record { besides = refl; routes = λ k apart. refl }
session_changed (t ∷ h) zero s g ks at up agree =
    let here : t ≡ s = at t in
    record {
      besides = ap (λ (x : Bool × List (LowKey × LowValue)). x ∷ besides_rows h) (λ x. ((ap (λ (y : Heard). y.is_up) here ∙ sym up) x, (ap (λ (y : Heard). objects y.map) here ∙ agree.objects_same) x));
      routes = λ k apart.
          let row = ap (λ (y : Heard). get y.map (Row k.0 k.1)) here ∙ agree.rows_same k apart in
          λ x. cond ((ap (λ (y : Heard). y.is_up) here ∙ sym up) x) (first_some (as_hop (row x)) (route_from h k.0 k.1)) (route_from h k.0 k.1);
    }
session_changed (t ∷ h) (suc n) s g ks at up agree =
    let rest = session_changed h n s g ks at up agree in
    record {
      besides = ap (λ (l : List (Bool × List (LowKey × LowValue))). (t.is_up, objects t.map) ∷ l) rest.besides;
      routes = λ k apart. λ x. cond t.is_up (first_some (as_hop (get t.map (Row k.0 k.1))) (rest.routes k apart x)) (rest.routes k apart x);
    }

-- ---- the route of the first session
pub route_first : (s : Heard) (h : Holdings) (i : InstanceId) (p : Block) → route_from (s ∷ h) i p ≡ first_some (route_from (s ∷ []) i p) (route_from h i p)
route_first s h i p =
    elim s.is_up as (λ b. cond b (first_some (as_hop (get s.map (Row i p))) (route_from h i p)) (route_from h i p)
    ≡ first_some (cond b (first_some (as_hop (get s.map (Row i p))) None) None) (route_from h i p)) [
      | true ↦ ap (λ (o : Option RouteEntry). first_some o (route_from h i p)) (sym (or_none (as_hop (get s.map (Row i p)))))
      | false ↦ refl
    ]
