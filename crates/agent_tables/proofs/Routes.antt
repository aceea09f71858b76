-- The routes of tables, after some were put into them.
use Rattle.std.specs.Prelude.{◌≡◌, ℕ, ◌==◌, ◌||◌, List, [], ◌∷◌, ◌++◌, map, Bool, true, false, cond, is_some}
use Rattle.std.specs.declared.cmp.Ordering.{Ordering}
use Rattle.std.specs.declared.cmp.Ordering.TheVariants.{Less, Equal, Greater}
use Rattle.std.specs.declared.option.Option.{Option}
use Rattle.std.specs.declared.option.Option.TheVariants.{Some, None}
use Rattle.std.specs.BTreeMap.{insert_entry, is_at}
use Rattle.std.specs.Ordering.{nat_cmp, is_eq, match_ordering, ordering_then}
use Rattle.std.specs.Cmp.{nat_cmp_total, tied_itself}
use Rattle.std.specs.List.{AllByRecursion, cons_option, filter, filter_map, flat_map, list_any}
use Rattle.std.specs.Map.{lookup, set_value}
use Rattle.std.specs.FinMap.{find, entries, from_entries, get-entries, get-from_entries, nat_cmp-IsAntisymmetric}
use Rattle.std.proofs.lemmas.Bool.{eqb-true, true≢false}
use Rattle.std.proofs.lemmas.List.Elements.{filter_map-append}
use Rattle.std.proofs.lemmas.Option.{same_Some}
use Rattle.std.proofs.Common.{refl, sym, ◌∙◌, ap, subst, append-nil}
use Rattle.ov_sync.proofs.Ascending.{Over, Ascends}
use Rattle.ov_types.specs.Keys.{row_key_cmp}
use Rattle.ov_types.specs.Prefix.{Block, block_cmp}
use Rattle.ov_types.specs.declared.numbers.InstanceId.{InstanceId}
use Rattle.ov_types.specs.declared.rows.Entry.{Entry as RouteEntry}
use Rattle.vrouter_fib.proofs.Keys.{same_number}
use Rattle.packet_trace.specs.Tables.{rows_in}
use Rattle.route_targets.specs.Forwarding.{route_in}
use Rattle.node_core.specs.NodeModel.Agent.{Heard, Holdings, first_some, is_needed, needed, routes, rows_heard}
use Rattle.node_core.proofs.NodeModel.Heard.{find_either, row_total, row_exact}
use Rattle.node_core.proofs.NodeModel.Members.{none_some}
use Rattle.node_core.proofs.NodeModel.Orders.{prefix_total, prefix_exact}
use Rattle.agent_tables.specs.Routes.{Table, instance_order, has_table, kept, kept_in, kept_all, kept_where, routes_in, routes_of, routes_on}
use Rattle.agent_tables.proofs.Lists.{or_none, or_assoc, or_there}
use Rattle.agent_tables.proofs.Ordered.{find-lookup, same_lists, ascends_map, ascends_inserted, find-inserted, ascends_filter, find-filter}

abbrev pub Routed : Type 0
Routed = (InstanceId × Block) × RouteEntry

abbrev pub key : InstanceId → Block → InstanceId × Block
key i p = (i, p)

-- ---- instances by number
pub same_instance : (i j : InstanceId) → is_eq (instance_order i j) ≡ (j.0 == i.0)
same_instance i j = same_number i.0 j.0

less_apart : (m n : ℕ) → nat_cmp m n ≡ Less → (n == m) ≡ false
less_apart m n e = sym (same_number m n) ∙ ap is_eq e

-- ---- one table
-- a route that is kept counts where the table had none
kept_finds : (routes : List (Block × RouteEntry)) (p : Block) (e : RouteEntry) → Ascends block_cmp routes → (q : Block) → find block_cmp q (kept routes p e) ≡ first_some (find block_cmp q routes) (find block_cmp q ((p, e) ∷ []))
kept_finds routes p e h q = at (is_some (lookup (is_at (block_cmp p)) routes)) (block_cmp q p) refl refl
  where
    there : is_some (lookup (is_at (block_cmp p)) routes) ≡ true → q ≡ p → is_some (find block_cmp q routes) ≡ true
    there s same = ap (λ (k : Block). is_some (find block_cmp k routes)) same ∙ ap is_some (find-lookup block_cmp prefix_total p routes) ∙ s

    absent : is_some (lookup (is_at (block_cmp p)) routes) ≡ false → q ≡ p → find block_cmp q routes ≡ None
    absent s same = none (find block_cmp q routes) (ap (λ (k : Block). is_some (find block_cmp k routes)) same ∙ ap is_some (find-lookup block_cmp prefix_total p routes) ∙ s)
      where
        none : (o : Option RouteEntry) → is_some o ≡ false → o ≡ None
        none None e = refl
        none (Some x) e = absurd (true≢false e)

    at : (b : Bool) (r : Ordering) → is_some (lookup (is_at (block_cmp p)) routes) ≡ b → block_cmp q p ≡ r
        → find block_cmp q (cond b routes (insert_entry block_cmp routes p e)) ≡ first_some (find block_cmp q routes) (cond (is_eq r) (Some e) None)
    at true Less s r = sym (or_none (find block_cmp q routes))
    at true Greater s r = sym (or_none (find block_cmp q routes))
    at true Equal s r = sym (or_there (find block_cmp q routes) (Some e) (there s (prefix_exact q p r)))
    at false Less s r = find-inserted block_cmp prefix_total q p e routes h ∙ ap (λ r. cond (is_eq r) (Some e) (find block_cmp q routes)) r ∙ sym (or_none (find block_cmp q routes))
    at false Greater s r = find-inserted block_cmp prefix_total q p e routes h ∙ ap (λ r. cond (is_eq r) (Some e) (find block_cmp q routes)) r ∙ sym (or_none (find block_cmp q routes))
    at false Equal s r =
        find-inserted block_cmp prefix_total q p e routes h ∙ ap (λ r. cond (is_eq r) (Some e) (find block_cmp q routes)) r
        ∙ ap (λ (o : Option RouteEntry). first_some o (Some e)) (sym (absent s (prefix_exact q p r)))

kept_ascends : (routes : List (Block × RouteEntry)) (p : Block) (e : RouteEntry) → Ascends block_cmp routes → Ascends block_cmp (kept routes p e)
kept_ascends routes p e h =
    elim (is_some (lookup (is_at (block_cmp p)) routes)) as (λ b. Ascends block_cmp (cond b routes (insert_entry block_cmp routes p e))) [
      | true ↦ h
      | false ↦ ascends_inserted block_cmp prefix_total prefix_exact p e routes h
    ]

-- ---- the tables in which one is put
module _ (i : InstanceId) (p : Block) (e : RouteEntry) where
  has_kept : (j : InstanceId) (ts : List Table) → has_table (kept_in ts i p e) j ≡ has_table ts j
  has_kept j [] = refl
  has_kept j (t ∷ ts) =
      elim (t.0.0 == i.0) as (λ b. has_table (cond b ((t.0, kept t.1 p e) ∷ ts) (t ∷ kept_in ts i p e)) j ≡ (t.0.0 == j.0 || has_table ts j)) [
        | true ↦ refl
        | false ↦ ap (λ b. t.0.0 == j.0 || b) (has_kept j ts)
      ]

  over_kept : (n : InstanceId) (ts : List Table) → Over instance_order n ts → Over instance_order n (kept_in ts i p e)
  over_kept n [] h = tt
  over_kept n (t ∷ ts) h =
      elim (t.0.0 == i.0) as (λ b. Over instance_order n (cond b ((t.0, kept t.1 p e) ∷ ts) (t ∷ kept_in ts i p e))) [ true ↦ h | false ↦ (h.0, over_kept n ts h.1) ]

  pub ascends_kept : (ts : List Table) → Ascends instance_order ts → Ascends instance_order (kept_in ts i p e)
  ascends_kept [] h = tt
  ascends_kept (t ∷ ts) h =
      elim (t.0.0 == i.0) as (λ b. Ascends instance_order (cond b ((t.0, kept t.1 p e) ∷ ts) (t ∷ kept_in ts i p e))) [ true ↦ h | false ↦ (over_kept t.0 ts h.0, ascends_kept ts h.1) ]

  each_kept : (ts : List Table) → AllByRecursion (λ t. Ascends block_cmp t.1) ts → AllByRecursion (λ t. Ascends block_cmp t.1) (kept_in ts i p e)
  each_kept [] h = tt
  each_kept (t ∷ ts) h =
      elim (t.0.0 == i.0) as (λ b. AllByRecursion (λ t. Ascends block_cmp t.1) (cond b ((t.0, kept t.1 p e) ∷ ts) (t ∷ kept_in ts i p e))) [
        | true ↦ (kept_ascends t.1 p e h.0, h.1)
        | false ↦ (h.0, each_kept ts h.1)
      ]

  -- as a map puts it
  pub set_kept : (ts : List Table) (v w : List (Block × RouteEntry)) → lookup (is_at (instance_order i)) ts ≡ Some v → w ≡ kept v p e → set_value (is_at (instance_order i)) ts w ≡ kept_in ts i p e
  set_kept [] v w found is = absurd (none_some v found)
  set_kept (t ∷ ts) v w found is =
      ap (λ b. cond b ((t.0, w) ∷ ts) (t ∷ set_value (is_at (instance_order i)) ts w)) (same_instance i t.0)
      ∙ at (t.0.0 == i.0) (sym (ap (λ b. cond b (Some t.1) (lookup (is_at (instance_order i)) ts)) (same_instance i t.0)) ∙ found) (λ later. set_kept ts v w later is)
    where
      at : (b : Bool) → cond b (Some t.1) (lookup (is_at (instance_order i)) ts) ≡ Some v → (lookup (is_at (instance_order i)) ts ≡ Some v → set_value (is_at (instance_order i)) ts w ≡ kept_in ts i p e)
          → cond b ((t.0, w) ∷ ts) (t ∷ set_value (is_at (instance_order i)) ts w) ≡ cond b ((t.0, kept t.1 p e) ∷ ts) (t ∷ kept_in ts i p e)
      at true found rest = ap (λ (routes : List (Block × RouteEntry)). (t.0, routes) ∷ ts) (is ∙ ap (λ (routes : List (Block × RouteEntry)). kept routes p e) (sym (same_Some t.1 v found)))
      at false found rest = ap (λ (l : List Table). t ∷ l) (rest found)

  pub none_kept : (ts : List Table) → lookup (is_at (instance_order i)) ts ≡ None → ts ≡ kept_in ts i p e
  none_kept [] none = refl
  none_kept (t ∷ ts) none =
      at (t.0.0 == i.0) (sym (ap (λ b. cond b (Some t.1) (lookup (is_at (instance_order i)) ts)) (same_instance i t.0)) ∙ none) (λ later. none_kept ts later)
    where
      at : (b : Bool) → cond b (Some t.1) (lookup (is_at (instance_order i)) ts) ≡ None → (lookup (is_at (instance_order i)) ts ≡ None → ts ≡ kept_in ts i p e) → t ∷ ts ≡ cond b ((t.0, kept t.1 p e) ∷ ts) (t ∷ kept_in ts i p e)
      at true found rest = absurd (none_some t.1 (sym found))
      at false found rest = ap (λ (l : List Table). t ∷ l) (rest found)

-- ---- where the tables lead
abbrev in_table : InstanceId → Block → Table → Option RouteEntry
in_table i q t = cond (t.0.0 == i.0) (find block_cmp q t.1) None

abbrev in_tables : InstanceId → Block → List Table → Option RouteEntry
in_tables i q [] = None
in_tables i q (t ∷ ts) = first_some (in_table i q t) (in_tables i q ts)

find_rows : (i n : InstanceId) (q : Block) (routes : List (Block × RouteEntry)) → find row_key_cmp (key i q) (rows_in n routes) ≡ cond (n.0 == i.0) (find block_cmp q routes) None
find_rows i n q [] = elim (n.0 == i.0) as (λ b. find row_key_cmp (key i q) (rows_in n []) ≡ cond b (find {X = RouteEntry} block_cmp q []) None) [ true ↦ refl | false ↦ refl ]
find_rows i n q (r ∷ routes) =
    ap (λ (o : Option RouteEntry). cond (is_eq (ordering_then (nat_cmp i.0 n.0) (block_cmp q r.0))) (Some r.1) o) (find_rows i n q routes)
    ∙ at (nat_cmp i.0 n.0) (n.0 == i.0) (sym (same_number i.0 n.0))
  where
    at : (c : Ordering) (b : Bool) → b ≡ is_eq c → cond (is_eq (ordering_then c (block_cmp q r.0))) (Some r.1) (cond b (find block_cmp q routes) None) ≡ cond b (cond (is_eq (block_cmp q r.0)) (Some r.1) (find block_cmp q routes)) None
    at Equal true e = refl
    at Less false e = refl
    at Greater false e = refl
    at Equal false e = absurd (true≢false (sym e))
    at Less true e = absurd (true≢false e)
    at Greater true e = absurd (true≢false e)

pub find_routes : (i : InstanceId) (q : Block) (ts : List Table) → find row_key_cmp (key i q) (routes_of ts) ≡ in_tables i q ts
find_routes i q [] = refl
find_routes i q (t ∷ ts) =
    find_either row_key_cmp (key i q) (rows_in t.0 t.1) (routes_of ts)
    ∙ (λ k. first_some (find_rows i t.0 q t.1 k) (find_routes i q ts k))

-- a table below all others is the only one of its instance
past : (i n : InstanceId) (q : Block) (ts : List Table) → (n.0 == i.0) ≡ true → Over instance_order n ts → in_tables i q ts ≡ None
past i n q [] e h = refl
past i n q (t ∷ ts) e h =
    let apart : (t.0.0 == i.0) ≡ false = ap (λ m. t.0.0 == m) (sym (eqb-true n.0 i.0 e)) ∙ less_apart n.0 t.0.0 h.0 in
    ap (λ b. first_some (cond b (find block_cmp q t.1) None) (in_tables i q ts)) apart ∙ past i n q ts e h.1

module _ (i : InstanceId) (p : Block) (e : RouteEntry) (j : InstanceId) (q : Block) where
  -- what the route itself leads to
  abbrev one : Option RouteEntry
  one = find row_key_cmp (key j q) ((key i p, e) ∷ [])

  one_is : one ≡ cond (i.0 == j.0) (find block_cmp q ((p, e) ∷ [])) None
  one_is = find_rows j i q ((p, e) ∷ [])

  swapped : (a b : Option RouteEntry) → b ≡ None → first_some (first_some a one) b ≡ first_some (first_some a b) one
  swapped a b none = ap (first_some (first_some a one)) none ∙ or_none (first_some a one) ∙ ap (λ (o : Option RouteEntry). first_some o one) (sym (or_none a) ∙ ap (first_some a) (sym none))

  here : (t : Table) (ts : List Table) → Over instance_order t.0 ts → Ascends block_cmp t.1 → (t.0.0 == i.0) ≡ true
      → first_some (in_table j q (t.0, kept t.1 p e)) (in_tables j q ts) ≡ first_some (first_some (in_table j q t) (in_tables j q ts)) one
  here t ts over asc same = at (t.0.0 == j.0) refl
    where
      moved : (b : Bool) → (t.0.0 == j.0) ≡ b → one ≡ cond b (find block_cmp q ((p, e) ∷ [])) None
      moved b at = one_is ∙ ap (λ b. cond b (find block_cmp q ((p, e) ∷ [])) None) (ap (λ m. m == j.0) (sym (eqb-true t.0.0 i.0 same)) ∙ at)

      at : (b : Bool) → (t.0.0 == j.0) ≡ b → first_some (cond b (find block_cmp q (kept t.1 p e)) None) (in_tables j q ts) ≡ first_some (first_some (cond b (find block_cmp q t.1) None) (in_tables j q ts)) one
      at true s =
          ap (λ (o : Option RouteEntry). first_some o (in_tables j q ts)) (kept_finds t.1 p e asc q ∙ ap (first_some (find block_cmp q t.1)) (sym (moved true s)))
          ∙ swapped (find block_cmp q t.1) (in_tables j q ts) (past j t.0 q ts s over)
      at false s = sym (ap (first_some (in_tables j q ts)) (moved false s) ∙ or_none (in_tables j q ts))

  -- a route that is kept counts where its instance has a table that had none
  pub kept_leads : (ts : List Table) → Ascends instance_order ts → AllByRecursion (λ t. Ascends block_cmp t.1) ts
      → in_tables j q (kept_in ts i p e) ≡ first_some (in_tables j q ts) (cond (has_table ts i) one None)
  kept_leads [] h each = refl
  kept_leads (t ∷ ts) h each = at (t.0.0 == i.0) refl (kept_leads ts h.1 each.1)
    where
      at : (b : Bool) → (t.0.0 == i.0) ≡ b → in_tables j q (kept_in ts i p e) ≡ first_some (in_tables j q ts) (cond (has_table ts i) one None)
          → in_tables j q (cond b ((t.0, kept t.1 p e) ∷ ts) (t ∷ kept_in ts i p e)) ≡ first_some (first_some (in_table j q t) (in_tables j q ts)) (cond (b || has_table ts i) one None)
      at true s rest = here t ts h.0 each.0 s
      at false s rest = ap (first_some (in_table j q t)) rest ∙ sym (or_assoc (in_table j q t) (in_tables j q ts) (cond (has_table ts i) one None))

-- ---- all that are put
abbrev pub in_some : List Table → List Routed → List Routed
in_some ts rs = filter (λ r. has_table ts r.0.0) rs

same_tests : (ts us : List Table) → ((i : InstanceId) → has_table ts i ≡ has_table us i) → (rs : List Routed) → in_some ts rs ≡ in_some us rs
same_tests ts us same rs = λ k. filter (λ r. same r.0.0 k) rs

all_lead : (rs : List Routed) (ts : List Table) → Ascends instance_order ts → AllByRecursion (λ t. Ascends block_cmp t.1) ts → (j : InstanceId) (q : Block)
    → in_tables j q (kept_all ts rs) ≡ first_some (in_tables j q ts) (find row_key_cmp (key j q) (in_some ts rs))
all_lead [] ts h each j q = sym (or_none (in_tables j q ts))
all_lead (r ∷ rs) ts h each j q =
    let i : InstanceId = r.0.0 in
    let next : List Table = kept_in ts i r.0.1 r.1 in
    all_lead rs next (ascends_kept i r.0.1 r.1 ts h) (each_kept i r.0.1 r.1 ts each) j q
    ∙ ap (λ (l : List Routed). first_some (in_tables j q next) (find row_key_cmp (key j q) l)) (same_tests next ts (λ n. has_kept i r.0.1 r.1 n ts) rs)
    ∙ ap (λ (o : Option RouteEntry). first_some o (find row_key_cmp (key j q) (in_some ts rs))) (kept_leads i r.0.1 r.1 j q ts h each)
    ∙ or_assoc (in_tables j q ts) (cond (has_table ts i) (one i r.0.1 r.1 j q) None) (find row_key_cmp (key j q) (in_some ts rs))
    ∙ ap (first_some (in_tables j q ts)) (first (has_table ts i))
  where
    first : (b : Bool) → first_some (cond b (one r.0.0 r.0.1 r.1 j q) None) (find row_key_cmp (key j q) (in_some ts rs)) ≡ find row_key_cmp (key j q) (cond b (r ∷ in_some ts rs) (in_some ts rs))
    first true = sym (find_either row_key_cmp (key j q) (r ∷ []) (in_some ts rs))
    first false = refl

all_ascend : (rs : List Routed) (ts : List Table) → Ascends instance_order ts → Ascends instance_order (kept_all ts rs)
all_ascend [] ts h = h
all_ascend (r ∷ rs) ts h = all_ascend rs (kept_in ts r.0.0 r.0.1 r.1) (ascends_kept r.0.0 r.0.1 r.1 ts h)

all_each : (rs : List Routed) (ts : List Table) → AllByRecursion (λ t. Ascends block_cmp t.1) ts → AllByRecursion (λ t. Ascends block_cmp t.1) (kept_all ts rs)
all_each [] ts h = h
all_each (r ∷ rs) ts h = all_each rs (kept_in ts r.0.0 r.0.1 r.1) (each_kept r.0.0 r.0.1 r.1 ts h)

-- ---- the routes of tables stand in the order of their keys
over_append : (k : InstanceId × Block) (xs ys : List Routed) → Over row_key_cmp k xs → Over row_key_cmp k ys → Over row_key_cmp k (xs ++ ys)
over_append k [] ys a b = b
over_append k (x ∷ xs) ys a b = (a.0, over_append k xs ys a.1 b)

over_rows : (n : InstanceId) (p : Block) (routes : List (Block × RouteEntry)) → Over block_cmp p routes → Over row_key_cmp (key n p) (rows_in n routes)
over_rows n p [] h = tt
over_rows n p (r ∷ routes) h = (ap (λ c. ordering_then c (block_cmp p r.0)) (tied_itself nat_cmp_total n.0) ∙ h.0, over_rows n p routes h.1)

over_later : (n m : InstanceId) (p : Block) (routes : List (Block × RouteEntry)) → instance_order n m ≡ Less → Over row_key_cmp (key n p) (rows_in m routes)
over_later n m p [] h = tt
over_later n m p (r ∷ routes) h = (ap (λ c. ordering_then c (block_cmp p r.0)) h, over_later n m p routes h)

pub over_routes : (n : InstanceId) (p : Block) (ts : List Table) → Over instance_order n ts → Over row_key_cmp (key n p) (routes_of ts)
over_routes n p [] h = tt
over_routes n p (t ∷ ts) h = over_append (key n p) (rows_in t.0 t.1) (routes_of ts) (over_later n t.0 p t.1 h.0) (over_routes n p ts h.1)

rows_before : (n : InstanceId) (routes : List (Block × RouteEntry)) (ts : List Table) → Ascends block_cmp routes → Over instance_order n ts → Ascends row_key_cmp (routes_of ts) → Ascends row_key_cmp (rows_in n routes ++ routes_of ts)
rows_before n [] ts a over h = h
rows_before n (r ∷ routes) ts a over h =
    (over_append (key n r.0) (rows_in n routes) (routes_of ts) (over_rows n r.0 routes a.0) (over_routes n r.0 ts over), rows_before n routes ts a.1 over h)

routes_ascend : (ts : List Table) → Ascends instance_order ts → AllByRecursion (λ t. Ascends block_cmp t.1) ts → Ascends row_key_cmp (routes_of ts)
routes_ascend [] h each = tt
routes_ascend (t ∷ ts) h each = rows_before t.0 t.1 ts each.0 h.0 (routes_ascend ts h.1 each.1)

-- ---- tables that were empty
empty_each : (ts : List Table) → AllByRecursion (λ t. t.1 ≡ []) ts → AllByRecursion (λ t. Ascends block_cmp t.1) ts
empty_each [] h = tt
empty_each (t ∷ ts) h = (subst (Ascends block_cmp) (sym h.0) tt, empty_each ts h.1)

lead_nowhere : (j : InstanceId) (q : Block) (ts : List Table) → AllByRecursion (λ t. t.1 ≡ []) ts → in_tables j q ts ≡ None
lead_nowhere j q [] h = refl
lead_nowhere j q (t ∷ ts) h =
    (λ k. first_some (cond (t.0.0 == j.0) (find block_cmp q (h.0 k)) None) (lead_nowhere j q ts h.1 k)) ∙ none (t.0.0 == j.0)
  where
    none : (b : Bool) → first_some (cond b (find {X = RouteEntry} block_cmp q []) None) None ≡ None
    none true = refl
    none false = refl

-- the routes that are put into empty tables are the first of each prefix of the instances that have a table
pub routes_put : (ts : List Table) (rs : List Routed) → Ascends instance_order ts → AllByRecursion (λ t. t.1 ≡ []) ts → routes_of (kept_all ts rs) ≡ in_some ts (entries (from_entries {R = row_key_cmp} rs))
routes_put ts rs h empty =
    let each = empty_each ts empty in
    let whole = from_entries {R = row_key_cmp} rs in
    same_lists row_key_cmp row_total row_exact (routes_of (kept_all ts rs)) (in_some ts (entries whole))
    (routes_ascend (kept_all ts rs) (all_ascend rs ts h) (all_each rs ts each))
    (ascends_filter row_key_cmp (λ k. has_table ts k.0) (entries whole) (ascends_map row_key_cmp row_total row_exact whole))
    (λ k.
    find_routes k.0 k.1 (kept_all ts rs) ∙ all_lead rs ts h each k.0 k.1
    ∙ ap (λ (o : Option RouteEntry). first_some o (find row_key_cmp k (in_some ts rs))) (lead_nowhere k.0 k.1 ts empty)
    ∙ find-filter row_key_cmp (λ k. has_table ts k.0) row_exact k rs
    ∙ ap (λ (o : Option RouteEntry). cond (has_table ts k.0) o None) (sym (get-from_entries row_total rs k) ∙ get-entries whole k)
    ∙ sym (find-filter row_key_cmp (λ k. has_table ts k.0) row_exact k (entries whole)))

-- ---- the keys of tables
pub keys_kept : (i : InstanceId) (p : Block) (e : RouteEntry) (ts : List Table) → map (λ t. t.0) (kept_in ts i p e) ≡ map (λ t. t.0) ts
keys_kept i p e [] = refl
keys_kept i p e (t ∷ ts) =
    elim (t.0.0 == i.0) as (λ b. map (λ (t : Table). t.0) (cond b ((t.0, kept t.1 p e) ∷ ts) (t ∷ kept_in ts i p e)) ≡ t.0 ∷ map (λ t. t.0) ts) [
      | true ↦ refl
      | false ↦ ap (λ (l : List InstanceId). t.0 ∷ l) (keys_kept i p e ts)
    ]

pub keys_all : (rs : List Routed) (ts : List Table) → map (λ t. t.0) (kept_all ts rs) ≡ map (λ t. t.0) ts
keys_all [] ts = refl
keys_all (r ∷ rs) ts = keys_all rs (kept_in ts r.0.0 r.0.1 r.1) ∙ keys_kept r.0.0 r.0.1 r.1 ts

pub kept_append : (xs ys : List Routed) (ts : List Table) → kept_all ts (xs ++ ys) ≡ kept_all (kept_all ts xs) ys
kept_append [] ys ts = refl
kept_append (x ∷ xs) ys ts = kept_append xs ys (kept_in ts x.0.0 x.0.1 x.1)

pub kept_first : (o : Option Routed) (rs : List Routed) (ts : List Table) → kept_all ts (cons_option o rs) ≡ kept_all (kept_where ts o) rs
kept_first None rs ts = refl
kept_first (Some r) rs ts = refl

-- ---- a table more
pub has_inserted : (n i : InstanceId) (routes : List (Block × RouteEntry)) (ts : List Table) → has_table (insert_entry instance_order ts n routes) i ≡ (n.0 == i.0 || has_table ts i)
has_inserted n i routes [] = refl
has_inserted n i routes (t ∷ ts) =
    elim (instance_order n t.0) as (λ r. instance_order n t.0 ≡ r → has_table (match_ordering r ((n, routes) ∷ t ∷ ts) ((t.0, routes) ∷ ts) (t ∷ insert_entry instance_order ts n routes)) i ≡ (n.0 == i.0 || (t.0.0 == i.0 || has_table ts i))) [
      | Less ↦ λ e. refl
      | Equal ↦ λ e. ap (λ m. m == i.0 || has_table ts i) (sym (nat_cmp-IsAntisymmetric n.0 t.0.0 e)) ∙ or_same (n.0 == i.0) (has_table ts i) ∙ ap (λ m. n.0 == i.0 || (m == i.0 || has_table ts i)) (nat_cmp-IsAntisymmetric n.0 t.0.0 e)
      | Greater ↦ λ e. ap (λ b. t.0.0 == i.0 || b) (has_inserted n i routes ts) ∙ or_swap (t.0.0 == i.0) (n.0 == i.0) (has_table ts i)
    ] refl
  where
    or_same : (a b : Bool) → (a || b) ≡ (a || (a || b))
    or_same true b = refl
    or_same false b = refl

    or_swap : (a b c : Bool) → (a || (b || c)) ≡ (b || (a || c))
    or_swap true true c = refl
    or_swap true false c = refl
    or_swap false b c = refl

pub one_opened : (n i : InstanceId) (ts : List Table) (left : List InstanceId) (all : Bool) → (has_table ts i || list_any (λ m. m.0 == i.0) (n ∷ left)) ≡ all
    → (has_table (insert_entry instance_order ts n []) i || list_any (λ m. m.0 == i.0) left) ≡ all
one_opened n i ts left all h = ap (λ b. b || list_any (λ m. m.0 == i.0) left) (has_inserted n i [] ts) ∙ or_turn (n.0 == i.0) (has_table ts i) (list_any (λ m. m.0 == i.0) left) ∙ h
  where
    or_turn : (a b c : Bool) → ((a || b) || c) ≡ (b || (a || c))
    or_turn true true c = refl
    or_turn true false c = refl
    or_turn false b c = refl

pub empty_inserted : (n : InstanceId) (ts : List Table) → AllByRecursion (λ t. t.1 ≡ []) ts → AllByRecursion (λ t. t.1 ≡ []) (insert_entry instance_order ts n [])
empty_inserted n [] h = (refl, tt)
empty_inserted n (t ∷ ts) h =
    elim (instance_order n t.0) as (λ r. AllByRecursion (λ t. t.1 ≡ []) (match_ordering r ((n, []) ∷ t ∷ ts) ((t.0, []) ∷ ts) (t ∷ insert_entry instance_order ts n []))) [
      | Less ↦ (refl, h)
      | Equal ↦ (refl, h.1)
      | Greater ↦ (h.0, empty_inserted n ts h.1)
    ]

-- ---- the routes of one instance
abbrev pub found_or_none : Option (List (Block × RouteEntry)) → List (Block × RouteEntry)
found_or_none None = []
found_or_none (Some routes) = routes

only_rows : (i n : InstanceId) (b : Bool) → (n.0 == i.0) ≡ b → (routes : List (Block × RouteEntry)) → filter_map (route_in i) (rows_in n routes) ≡ cond b routes []
only_rows i n true e [] = refl
only_rows i n false e [] = refl
only_rows i n true e (r ∷ routes) = ap (λ b. cons_option (cond b (Some r) None) (filter_map (route_in i) (rows_in n routes))) e ∙ ap (λ (l : List (Block × RouteEntry)). r ∷ l) (only_rows i n true e routes)
only_rows i n false e (r ∷ routes) = ap (λ b. cons_option (cond b (Some r) None) (filter_map (route_in i) (rows_in n routes))) e ∙ only_rows i n false e routes

only_past : (i n : InstanceId) (ts : List Table) → (n.0 == i.0) ≡ true → Over instance_order n ts → filter_map (route_in i) (routes_of ts) ≡ []
only_past i n [] e h = refl
only_past i n (t ∷ ts) e h =
    let apart : (t.0.0 == i.0) ≡ false = ap (λ m. t.0.0 == m) (sym (eqb-true n.0 i.0 e)) ∙ less_apart n.0 t.0.0 h.0 in
    filter_map-append (route_in i) (rows_in t.0 t.1) (routes_of ts) ∙ (λ k. only_rows i t.0 false apart t.1 k ++ only_past i n ts e h.1 k)

pub routes_in_one : (i : InstanceId) (ts : List Table) → Ascends instance_order ts → filter_map (route_in i) (routes_of ts) ≡ found_or_none (lookup (is_at (instance_order i)) ts)
routes_in_one i [] h = refl
routes_in_one i (t ∷ ts) h =
    filter_map-append (route_in i) (rows_in t.0 t.1) (routes_of ts) ∙ at (t.0.0 == i.0) refl (routes_in_one i ts h.1)
    ∙ ap (λ b. found_or_none (cond b (Some t.1) (lookup (is_at (instance_order i)) ts))) (sym (same_instance i t.0))
  where
    at : (b : Bool) → (t.0.0 == i.0) ≡ b → filter_map (route_in i) (routes_of ts) ≡ found_or_none (lookup (is_at (instance_order i)) ts)
        → filter_map (route_in i) (rows_in t.0 t.1) ++ filter_map (route_in i) (routes_of ts) ≡ found_or_none (cond b (Some t.1) (lookup (is_at (instance_order i)) ts))
    at true e rest = (λ k. only_rows i t.0 true e t.1 k ++ only_past i t.0 ts e h.0 k) ∙ append-nil t.1
    at false e rest = (λ k. only_rows i t.0 false e t.1 k ++ rest k)

-- ---- what an agent has heard
pub heard_first : (s : Heard) (h : Holdings) → rows_heard (s ∷ h) ≡ routes_on s ++ rows_heard h
heard_first s h =
    elim s.is_up as (λ b. flat_map (λ s. routes_in s.map) (cond b (s ∷ filter (λ s. s.is_up) h) (filter (λ s. s.is_up) h)) ≡ cond b (routes_in s.map) [] ++ rows_heard h) [ true ↦ refl | false ↦ refl ]

pub heard_turn : (s : Heard) (h : Holdings) (ts us all : List Table) → us ≡ kept_all ts (routes_on s) → kept_all ts (rows_heard (s ∷ h)) ≡ all → kept_all us (rows_heard h) ≡ all
heard_turn s h ts us all e so_far =
    ap (λ (l : List Table). kept_all l (rows_heard h)) e ∙ sym (kept_append (routes_on s) (rows_heard h) ts) ∙ ap (kept_all ts) (sym (heard_first s h)) ∙ so_far

pub routes_heard : (h : Holdings) (ts : List Table) (needs : List InstanceId) → Ascends instance_order ts → AllByRecursion (λ t. t.1 ≡ []) ts
    → ((i : InstanceId) → has_table ts i ≡ list_any (λ n. n.0 == i.0) needs) → needs ≡ needed h → routes_of (kept_all ts (rows_heard h)) ≡ routes h
routes_heard h ts needs ascending empty tables need =
    let tests : (i : InstanceId) → has_table ts i ≡ is_needed h i = λ i. tables i ∙ ap (list_any (λ n. n.0 == i.0)) need in
    routes_put ts (rows_heard h) ascending empty
    ∙ (λ k. filter (λ r. tests r.0.0 k) (entries (from_entries {R = row_key_cmp} (rows_heard h))))
