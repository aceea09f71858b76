-- What is stored of an instance is its table.
use Rattle.std.specs.Prelude.{◌≡◌, ℕ, ◌+◌, List, [], ◌∷◌, map, Bool, true, false, cond, not, ◌&&◌, ◌==◌}
use Rattle.std.specs.declared.option.Option.{Option}
use Rattle.std.specs.declared.option.Option.TheVariants.{Some, None}
use Rattle.std.specs.declared.cmp.Ordering.{Ordering}
use Rattle.std.specs.declared.cmp.Ordering.TheVariants.{Less}
use Rattle.std.specs.BTreeMap.{BTreeMap, IsOrdered, is_at}
use Rattle.std.specs.BTreeMap.Range.{range_contains}
use Rattle.std.specs.declared.ops.Bound.TheVariants.{Included, Excluded, Unbounded}
use Rattle.std.specs.Map.{lookup}
use Rattle.std.specs.Option.{option_map}
use Rattle.std.specs.List.{cons_option, filter, filter_map}
use Rattle.std.specs.FinMap.{FinMap, entries, find, get, get-entries, get-from_entries, same_map}
use Rattle.std.specs.Ordering.{eq_by_cmp, is_eq, is_le, nat_cmp, ordering_then}
use Rattle.std.specs.Cmp.{Equal-is, nat_cmp_total, tied_itself}
use Rattle.std.proofs.lemmas.Bool.{true≢false, eqb-true}
use Rattle.std.proofs.lemmas.Bool.Decides.{nat_tests}
use Rattle.std.proofs.Common.{refl, sym, ◌∙◌, ap, subst, arith}
use Rattle.ov_sync.specs.Keyed.{map_of}
use Rattle.ov_sync.proofs.Ascending.{Ascends, Over, ascends, ascends_entries, entries-map_of, map_of-entries}
use Rattle.ov_types.specs.Prefix.{Block, block_cmp}
use Rattle.ov_types.specs.declared.numbers.InstanceId.{InstanceId}
use Rattle.ov_types.specs.declared.rows.TableRow.{TableRow}
use Rattle.node_model.specs.Paths as model
use Rattle.node_model.specs.Paths.{Holdings}
use Rattle.node_model.specs.Tables.{table, table_row}
use Rattle.node_model.proofs.Orders.{prefix_exact, prefix_total}
use Rattle.path_select.specs.declared.selection.Path.{Path}
use Rattle.path_select.specs.Selection.{plain}
use Rattle.vpn_holdings.specs.Answers.{rows_at}
use Rattle.vpn_holdings.specs.At.{shown}
use Rattle.vpn_tables.specs.Listed.{row_in}
use Rattle.vpn_tables.specs.Stored.{AreStored, entry_or, row_order}
use Rattle.vpn_tables.specs.declared.stored.Entry.{Entry}
use Rattle.vpn_tables.specs.declared.stored.RowKey.{RowKey}
use Rattle.vpn_tables.proofs.Order.{row_exact, row_same}

abbrev Kept : Type 0
Kept = RowKey × Entry

abbrev at_key : InstanceId → Block → RowKey
at_key i q = record { instance = i; prefix = q }

abbrev is_of : InstanceId → Kept → Bool
is_of i e = e.0.instance.0 == i.0

abbrev shown_in : Kept → Option Path → Option (Block × TableRow)
shown_in e o = option_map (λ (p : Path). (e.0.prefix, shown p)) o

abbrev pub listed : InstanceId → List Kept → List (Block × TableRow)
listed i es = filter_map (row_in i) es

same_instance : (i : InstanceId) (k : RowKey) → (k.instance.0 == i.0) ≡ true → k.instance ≡ i
same_instance i k e = λ n. record { 0 = eqb-true k.instance.0 i.0 e n }

-- the keys of one instance go by prefix
by_prefix : (i j : InstanceId) (p q : Block) → i ≡ j → row_order (at_key i p) (at_key j q) ≡ block_cmp p q
by_prefix i j p q e =
    sym (row_same (at_key i p) (at_key j q))
    ∙ ap (λ (r : Ordering). ordering_then r (block_cmp p q)) (ap (λ (x : InstanceId). nat_cmp i.0 x.0) (sym e) ∙ tied_itself nat_cmp_total i.0)

tied_rows : (i : InstanceId) (q : Block) (k : RowKey) → i ≡ k.instance → is_at (row_order (at_key i q)) k ≡ eq_by_cmp block_cmp q k.prefix
tied_rows i q k e = ap is_eq (by_prefix i k.instance q k.prefix e)

not_tied : (i : InstanceId) (q : Block) (k : RowKey) → (k.instance.0 == i.0) ≡ false → is_at (row_order (at_key i q)) k ≡ false
not_tied i q k none =
    elim (is_at (row_order (at_key i q)) k) as (λ b. is_at (row_order (at_key i q)) k ≡ b → b ≡ false) [
      | true ↦ λ t. absurd (true≢false (sym (itself k.instance.0 i.0 (sym (ap (λ (k : RowKey). k.instance.0) (row_exact (at_key i q) k ((Equal-is (row_order (at_key i q) k)).0 t))))) ∙ none))
      | false ↦ λ _. refl
    ] refl
  where
    itself : (a b : ℕ) → a ≡ b → (a == b) ≡ true
    itself a b e = grind arith

-- ---- the order
over_row : (k : RowKey) (f : Kept) (rest : List (Block × TableRow)) → block_cmp k.prefix f.0.prefix ≡ Less → Over block_cmp k.prefix rest → Over block_cmp k.prefix (cons_option (shown_in f f.1.path) rest)
over_row k f rest less h = by_path f.1.path
  where
    by_path : (o : Option Path) → Over block_cmp k.prefix (cons_option (shown_in f o) rest)
    by_path (Some p) = (less, h)
    by_path None = h

over_rows : (i : InstanceId) (k : RowKey) (es : List Kept) → k.instance ≡ i → Over row_order k es → Over block_cmp k.prefix (listed i es)
over_rows i k [] e h = tt
over_rows i k (f ∷ es) e h =
    elim (is_of i f) as (λ b. is_of i f ≡ b → Over block_cmp k.prefix (cons_option (cond b (shown_in f f.1.path) None) (listed i es))) [
      | true ↦ λ is. over_row k f (listed i es) (sym (by_prefix k.instance f.0.instance k.prefix f.0.prefix (e ∙ sym (same_instance i f.0 is))) ∙ h.0) (over_rows i k es e h.1)
      | false ↦ λ _. over_rows i k es e h.1
    ] refl

ascends_row : (f : Kept) (rest : List (Block × TableRow)) (o : Option Path) → Over block_cmp f.0.prefix rest → Ascends block_cmp rest → Ascends block_cmp (cons_option (shown_in f o) rest)
ascends_row f rest (Some p) over h = (over, h)
ascends_row f rest None over h = h

ascends_rows : (i : InstanceId) (es : List Kept) → Ascends row_order es → Ascends block_cmp (listed i es)
ascends_rows i [] h = tt
ascends_rows i (e ∷ es) h =
    elim (is_of i e) as (λ b. is_of i e ≡ b → Ascends block_cmp (cons_option (cond b (shown_in e e.1.path) None) (listed i es))) [
      | true ↦ λ is. ascends_row e (listed i es) e.1.path (over_rows i e.0 es (same_instance i e.0 is) h.0) (ascends_rows i es h.1)
      | false ↦ λ _. ascends_rows i es h.1
    ] refl

-- ---- what is found
over_none : (q : Block) (es : List (Block × TableRow)) → Over block_cmp q es → find block_cmp q es ≡ None
over_none q [] h = refl
over_none q (e ∷ es) h = ap (λ (r : Ordering). cond (is_eq r) (Some e.1) (find block_cmp q es)) h.0 ∙ over_none q es h.1

abbrev looked : InstanceId → Block → List Kept → Option TableRow
looked i q es = option_map shown (entry_or (lookup (is_at (row_order (at_key i q))) es)).path

found : (i : InstanceId) (q : Block) (es : List Kept) → Ascends row_order es → find block_cmp q (listed i es) ≡ looked i q es
found i q [] h = refl
found i q (e ∷ es) h =
    elim (is_of i e) as (λ b. is_of i e ≡ b → find block_cmp q (cons_option (cond b (shown_in e e.1.path) None) (listed i es)) ≡ looked i q (e ∷ es)) [
      | true ↦ λ is.
          let same = same_instance i e.0 is in
          at_prefix (found i q es h.1) same (eq_by_cmp block_cmp q e.0.prefix) refl
          ∙ ap (λ b. option_map shown (entry_or (cond b (Some e.1) (lookup (is_at (row_order (at_key i q))) es))).path) (sym (tied_rows i q e.0 (sym same)))
      | false ↦ λ is. found i q es h.1 ∙ ap (λ b. option_map shown (entry_or (cond b (Some e.1) (lookup (is_at (row_order (at_key i q))) es))).path) (sym (not_tied i q e.0 is))
    ] refl
  where
    at_prefix : find block_cmp q (listed i es) ≡ looked i q es → e.0.instance ≡ i → (t : Bool) → eq_by_cmp block_cmp q e.0.prefix ≡ t
        → find block_cmp q (cons_option (shown_in e e.1.path) (listed i es)) ≡ option_map shown (entry_or (cond t (Some e.1) (lookup (is_at (row_order (at_key i q))) es))).path
    at_prefix later same true t = there e.1.path
      where
        is : q ≡ e.0.prefix
        is = prefix_exact q e.0.prefix ((Equal-is (block_cmp q e.0.prefix)).0 t)

        there : (o : Option Path) → find block_cmp q (cons_option (shown_in e o) (listed i es)) ≡ option_map shown o
        there (Some p) = ap (λ b. cond b (Some (shown p)) (find block_cmp q (listed i es))) t
        there None = over_none q (listed i es) (subst (λ (x : Block). Over block_cmp x (listed i es)) (sym is) (over_rows i e.0 es same h.0))
    at_prefix later same false t = there e.1.path ∙ later
      where
        there : (o : Option Path) → find block_cmp q (cons_option (shown_in e o) (listed i es)) ≡ find block_cmp q (listed i es)
        there (Some p) = ap (λ b. cond b (Some (shown p)) (find block_cmp q (listed i es))) t
        there None = refl

-- ---- the table
abbrev row_entry : Block × model.Path → Block × TableRow
row_entry e = (e.0, table_row e.1)

over_shown : (q : Block) (es : List (Block × model.Path)) → Over block_cmp q es → Over block_cmp q (map row_entry es)
over_shown q [] h = tt
over_shown q (e ∷ es) h = (h.0, over_shown q es h.1)

ascends_shown : (es : List (Block × model.Path)) → Ascends block_cmp es → Ascends block_cmp (map row_entry es)
ascends_shown [] h = tt
ascends_shown (e ∷ es) h = (over_shown e.0 es h.0, ascends_shown es h.1)

found_shown : (q : Block) (es : List (Block × model.Path)) → find block_cmp q (map row_entry es) ≡ option_map table_row (find block_cmp q es)
found_shown q [] = refl
found_shown q (e ∷ es) =
    ap (cond (eq_by_cmp block_cmp q e.0) (Some (table_row e.1))) (found_shown q es)
    ∙ elim (eq_by_cmp block_cmp q e.0) as (λ b. cond b (Some (table_row e.1)) (option_map table_row (find block_cmp q es)) ≡ option_map table_row (cond b (Some e.1) (find block_cmp q es))) [ true ↦ refl | false ↦ refl ]

shown_plain : (o : Option model.Path) → option_map shown (option_map plain o) ≡ option_map table_row o
shown_plain None = refl
shown_plain (Some p) = refl

ascends_map : {V : Type 0} (m : FinMap block_cmp V) → Ascends block_cmp (entries m)
ascends_map m = subst (λ n. Ascends block_cmp (entries n)) (map_of-entries block_cmp prefix_total prefix_exact m) (ascends_entries block_cmp prefix_total (entries m))

pub table_listed : (h : Holdings) (i : InstanceId) (stored : BTreeMap RowKey Entry) → AreStored stored h → IsOrdered row_order stored → listed i stored.entries ≡ rows_at h i
table_listed h i stored are ordered =
    let es = stored.entries in
    let up = ascends row_order es ordered in
    let left = listed i es in
    let right = map row_entry (entries (table h i)) in
    sym (entries-map_of block_cmp prefix_total left (ascends_rows i es up))
    ∙ ap entries (same_map prefix_total prefix_exact (map_of block_cmp left) (map_of block_cmp right) (λ q.
    get-from_entries prefix_total left q ∙ found i q es up
    ∙ ap (λ (e : Entry). option_map shown e.path) (are (at_key i q))
    ∙ shown_plain (get (table h i) q) ∙ ap (option_map table_row) (get-entries (table h i) q)
    ∙ sym (get-from_entries prefix_total right q ∙ found_shown q (entries (table h i)))))
    ∙ entries-map_of block_cmp prefix_total right (ascends_shown (entries (table h i)) (ascends_map (table h i)))

-- ---- the entries that are looked at
pub kept_rows : (i : InstanceId) (r : Kept → Bool) (es : List Kept) → ((e : Kept) → is_of i e ≡ true → r e ≡ true) → listed i (filter r es) ≡ listed i es
kept_rows i r [] f = refl
kept_rows i r (e ∷ es) f =
    elim (r e) as (λ b. r e ≡ b → listed i (cond b (e ∷ filter r es) (filter r es)) ≡ listed i (e ∷ es)) [
      | true ↦ λ _. ap (cons_option (row_in i e)) (kept_rows i r es f)
      | false ↦ λ t. kept_rows i r es f ∙ ap (λ b. cons_option (cond b (shown_in e e.1.path) None) (listed i es)) (sym (not_of t))
    ] refl
  where
    not_of : r e ≡ false → is_of i e ≡ false
    not_of t = elim (is_of i e) as (λ b. is_of i e ≡ b → b ≡ false) [ true ↦ λ is. absurd (true≢false (sym (f e is) ∙ t)) | false ↦ λ _. refl ] refl

-- the keys of an instance stand between its first and the next one's
abbrev three_cmp : (a b c x y z : ℕ) → Ordering
three_cmp a b c x y z = ordering_then (nat_cmp a x) (ordering_then (nat_cmp b y) (nat_cmp c z))

three_is : (k q : RowKey) → row_order k q ≡ three_cmp k.instance.0 k.prefix.addr k.prefix.len q.instance.0 q.prefix.addr q.prefix.len
three_is k q = sym (row_same k q)

onward : (a x y z : ℕ) → (x == a) ≡ true → (is_le (three_cmp a 0 0 x y z) && true) ≡ true
onward a x y z e = grind (arith, nat_tests)

inside : (a b x y z : ℕ) → b ≡ a + 1 → (x == a) ≡ true → (is_le (three_cmp a 0 0 x y z) && not (is_le (three_cmp b 0 0 x y z))) ≡ true
inside a b x y z s e = grind (arith, nat_tests)

first_is : (first : RowKey) (i : InstanceId) (k : RowKey) → first.instance ≡ i → first.prefix.addr ≡ 0 → first.prefix.len ≡ 0 → row_order first k ≡ three_cmp i.0 0 0 k.instance.0 k.prefix.addr k.prefix.len
first_is first i k e a l = three_is first k ∙ (λ n. three_cmp (e n).0 (a n) (l n) k.instance.0 k.prefix.addr k.prefix.len)

pub from_first : (first : RowKey) (i : InstanceId) (k : RowKey) → first.instance ≡ i → first.prefix.addr ≡ 0 → first.prefix.len ≡ 0 → (k.instance.0 == i.0) ≡ true
    → range_contains row_order (Included first) Unbounded k ≡ true
from_first first i k e a l t = ap (λ r. is_le r && true) (first_is first i k e a l) ∙ onward i.0 k.instance.0 k.prefix.addr k.prefix.len t

pub to_next : (first past : RowKey) (i j : InstanceId) (k : RowKey) → first.instance ≡ i → first.prefix.addr ≡ 0 → first.prefix.len ≡ 0 → past.instance ≡ j → past.prefix.addr ≡ 0 → past.prefix.len ≡ 0 → j.0 ≡ i.0 + 1
    → (k.instance.0 == i.0) ≡ true → range_contains row_order (Included first) (Excluded past) k ≡ true
to_next first past i j k e a l f b m s t =
    (λ n. is_le (first_is first i k e a l n) && not (is_le (first_is past j k f b m n))) ∙ inside i.0 j.0 k.instance.0 k.prefix.addr k.prefix.len s t
