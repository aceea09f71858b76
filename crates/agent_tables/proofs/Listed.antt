-- A slice in use of which one access list changes.
use Rattle.std.specs.Prelude.{◌≡◌, ◌==◌, ◌++◌, List, [], ◌∷◌, map, Bool, true, false, cond, not}
use Rattle.std.specs.declared.cmp.Ordering.{Ordering}
use Rattle.std.specs.declared.cmp.Ordering.TheVariants.{Less, Equal, Greater}
use Rattle.std.specs.declared.option.Option.{Option}
use Rattle.std.specs.declared.option.Option.TheVariants.{Some, None}
use Rattle.std.specs.BTreeMap.{is_at}
use Rattle.std.specs.Cmp.{IsTotalOrder, tied_itself}
use Rattle.std.specs.FinMap.{IsAntisymmetric, find, get-from_entries, same_map}
use Rattle.std.specs.List.{cons_option, filter, flat_map, list_all, list_any}
use Rattle.std.specs.Map.{lookup, remove_entry}
use Rattle.std.specs.Ordering.{eq_by_cmp, is_eq}
use Rattle.std.proofs.lemmas.Bool.{and_parts, eq-eqb, eqb-true, true≢false}
use Rattle.std.proofs.Common.{refl, sym, ◌∙◌, ap, subst, inl, inr}
use Rattle.ov_sync.proofs.Ascending.{Ascends, Over, above, ascends}
use Rattle.ov_types.specs.Keys.{low_key_cmp}
use Rattle.ov_types.specs.declared.numbers.InstanceId.{InstanceId}
use Rattle.ov_types.specs.declared.objects.LowKey.{LowKey}
use Rattle.ov_types.specs.declared.objects.LowKey.TheVariants as key
use Rattle.ov_types.specs.declared.objects.LowValue.{LowValue}
use Rattle.ov_types.specs.declared.rows.AgentRows.{AgentRows}
use Rattle.node_core.specs.NodeModel.Agent.{Holdings, acl_entry, attached, first_some, is_needed, needed_by, needed_for, publication, slice_in_use, wanted}
use Rattle.node_core.specs.NodeModel.Keys.{Key, Subscribe, key_cmp}
use Rattle.node_core.specs.NodeModel.Members.{Member}
use Rattle.node_core.specs.NodeModel.Values.{Value, Label}
use Rattle.node_core.proofs.NodeModel.Heard.{find_either, same_options}
use Rattle.node_core.proofs.NodeModel.Images as images
use Rattle.node_core.proofs.NodeModel.Local as local
use Rattle.node_core.proofs.NodeModel.Members.{any_in, found, from_any, from_find, from_flat_map, from_map, iff_same, in_flat_map, in_map}
use Rattle.node_core.proofs.NodeModel.Orders.{key_exact, key_total}
use Rattle.agent_tables.specs.Listed.{HaveSame, SameBut, is_list, needed_at, object_in_use, with_object}
use Rattle.agent_tables.specs.Touched.{AreTables, Tabled, is_listed}
use Rattle.agent_tables.proofs.Ordered.{ascends_filter, ascends_inserted, find-filter, find-inserted, same_lists, nowhere_before, there_before}
use Rattle.agent_tables.proofs.Slices.{labels_in, lists_in, low_total, slice_ascends}
use Rattle.agent_tables.proofs.Touched.{objects_set}

-- ---- keys
equal_is : (r : Ordering) → is_eq r ≡ true → r ≡ Equal
equal_is Equal e = refl
equal_is Less e = absurd (true≢false (sym e))
equal_is Greater e = absurd (true≢false (sym e))

module _ {K : Type 0} (R : K → K → Ordering) (o : IsTotalOrder R) where
  key_itself : (k : K) → eq_by_cmp R k k ≡ true
  key_itself k = ap is_eq (tied_itself o k)

  same_key : IsAntisymmetric R → (q k : K) → eq_by_cmp R q k ≡ true → q ≡ k
  same_key exact q k e = exact q k (equal_is (R q k) e)

-- ---- entries in the order of their keys
module _ {K V : Type 0} (R : K → K → Ordering) (o : IsTotalOrder R) where
  over_member : (k : K) (es : List (K × V)) → Over R k es → (e : K × V) → Member e es → R k e.0 ≡ Less
  over_member k [] h e m = absurd m
  over_member k (f ∷ es) h e (inl is) = ap (λ (x : K × V). R k x.0) (sym is) ∙ h.0
  over_member k (f ∷ es) h e (inr m) = over_member k es h.1 e m

  pub find_member : (es : List (K × V)) → Ascends R es → (e : K × V) → Member e es → find R e.0 es ≡ Some e.1
  find_member [] h e m = absurd m
  find_member (f ∷ es) h e (inl is) =
      ap (λ (x : K × V). find R x.0 (f ∷ es)) (sym is)
      ∙ ap (λ r. cond (is_eq r) (Some f.1) (find R f.0 es)) (tied_itself o f.0) ∙ ap (λ (x : K × V). Some x.1) is
  find_member (f ∷ es) h e (inr m) =
      ap (λ r. cond (is_eq r) (Some f.1) (find R e.0 es)) (above R o f.0 e.0 (over_member f.0 es h.0 e m))
      ∙ find_member es h.1 e m

  nowhere : (k : K) (es : List (K × V)) → Over R k es → find R k es ≡ None
  nowhere k [] h = refl
  nowhere k (e ∷ es) h = ap (λ r. cond (is_eq r) (Some e.1) (find R k es)) h.0 ∙ nowhere k es h.1

  over_removed : (j : K) (p : K → Bool) (es : List (K × V)) → Over R j es → Over R j (remove_entry p es)
  over_removed j p [] h = tt
  over_removed j p (e ∷ es) h =
      elim (p e.0) as (λ b. Over R j (cond b es (e ∷ remove_entry p es))) [ true ↦ h.1 | false ↦ (h.0, over_removed j p es h.1) ]

  ascends_removed : (p : K → Bool) (es : List (K × V)) → Ascends R es → Ascends R (remove_entry p es)
  ascends_removed p [] h = tt
  ascends_removed p (e ∷ es) h =
      elim (p e.0) as (λ b. Ascends R (cond b es (e ∷ remove_entry p es))) [ true ↦ h.1 | false ↦ (over_removed e.0 p es h.0, ascends_removed p es h.1) ]

  module _ (exact : IsAntisymmetric R) where
    find_removed : (q k : K) (es : List (K × V)) → Ascends R es → find R q (remove_entry (is_at (R k)) es) ≡ cond (eq_by_cmp R q k) None (find R q es)
    find_removed q k [] h = elim (eq_by_cmp R q k) as (λ b. find {X = V} R q [] ≡ cond b None (find {X = V} R q [])) [ true ↦ refl | false ↦ refl ]
    find_removed q k (e ∷ es) h = at (is_eq (R k e.0)) (eq_by_cmp R q k) (eq_by_cmp R q e.0) refl refl refl (find_removed q k es h.1)
      where
        at : (a b c : Bool) → is_eq (R k e.0) ≡ a → eq_by_cmp R q k ≡ b → eq_by_cmp R q e.0 ≡ c
            → find R q (remove_entry (is_at (R k)) es) ≡ cond (eq_by_cmp R q k) None (find R q es)
            → find R q (cond a es (e ∷ remove_entry (is_at (R k)) es)) ≡ cond b None (cond c (Some e.1) (find R q es))
        at true true c s t u later =
            ap (λ (x : K). find R x es) (same_key R o exact q k t ∙ same_key R o exact k e.0 s) ∙ nowhere e.0 es h.0
        at true false true s t u later =
            absurd (true≢false (sym (key_itself R o q) ∙ ap (eq_by_cmp R q) (same_key R o exact q e.0 u ∙ sym (same_key R o exact k e.0 s)) ∙ t))
        at true false false s t u later = refl
        at false true true s t u later =
            absurd (true≢false (sym (key_itself R o k) ∙ ap (eq_by_cmp R k) (sym (same_key R o exact q k t) ∙ same_key R o exact q e.0 u) ∙ s))
        at false true false s t u later =
            ap (λ b. cond b (Some e.1) (find R q (remove_entry (is_at (R k)) es))) u
            ∙ later ∙ ap (λ b. cond b None (find R q es)) t
        at false false true s t u later = ap (λ b. cond b (Some e.1) (find R q (remove_entry (is_at (R k)) es))) u
        at false false false s t u later =
            ap (λ b. cond b (Some e.1) (find R q (remove_entry (is_at (R k)) es))) u
            ∙ later ∙ ap (λ b. cond b None (find R q es)) t

pub low_exact : IsAntisymmetric low_key_cmp
low_exact a b e = local.low_exact a b (images.low_keeps a b ∙ e)

all_in : {A : Type 0} (p : A → Bool) (xs : List A) → list_all p xs ≡ true → (x : A) → Member x xs → p x ≡ true
all_in p [] h x m = absurd m
all_in p (y ∷ xs) h x (inl is) = ap p (sym is) ∙ (and_parts (p y) (list_all p xs) h).0
all_in p (y ∷ xs) h x (inr m) = all_in p xs (and_parts (p y) (list_all p xs) h).1 x m

-- ---- an access list in a list of them
abbrev Object : Type 0
Object = LowKey × LowValue

find_with : (q k : LowKey) (v : Option LowValue) (es : List Object) → Ascends low_key_cmp es
    → find low_key_cmp q (with_object es k v) ≡ cond (eq_by_cmp low_key_cmp q k) v (find low_key_cmp q es)
find_with q k None es h = find_removed low_key_cmp low_total low_exact q k es h
find_with q k (Some v) es h = find-inserted low_key_cmp low_total q k v es h

ascends_with : (k : LowKey) (v : Option LowValue) (es : List Object) → Ascends low_key_cmp es → Ascends low_key_cmp (with_object es k v)
ascends_with k None es h = ascends_removed low_key_cmp low_total (is_at (low_key_cmp k)) es h
ascends_with k (Some v) es h = ascends_inserted low_key_cmp low_total low_exact k v es h

-- ---- access lists among objects, and the others
abbrev no_list : LowKey → Bool
no_list k = not (is_list k)

list_here : (k : LowKey) (v : LowValue) (es : List Object) → cons_option (acl_entry k v) es ≡ cond (is_list k) ((k, v) ∷ es) es
list_here (key.Acl from to) v es = refl
list_here (key.Attach label) v es = refl
list_here (key.Instance n) v es = refl
list_here (key.ChainUse n) v es = refl

lists_are : (es : List Object) → lists_in es ≡ filter (λ e. is_list e.0) es
lists_are [] = refl
lists_are (e ∷ es) =
    ap (cons_option (acl_entry e.0 e.1)) (lists_are es) ∙ list_here e.0 e.1 (filter (λ (e : Object). is_list e.0) es)

label_here : (k : LowKey) (v : LowValue) (es : List Object)
    → cons_option (attached k v) (labels_in es) ≡ labels_in (cond (no_list k) ((k, v) ∷ es) es)
label_here (key.Acl from to) v es = refl
label_here (key.Attach label) v es = refl
label_here (key.Instance n) v es = refl
label_here (key.ChainUse n) v es = refl

labels_are : (es : List Object) → labels_in es ≡ labels_in (filter (λ e. no_list e.0) es)
labels_are [] = refl
labels_are (e ∷ es) =
    ap (cons_option (attached e.0 e.1)) (labels_are es) ∙ label_here e.0 e.1 (filter (λ (e : Object). no_list e.0) es)

abbrev published : List Object → List (Key × Value)
published slice = flat_map (λ e. publication e.0 e.1) slice

published_here : (k : LowKey) (v : LowValue) (es : List Object)
    → publication k v ++ published es ≡ published (cond (no_list k) ((k, v) ∷ es) es)
published_here (key.Acl from to) v es = refl
published_here (key.Attach label) v es = refl
published_here (key.Instance n) v es = refl
published_here (key.ChainUse n) v es = refl

published_are : (es : List Object) → published es ≡ published (filter (λ e. no_list e.0) es)
published_are [] = refl
published_are (e ∷ es) =
    ap (λ (l : List (Key × Value)). publication e.0 e.1 ++ l) (published_are es)
    ∙ published_here e.0 e.1 (filter (λ (e : Object). no_list e.0) es)

pub in_order : (h : Holdings) → Ascends low_key_cmp (slice_in_use h)
in_order h = ascends low_key_cmp (slice_in_use h) (slice_ascends h)

-- ---- two holdings that are the same but for one access list
module _ (k : LowKey) (listed : is_list k ≡ true) (h g : Holdings) (same : SameBut k h g) where
  apart : (q : LowKey) → is_list q ≡ false → eq_by_cmp low_key_cmp q k ≡ false
  apart q none =
      elim (eq_by_cmp low_key_cmp q k) as (λ b. eq_by_cmp low_key_cmp q k ≡ b → b ≡ false) [
        | true ↦ λ e. absurd (true≢false (sym listed ∙ ap is_list (sym (same_key low_key_cmp low_total low_exact q k e)) ∙ none))
        | false ↦ λ e. refl
      ] refl

  others_same : filter (λ (e : Object). no_list e.0) (slice_in_use h) ≡ filter (λ (e : Object). no_list e.0) (slice_in_use g)
  others_same =
      same_lists low_key_cmp low_total low_exact (filter (λ (e : Object). no_list e.0) (slice_in_use h))
      (filter (λ (e : Object). no_list e.0) (slice_in_use g))
      (ascends_filter low_key_cmp no_list (slice_in_use h) (in_order h))
      (ascends_filter low_key_cmp no_list (slice_in_use g) (in_order g))
      (λ q. find-filter low_key_cmp no_list low_exact q (slice_in_use h) ∙ at q (is_list q) refl
      ∙ sym (find-filter low_key_cmp no_list low_exact q (slice_in_use g)))
    where
      at : (q : LowKey) (b : Bool) → is_list q ≡ b
          → cond (no_list q) (object_in_use h q) None ≡ cond (no_list q) (object_in_use g q) None
      at q true e =
          ap (λ b. cond (not b) (object_in_use h q) None) e ∙ sym (ap (λ b. cond (not b) (object_in_use g q) None) e)
      at q false e = ap (λ (o : Option LowValue). cond (no_list q) o None) (same.others q (apart q e))

  pub labels_same : labels_in (slice_in_use h) ≡ labels_in (slice_in_use g)
  labels_same = labels_are (slice_in_use h) ∙ ap labels_in others_same ∙ sym (labels_are (slice_in_use g))

  published_same : published (slice_in_use h) ≡ published (slice_in_use g)
  published_same = published_are (slice_in_use h) ∙ ap published others_same ∙ sym (published_are (slice_in_use g))

  find_list : (f : Holdings) (q : LowKey) → find low_key_cmp q (lists_in (slice_in_use f)) ≡ cond (is_list q) (object_in_use f q) None
  find_list f q = ap (find low_key_cmp q) (lists_are (slice_in_use f)) ∙ find-filter low_key_cmp is_list low_exact q (slice_in_use f)

  ascends_lists : (f : Holdings) → Ascends low_key_cmp (lists_in (slice_in_use f))
  ascends_lists f = subst (Ascends low_key_cmp) (sym (lists_are (slice_in_use f))) (ascends_filter low_key_cmp is_list (slice_in_use f) (in_order f))

  pub found_list : find low_key_cmp k (lists_in (slice_in_use h)) ≡ object_in_use h k
  found_list = find_list h k ∙ ap (λ b. cond b (object_in_use h k) None) listed

  pub lists_with : with_object (lists_in (slice_in_use h)) k (object_in_use g k) ≡ lists_in (slice_in_use g)
  lists_with =
      same_lists low_key_cmp low_total low_exact (with_object (lists_in (slice_in_use h)) k (object_in_use g k)) (lists_in (slice_in_use g))
      (ascends_with k (object_in_use g k) (lists_in (slice_in_use h)) (ascends_lists h)) (ascends_lists g)
      (λ q. find_with q k (object_in_use g k) (lists_in (slice_in_use h)) (ascends_lists h)
      ∙ ap (cond (eq_by_cmp low_key_cmp q k) (object_in_use g k)) (find_list h q)
      ∙ at q (eq_by_cmp low_key_cmp q k) refl ∙ sym (find_list g q))
    where
      at : (q : LowKey) (b : Bool) → eq_by_cmp low_key_cmp q k ≡ b
          → cond b (object_in_use g k) (cond (is_list q) (object_in_use h q) None) ≡ cond (is_list q) (object_in_use g q) None
      at q true e =
          let is : q ≡ k = same_key low_key_cmp low_total low_exact q k e in
          sym (ap (λ (q : LowKey). cond (is_list q) (object_in_use g q) None) is ∙ ap (λ b. cond b (object_in_use g k) None) listed)
      at q false e = ap (λ (o : Option LowValue). cond (is_list q) o None) (same.others q e)

  -- where nothing else stands under the key than before, nothing changed
  pub lists_stay : object_in_use h k ≡ object_in_use g k → lists_in (slice_in_use h) ≡ lists_in (slice_in_use g)
  lists_stay e =
      same_lists low_key_cmp low_total low_exact (lists_in (slice_in_use h)) (lists_in (slice_in_use g)) (ascends_lists h) (ascends_lists g)
      (λ q. find_list h q ∙ ap (λ (o : Option LowValue). cond (is_list q) o None) (everywhere q (eq_by_cmp low_key_cmp q k) refl) ∙ sym (find_list g q))
    where
      everywhere : (q : LowKey) (b : Bool) → eq_by_cmp low_key_cmp q k ≡ b → object_in_use h q ≡ object_in_use g q
      everywhere q true s =
          let is : q ≡ k = same_key low_key_cmp low_total low_exact q k s in
          ap (object_in_use h) is ∙ e ∙ sym (ap (object_in_use g) is)
      everywhere q false s = same.others q s

  -- ---- which instances are needed
  module _ (i : InstanceId) where
    abbrev is_it : InstanceId → Bool
    is_it n = n.0 == i.0

    need : (f : Holdings) (e : Object) (n : InstanceId) → object_in_use f e.0 ≡ Some e.1 → Member n (needed_for e.1) → is_it n ≡ true
        → is_needed f i ≡ true
    need f e n found m is =
        any_in is_it n (needed_by (slice_in_use f))
        (in_flat_map (λ (e : Object). needed_for e.1) (e.0, e.1) n (slice_in_use f) (from_find low_total low_exact e.0 e.1 (slice_in_use f) found) m) is

    at_key : (f : Holdings) (n : InstanceId) → Member n (needed_at (object_in_use f k)) → is_it n ≡ true → is_needed f i ≡ true
    at_key f n m is =
        elim (object_in_use f k) as (λ o. object_in_use f k ≡ o → Member n (needed_at o) → is_needed f i ≡ true) [
          | None ↦ λ e m. absurd m
          | Some v ↦ λ e m. need f (k, v) n e m is
        ] refl m

    moves : (f f' : Holdings) → ((q : LowKey) → eq_by_cmp low_key_cmp q k ≡ false → object_in_use f q ≡ object_in_use f' q)
        → ((n : InstanceId) → Member n (needed_at (object_in_use f k)) → is_it n ≡ true → is_needed f' i ≡ true)
        → is_needed f i ≡ true → is_needed f' i ≡ true
    moves f f' others here e =
        let q = from_any is_it (needed_by (slice_in_use f)) e in
        let o = from_flat_map (λ (e : Object). needed_for e.1) q.0 (slice_in_use f) q.1 in
        let found : object_in_use f o.0.0 ≡ Some o.0.1 = find_member low_key_cmp low_total (slice_in_use f) (in_order f) o.0 o.1 in
        elim (eq_by_cmp low_key_cmp o.0.0 k) as (λ b. eq_by_cmp low_key_cmp o.0.0 k ≡ b → is_needed f' i ≡ true) [
          | true ↦ λ s.
              let is : o.0.0 ≡ k = same_key low_key_cmp low_total low_exact o.0.0 k s in
              here q.0 (subst (λ (v : Option LowValue). Member q.0 (needed_at v)) (sym found ∙ ap (object_in_use f) is) o.2) q.2
          | false ↦ λ s. need f' o.0 q.0 (sym (others o.0.0 s) ∙ found) o.2 q.2
        ] refl

  pub needs_same : (t : Tabled) → AreTables h t
      → list_all (λ i. is_listed t.instances i) (needed_at (object_in_use g k)) ≡ true
      → list_all (λ i. is_listed (needed_at (object_in_use g k)) i) (needed_at (find low_key_cmp k t.rows.acls)) ≡ true
      → (i : InstanceId) → is_needed h i ≡ is_needed g i
  needs_same t are known within i =
      iff_same (is_needed h i) (is_needed g i)
      (moves i h g same.others (λ n m is.
      let there : Member n (needed_at (find low_key_cmp k t.rows.acls)) =
      subst (λ (o : Option LowValue). Member n (needed_at o)) (sym (ap (λ (r : AgentRows). find low_key_cmp k r.acls) are.rows ∙ found_list)) m in
      let listed_there = all_in (λ i. is_listed (needed_at (object_in_use g k)) i) (needed_at (find low_key_cmp k t.rows.acls)) within n there in
      let other = from_any (λ (x : InstanceId). x.0 == n.0) (needed_at (object_in_use g k)) listed_there in
      at_key i g other.0 other.1 (ap (λ x. x == i.0) (eqb-true other.0.0 n.0 other.2) ∙ is)))
      (moves i g h (λ q e. sym (same.others q e)) (λ n m is.
      let has : is_listed t.instances n ≡ true = all_in (λ i. is_listed t.instances i) (needed_at (object_in_use g k)) known n m in
      ap (λ x. list_any (λ (n : InstanceId). n.0 == x) (needed_by (slice_in_use h))) (sym (eqb-true n.0 i.0 is)) ∙ sym (are.instances n) ∙ has))

-- ---- what is wanted
abbrev subscribed : List InstanceId → List (Key × Value)
subscribed is = map (λ i. (Subscribe i, Label (record { 0 = 0 }))) is

abbrev subscription : InstanceId → Key × Value
subscription i = (Subscribe i, Label (record { 0 = 0 }))

subscribed_too : (q : Key) (is js : List InstanceId) → ((i : InstanceId) → is_listed is i ≡ true → is_listed js i ≡ true) → (v : Value)
    → find key_cmp q (subscribed is) ≡ Some v → find key_cmp q (subscribed js) ≡ Some v
subscribed_too q is js into v e =
    let m = from_map subscription (q, v) is (from_find key_total key_exact q v (subscribed is) e) in
    let there = into m.0 (any_in (λ (n : InstanceId). n.0 == m.0.0) m.0 is m.1 (eq-eqb m.0.0 m.0.0 refl)) in
    let j = from_any (λ (n : InstanceId). n.0 == m.0.0) js there in
    let one : j.0 ≡ m.0 = λ x. record { 0 = eqb-true j.0.0 m.0.0 j.2 x } in
    let also : Member (q, v) (subscribed js) =
    subst (λ (e : Key × Value). Member e (subscribed js)) (ap subscription one ∙ m.2) (in_map subscription j.0 js j.1) in
    let f = found key_total (q, v) (subscribed js) also in
    let n = from_map subscription (q, f.0) js (from_find key_total key_exact q f.0 (subscribed js) f.1) in
    f.1 ∙ ap Some (sym (ap (λ (e : Key × Value). e.1) n.2) ∙ ap (λ (e : Key × Value). e.1) m.2)

pub wanted_same : (k : LowKey) → is_list k ≡ true → (h g : Holdings) → SameBut k h g → ((i : InstanceId) → is_needed h i ≡ is_needed g i)
    → wanted h ≡ wanted g
wanted_same k listed h g same needs =
    let published_one = published_same k listed h g same in
    let subscribed_one : (q : Key) → find key_cmp q (subscribed (needed_by (slice_in_use h))) ≡ find key_cmp q (subscribed (needed_by (slice_in_use g))) =
    λ q. same_options (find key_cmp q (subscribed (needed_by (slice_in_use h)))) (find key_cmp q (subscribed (needed_by (slice_in_use g))))
    (subscribed_too q (needed_by (slice_in_use h)) (needed_by (slice_in_use g)) (λ i e. sym (needs i) ∙ e))
    (subscribed_too q (needed_by (slice_in_use g)) (needed_by (slice_in_use h)) (λ i e. needs i ∙ e)) in
    same_map key_total key_exact (wanted h) (wanted g) (λ q.
    get-from_entries key_total (published (slice_in_use h) ++ subscribed (needed_by (slice_in_use h))) q
    ∙ find_either key_cmp q (published (slice_in_use h)) (subscribed (needed_by (slice_in_use h)))
    ∙ (λ x. first_some (find key_cmp q (published_one x)) (subscribed_one q x))
    ∙ sym (get-from_entries key_total (published (slice_in_use g) ++ subscribed (needed_by (slice_in_use g))) q
    ∙ find_either key_cmp q (published (slice_in_use g)) (subscribed (needed_by (slice_in_use g)))))

-- ---- the tables
pub tables_listed : (k : LowKey) → is_list k ≡ true → (g : Holdings) (t u : Tabled) → HaveSame k g t
    → u.rows.acls ≡ with_object t.rows.acls k (object_in_use g k) → u.rows.labels ≡ t.rows.labels
    → u.rows.routes ≡ t.rows.routes → u.instances ≡ t.instances → AreTables g u
tables_listed k listed g t u have lists labels routes instances =
    objects_set have.before g t u have.are have.same.routes (λ i. have.are.instances i ∙ have.needs i)
    (labels ∙ ap (λ (r : AgentRows). r.labels) have.are.rows ∙ labels_same k listed have.before g have.same)
    (lists ∙ ap (λ (r : AgentRows). with_object r.acls k (object_in_use g k)) have.are.rows ∙ lists_with k listed have.before g have.same)
    routes instances

pub tables_stay : (k : LowKey) → is_list k ≡ true → (g : Holdings) (t : Tabled) → HaveSame k g t
    → find low_key_cmp k t.rows.acls ≡ object_in_use g k → AreTables g t
tables_stay k listed g t have same =
    let before : object_in_use have.before k ≡ object_in_use g k =
    sym (found_list k listed have.before g have.same) ∙ sym (ap (λ (r : AgentRows). find low_key_cmp k r.acls) have.are.rows) ∙ same in
    objects_set have.before g t t have.are have.same.routes (λ i. have.are.instances i ∙ have.needs i)
    (ap (λ (r : AgentRows). r.labels) have.are.rows ∙ labels_same k listed have.before g have.same)
    (ap (λ (r : AgentRows). r.acls) have.are.rows ∙ lists_stay k listed have.before g have.same before)
    refl refl

-- an object that is put, or dropped, and leaves all as it was stood there, or nowhere, before
pub stood_there : (es : List Object) (k : LowKey) (v : Option LowValue) → with_object es k v ≡ es → lookup (is_at (low_key_cmp k)) es ≡ v
stood_there es k None same = nowhere_before (is_at (low_key_cmp k)) es same
stood_there es k (Some v) same = there_before low_key_cmp low_total es k v same
