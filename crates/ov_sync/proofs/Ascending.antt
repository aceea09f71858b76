-- Entries in the order of their keys, as a finite map.
use Rattle.std.proofs.Common.{◌≡◌, ◌⊎◌, Bool, true, false, cond, List, [], ◌∷◌, map, length, subst, refl, sym, ap, ◌∙◌, inl, inr}
use Rattle.std.specs.declared.option.Option.{Option}
use Rattle.std.specs.declared.option.Option.TheVariants.{Some, None}
use Rattle.std.specs.declared.cmp.Ordering.{Ordering}
use Rattle.std.specs.declared.cmp.Ordering.TheVariants.{Less, Equal, Greater}
use Rattle.std.proofs.lemmas.Bool.{true≢false}
use Rattle.std.specs.Prelude.{if◌then◌else◌}
use Rattle.std.specs.Ordering.{eq_by_cmp, is_eq, ordering_reverse}
use Rattle.std.specs.Cmp.{IsTotalOrder, Equal-is, alike_right, eq_by_cmp_equiv}
use Rattle.std.specs.List.Sorted.{IsStrictlySortedBy}
use Rattle.std.specs.Map.{lookup}
use Rattle.std.specs.BTreeMap as tree
use Rattle.std.specs.BTreeMap.{BTreeMap, insert_entry}
use Rattle.std.specs.FinMap.{FinMap, IsAntisymmetric, find, put, get, insert, remove, entries, from_entries, empty, get-entries, len-empty, len-entries, entries-insert, get-from_entries, get-remove, same_map, same_entries_map}
use Rattle.ov_sync.specs.Keyed.{map_of}

pub three : (o : Ordering) → (o ≡ Less) ⊎ ((o ≡ Equal) ⊎ (o ≡ Greater))
three Less = inl refl
three Equal = inr (inl refl)
three Greater = inr (inr refl)

-- an entry that is taken out, or not
taken_out : {A : Type 0} (b c d : Bool) (x w f : Option A) → w ≡ cond c None f → (b ≡ true → c ≡ d) → (c ≡ true → d ≡ b) → cond b w (cond d x w) ≡ cond c None (cond d x f)
taken_out true true d x w f e p q = e
taken_out true false true x w f e p q = absurd (true≢false (sym (p refl)))
taken_out true false false x w f e p q = e
taken_out false true true x w f e p q = absurd (true≢false (q refl))
taken_out false true false x w f e p q = e
taken_out false false true x w f e p q = refl
taken_out false false false x w f e p q = e

no_entries : {A : Type 0} (es : List A) → length es ≡ 0 → es ≡ []
no_entries [] e = refl
no_entries (x ∷ es) e = cc

pub entries-empty : {K V : Type 0} (R : K → K → Ordering) → entries (empty {X = V} {R = R}) ≡ []
entries-empty {V = V} R = no_entries _ (sym (len-entries (empty {X = V} {R = R})) ∙ len-empty R V)

module _ {K : Type 0} (R : K → K → Ordering) (o : IsTotalOrder R) where
  pub above : (a b : K) → R a b ≡ Less → R b a ≡ Greater
  above a b h = o.antisymm b a ∙ ap ordering_reverse h

  pub below : (a b : K) → R a b ≡ Greater → R b a ≡ Less
  below a b h = o.antisymm b a ∙ ap ordering_reverse h

module _ {K V : Type 0} (R : K → K → Ordering) where
  -- k is below each key
  abbrev pub Over : K → List (K × V) → Type 0
  Over k [] = Unit {0}
  Over k (e ∷ es) = (R k e.0 ≡ Less) × Over k es

  -- the keys ascend
  abbrev pub Ascends : List (K × V) → Type 0
  Ascends [] = Unit {0}
  Ascends (e ∷ es) = Over e.0 es × Ascends es

  over_keys : (k : K) (es : List (K × V)) → IsStrictlySortedBy R (k ∷ map (λ e. e.0) es) → Over k es
  unfolding IsStrictlySortedBy
  over_keys k [] h = tt
  over_keys k (e ∷ es) h = (h.0.0, over_keys k es (h.0.1, h.1.1))

  pub ascends : (es : List (K × V)) → IsStrictlySortedBy R (map (λ e. e.0) es) → Ascends es
  unfolding IsStrictlySortedBy
  ascends [] h = tt
  ascends (e ∷ es) h = (over_keys e.0 es h, ascends es h.1)

  -- a key below all goes to the front
  pub put-over : (k : K) (v : V) (es : List (K × V)) → Over k es → put R k v es ≡ (k, v) ∷ es
  put-over k v [] h = refl
  put-over k v (e ∷ es) h = rw h.0 refl

  pub put-insert_entry : (k : K) (v : V) (es : List (K × V)) → insert_entry R es k v ≡ put R k v es
  put-insert_entry k v [] = refl
  put-insert_entry k v (e ∷ es) =
      elim (three (R k e.0)) [
        | inl p ↦ rw p refl
        | inr (inl p) ↦ rw p refl
        | inr (inr p) ↦ rw p (ap (λ (l : List (K × V)). e ∷ l) (put-insert_entry k v es))
      ]

  find_lookup : (q : K) (es : List (K × V)) → find R q es ≡ lookup (tree.is_at (R q)) es
  find_lookup q [] = refl
  find_lookup q (e ∷ es) = ap (cond (eq_by_cmp R q e.0) (Some e.1)) (find_lookup q es)

  pub over_put : (j k : K) (v : V) (es : List (K × V)) → R j k ≡ Less → Over j es → Over j (put R k v es)
  over_put j k v [] h all = (h, tt)
  over_put j k v (e ∷ es) h all =
      elim (three (R k e.0)) [
        | inl p ↦ rw p (h, all)
        | inr (inl p) ↦ rw p all
        | inr (inr p) ↦ rw p (all.0, over_put j k v es h all.1)
      ]

  -- the entries at other keys
  abbrev pub without : K → List (K × V) → List (K × V)
  without k [] = []
  without k (e ∷ es) = if eq_by_cmp R k e.0 then without k es else e ∷ without k es

  over_without : (j k : K) (es : List (K × V)) → Over j es → Over j (without k es)
  over_without j k [] h = tt
  over_without j k (e ∷ es) h =
      let rest = over_without j k es h.1 in
      elim (eq_by_cmp R k e.0) as (λ b. Over j (if b then without k es else e ∷ without k es)) [ true ↦ rest | false ↦ (h.0, rest) ]

  ascends_without : (k : K) (es : List (K × V)) → Ascends es → Ascends (without k es)
  ascends_without k [] h = tt
  ascends_without k (e ∷ es) h =
      let rest = ascends_without k es h.1 in
      elim (eq_by_cmp R k e.0) as (λ b. Ascends (if b then without k es else e ∷ without k es)) [ true ↦ rest | false ↦ (over_without e.0 k es h.0, rest) ]

  module _ (o : IsTotalOrder R) where
    pub over_less : (j k : K) (es : List (K × V)) → R j k ≡ Less → Over k es → Over j es
    over_less j k [] h all = tt
    over_less j k (e ∷ es) h all = (o.trans j k e.0 h all.0, over_less j k es h all.1)

    ascends_put : (k : K) (v : V) (es : List (K × V)) → Ascends es → Ascends (put R k v es)
    ascends_put k v [] h = (tt, tt)
    ascends_put k v (e ∷ es) h =
        elim (three (R k e.0)) [
          | inl p ↦ rw p ((p, over_less k e.0 es p h.0), h)
          | inr (inl p) ↦ rw p h
          | inr (inr p) ↦ rw p (over_put e.0 k v es (below R o k e.0 p) h.0, ascends_put k v es h.1)
        ]

    -- the entries of every map ascend
    pub ascends_entries : (es : List (K × V)) → Ascends (entries (from_entries {R = R} es))
    ascends_entries [] = subst Ascends (sym (entries-empty {V = V} R)) tt
    ascends_entries (e ∷ es) = subst Ascends (sym (entries-insert o (from_entries es) e.0 e.1)) (ascends_put e.0 e.1 (entries (from_entries {R = R} es)) (ascends_entries es))

    pub entries-map_of : (es : List (K × V)) → Ascends es → entries (map_of R es) ≡ es
    entries-map_of [] h = entries-empty {V = V} R
    entries-map_of (e ∷ es) h =
        entries-insert o (map_of R es) e.0 e.1 ∙ ap (put R e.0 e.1) (entries-map_of es h.1) ∙ put-over e.0 e.1 es h.0

    pub get-map_of : (es : List (K × V)) (q : K) → get (map_of R es) q ≡ lookup (tree.is_at (R q)) es
    get-map_of es q = get-from_entries o es q ∙ find_lookup q es

    -- an entry put in its place
    pub map_of-insert : (m n : BTreeMap K V) (k : K) (v : V) → n.entries ≡ insert_entry R m.entries k v → tree.IsOrdered R m → tree.IsOrdered R n
        → map_of R n.entries ≡ insert (map_of R m.entries) k v
    map_of-insert m n k v e sorted sorted' =
        same_entries_map _ _ (entries-map_of n.entries (ascends n.entries sorted') ∙ e ∙ put-insert_entry k v m.entries
        ∙ ap (put R k v) (sym (entries-map_of m.entries (ascends m.entries sorted))) ∙ sym (entries-insert o (map_of R m.entries) k v))

    pub turned : (k q : K) (a b : Option V) → cond (eq_by_cmp R k q) a b ≡ cond (eq_by_cmp R q k) a b
    turned k q a b = ap (λ t. cond t a b) ((eq_by_cmp_equiv o).symm k q)

    -- the entry at a key taken out
    pub map_of-remove : IsAntisymmetric R → (m n : BTreeMap K V) (k : K) → tree.Updates R m n k None → map_of R n.entries ≡ remove (map_of R m.entries) k
    map_of-remove exact m n k u =
        same_map o exact _ _ (λ q. get-map_of n.entries q ∙ u.0 q ∙ turned k q _ _
        ∙ ap (cond (eq_by_cmp R q k) None) (sym (get-map_of m.entries q)) ∙ sym (get-remove o (map_of R m.entries) k q))

    -- a map is that of its entries
    pub map_of-entries : IsAntisymmetric R → (m : FinMap R V) → map_of R (entries m) ≡ m
    map_of-entries exact m = same_map o exact _ _ (λ q. get-from_entries o (entries m) q ∙ sym (get-entries m q))

    find_without : (k q : K) (es : List (K × V)) → find R q (without k es) ≡ cond (eq_by_cmp R q k) None (find R q es)
    find_without k q [] = elim (eq_by_cmp R q k) as (λ b. find {X = V} R q [] ≡ cond b None None) [ true ↦ refl | false ↦ refl ]
    find_without k q (e ∷ es) =
        elim (eq_by_cmp R k e.0) as (λ b. find R q (if b then without k es else e ∷ without k es) ≡ cond b (find R q (without k es)) (find R q (e ∷ without k es))) [ true ↦ refl | false ↦ refl ]
        ∙ taken_out {A = V} (eq_by_cmp R k e.0) (eq_by_cmp R q k) (eq_by_cmp R q e.0) (Some e.1) (find R q (without k es)) (find R q es) (find_without k q es)
        (λ t. ap is_eq (alike_right o k e.0 q ((Equal-is (R k e.0)).0 t))) (λ t. ap is_eq (o.congr q k e.0 ((Equal-is (R q k)).0 t)))

    pub entries-remove : IsAntisymmetric R → (m : FinMap R V) (k : K) → entries (remove m k) ≡ without k (entries m)
    entries-remove exact m k =
        let sorted = subst (λ n. Ascends (entries n)) (map_of-entries exact m) (ascends_entries (entries m)) in
        ap entries (same_map o exact (remove m k) (map_of R (without k (entries m))) (λ q.
        get-remove o m k q ∙ ap (cond (eq_by_cmp R q k) None) (get-entries m q) ∙ sym (find_without k q (entries m)) ∙ sym (get-from_entries o (without k (entries m)) q)))
        ∙ entries-map_of (without k (entries m)) (ascends_without k (entries m) sorted)
