-- Entries in the order of their keys.
use Rattle.std.specs.Prelude.{◌≡◌, List, [], ◌∷◌, ◌++◌, Bool, true, false, cond, drop, length}
use Rattle.std.specs.declared.cmp.Ordering.{Ordering}
use Rattle.std.specs.declared.cmp.Ordering.TheVariants.{Less, Equal, Greater}
use Rattle.std.specs.declared.option.Option.{Option}
use Rattle.std.specs.declared.option.Option.TheVariants.{Some, None}
use Rattle.std.specs.BTreeMap.{insert_entry, is_at}
use Rattle.std.specs.Ordering.{is_eq, eq_by_cmp, match_ordering}
use Rattle.std.specs.Cmp.{IsTotalOrder, tied_itself}
use Rattle.std.specs.List.{filter, filter_map, cons_option}
use Rattle.std.specs.Map.{lookup, remove_entry}
use Rattle.std.specs.FinMap.{FinMap, IsAntisymmetric, find, put, insert, entries, get-entries, get-from_entries, entries-insert, get-insert, same_map}
use Rattle.std.proofs.Common.{refl, sym, ◌∙◌, ap, subst, append_assoc, append-nil, arith}
use Rattle.ov_sync.specs.Keyed.{map_of}
use Rattle.ov_sync.proofs.Ascending.{above, Over, Ascends, put-insert_entry, ascends_entries, entries-map_of, get-map_of, map_of-entries}
use Rattle.agent_tables.specs.Kept.{with_entry}

module _ {K V : Type 0} (R : K → K → Ordering) (o : IsTotalOrder R) where
  pub find-lookup : (q : K) (es : List (K × V)) → find R q es ≡ lookup (is_at (R q)) es
  find-lookup q es = sym (get-from_entries o es q) ∙ get-map_of R o es q

  -- two lists in order, in which each key leads to the same, are one
  pub same_lists : IsAntisymmetric R → (es fs : List (K × V)) → Ascends R es → Ascends R fs → ((q : K) → find R q es ≡ find R q fs) → es ≡ fs
  same_lists exact es fs p q same =
      sym (entries-map_of R o es p)
      ∙ ap entries (same_map o exact (map_of R es) (map_of R fs) (λ k. get-from_entries o es k ∙ same k ∙ sym (get-from_entries o fs k)))
      ∙ entries-map_of R o fs q

  pub ascends_map : IsAntisymmetric R → (m : FinMap R V) → Ascends R (entries m)
  ascends_map exact m = subst (λ (n : FinMap R V). Ascends R (entries n)) (map_of-entries R o exact m) (ascends_entries R o (entries m))

  inserted_is : (k : K) (v : V) (es : List (K × V)) → Ascends R es → insert_entry R es k v ≡ entries (insert (map_of R es) k v)
  inserted_is k v es h = put-insert_entry R k v es ∙ ap (put R k v) (sym (entries-map_of R o es h)) ∙ sym (entries-insert o (map_of R es) k v)

  pub ascends_inserted : IsAntisymmetric R → (k : K) (v : V) (es : List (K × V)) → Ascends R es → Ascends R (insert_entry R es k v)
  ascends_inserted exact k v es h = subst (Ascends R) (sym (inserted_is k v es h)) (ascends_map exact (insert (map_of R es) k v))

  pub find-inserted : (q k : K) (v : V) (es : List (K × V)) → Ascends R es → find R q (insert_entry R es k v) ≡ cond (eq_by_cmp R q k) (Some v) (find R q es)
  find-inserted q k v es h =
      ap (find R q) (inserted_is k v es h) ∙ sym (get-entries (insert (map_of R es) k v) q) ∙ get-insert o (map_of R es) k v q
      ∙ ap (cond (eq_by_cmp R q k) (Some v)) (get-from_entries o es q)

-- ---- some of the entries
module _ {K V : Type 0} (R : K → K → Ordering) (p : K → Bool) where
  over_filter : (k : K) (es : List (K × V)) → Over R k es → Over R k (filter (λ e. p e.0) es)
  over_filter k [] h = tt
  over_filter k (e ∷ es) h =
      let rest = over_filter k es h.1 in
      elim (p e.0) as (λ b. Over R k (cond b (e ∷ filter (λ e. p e.0) es) (filter (λ e. p e.0) es))) [ true ↦ (h.0, rest) | false ↦ rest ]

  pub ascends_filter : (es : List (K × V)) → Ascends R es → Ascends R (filter (λ e. p e.0) es)
  ascends_filter [] h = tt
  ascends_filter (e ∷ es) h =
      let rest = ascends_filter es h.1 in
      elim (p e.0) as (λ b. Ascends R (cond b (e ∷ filter (λ e. p e.0) es) (filter (λ e. p e.0) es))) [ true ↦ (over_filter e.0 es h.0, rest) | false ↦ rest ]

  pub find-filter : IsAntisymmetric R → (q : K) (es : List (K × V)) → find R q (filter (λ e. p e.0) es) ≡ cond (p q) (find R q es) None
  find-filter exact q [] = elim (p q) as (λ b. find R q (filter {X = K × V} (λ e. p e.0) []) ≡ cond b (find {X = V} R q []) None) [ true ↦ refl | false ↦ refl ]
  find-filter exact q (e ∷ es) = at (p e.0) (R q e.0) refl refl (find-filter exact q es)
    where
      at : (b : Bool) (r : Ordering) → p e.0 ≡ b → R q e.0 ≡ r → find R q (filter (λ e. p e.0) es) ≡ cond (p q) (find R q es) None
          → find R q (cond b (e ∷ filter (λ e. p e.0) es) (filter (λ e. p e.0) es)) ≡ cond (p q) (cond (is_eq r) (Some e.1) (find R q es)) None
      at true Less b r h = ap (λ r. cond (is_eq r) (Some e.1) (find R q (filter (λ e. p e.0) es))) r ∙ h
      at true Greater b r h = ap (λ r. cond (is_eq r) (Some e.1) (find R q (filter (λ e. p e.0) es))) r ∙ h
      at true Equal b r h =
          ap (λ r. cond (is_eq r) (Some e.1) (find R q (filter (λ e. p e.0) es))) r
          ∙ sym (ap (λ b. cond b (Some e.1) None) (ap p (exact q e.0 r) ∙ b))
      at false Less b r h = h
      at false Greater b r h = h
      at false Equal b r h =
          h ∙ ap (λ b. cond b (find R q es) None) (ap p (exact q e.0 r) ∙ b) ∙ sym (ap (λ b. cond b (Some e.1) None) (ap p (exact q e.0 r) ∙ b))

-- what becomes of entries, where it keeps their order
module _ {K V L W : Type 0} (R : K → K → Ordering) (S : L → L → Ordering) (f : K × V → Option (L × W))
    (keeps : (d e : K × V) (x y : L × W) → f d ≡ Some x → f e ≡ Some y → R d.0 e.0 ≡ Less → S x.0 y.0 ≡ Less) where
  over_kept : (d : K × V) (x : L × W) → f d ≡ Some x → (es : List (K × V)) → Over R d.0 es → Over S x.0 (filter_map f es)
  over_kept d x is [] h = tt
  over_kept d x is (e ∷ es) h =
      let rest = over_kept d x is es h.1 in
      elim (f e) as (λ o. f e ≡ o → Over S x.0 (cons_option o (filter_map f es))) [ None ↦ λ q. rest | Some y ↦ λ q. (keeps d e x y is q h.0, rest) ] refl

  pub ascends_kept : (es : List (K × V)) → Ascends R es → Ascends S (filter_map f es)
  ascends_kept [] h = tt
  ascends_kept (e ∷ es) h =
      let rest = ascends_kept es h.1 in
      elim (f e) as (λ o. f e ≡ o → Ascends S (cons_option o (filter_map f es))) [ None ↦ λ q. rest | Some y ↦ λ q. (over_kept e y q es h.0, rest) ] refl

-- ---- entries that are inserted in their order
module _ {K V : Type 0} (R : K → K → Ordering) where
  abbrev pub all_with : List (K × V) → List (K × V) → List (K × V)
  all_with es [] = es
  all_with es (f ∷ fs) = all_with (insert_entry R es f.0 f.1) fs

  pub with_first : (es : List (K × V)) (o : Option (K × V)) (fs : List (K × V)) → all_with es (cons_option o fs) ≡ all_with (with_entry R es o) fs
  with_first es None fs = refl
  with_first es (Some f) fs = refl

  over_last : (k : K) (es : List (K × V)) (f : K × V) (fs : List (K × V)) → Over R k (es ++ f ∷ fs) → R k f.0 ≡ Less
  over_last k [] f fs h = h.0
  over_last k (e ∷ es) f fs h = over_last k es f fs h.1

  module _ (o : IsTotalOrder R) where
    at_end : (es : List (K × V)) (f : K × V) (fs : List (K × V)) → Ascends R (es ++ f ∷ fs) → insert_entry R es f.0 f.1 ≡ es ++ f ∷ []
    at_end [] f fs h = refl
    at_end (e ∷ es) f fs h = rw (above R o e.0 f.0 (over_last e.0 es f fs h.0)) (ap (λ (l : List (K × V)). e ∷ l) (at_end es f fs h.1))

    all_at_end : (es fs : List (K × V)) → Ascends R (es ++ fs) → all_with es fs ≡ es ++ fs
    all_at_end es [] h = sym (append-nil es)
    all_at_end es (f ∷ fs) h =
        ap (λ (l : List (K × V)). all_with l fs) (at_end es f fs h)
        ∙ all_at_end (es ++ f ∷ []) fs (subst (Ascends R) (sym (append_assoc es (f ∷ []) fs)) h)
        ∙ append_assoc es (f ∷ []) fs

    pub all_in_order : (fs : List (K × V)) → Ascends R fs → all_with [] fs ≡ fs
    all_in_order fs h = all_at_end [] fs h

-- ---- lists that an entry put or dropped leaves as they were
module _ {K V : Type 0} (R : K → K → Ordering) (o : IsTotalOrder R) where
  put_here : (es : List (K × V)) (k : K) (v : V) → lookup (is_at (R k)) (insert_entry R es k v) ≡ Some v
  put_here [] k v = ap (λ r. cond (is_eq r) (Some v) None) (tied_itself o k)
  put_here (e ∷ es) k v =
      elim (R k e.0) as (λ r. R k e.0 ≡ r → lookup (is_at (R k)) (match_ordering r ((k, v) ∷ e ∷ es) ((e.0, v) ∷ es) (e ∷ insert_entry R es k v)) ≡ Some v) [
        | Less ↦ λ s. ap (λ r. cond (is_eq r) (Some v) (lookup (is_at (R k)) (e ∷ es))) (tied_itself o k)
        | Equal ↦ λ s. ap (λ r. cond (is_eq r) (Some v) (lookup (is_at (R k)) es)) s
        | Greater ↦ λ s. ap (λ r. cond (is_eq r) (Some e.1) (lookup (is_at (R k)) (insert_entry R es k v))) s ∙ put_here es k v
      ] refl

  pub there_before : (es : List (K × V)) (k : K) (v : V) → insert_entry R es k v ≡ es → lookup (is_at (R k)) es ≡ Some v
  there_before es k v same = sym (ap (lookup (is_at (R k))) same) ∙ put_here es k v

pub nowhere_before : {K V : Type 0} (p : K → Bool) (es : List (K × V)) → remove_entry p es ≡ es → lookup p es ≡ None
nowhere_before p [] same = refl
nowhere_before {K = K} {V = V} p (e ∷ es) same =
    elim (p e.0) as (λ b. cond b es (e ∷ remove_entry p es) ≡ e ∷ es → cond b (Some e.1) (lookup p es) ≡ None) [
      | true ↦ λ s. let long = ap length s in absurd (omega (arith, long))
      | false ↦ λ s. nowhere_before p es (ap (drop 1) s)
    ] same
