-- Telling the keys that may differ tells the whole difference.
use Rattle.std.specs.Prelude.{◌≡◌, map, Bool, true, false, cond, ◌||◌, List, [], ◌∷◌, ◌++◌, Some, None, is_some}
use Rattle.std.specs.declared.option.Option.{Option}
use Rattle.std.specs.Bool.{Decides}
use Rattle.std.specs.List.{filter_map, cons_option, list_any, AllByRecursion}
use Rattle.std.specs.Option.{option_map}
use Rattle.std.specs.declared.cmp.Ordering.{Ordering}
use Rattle.std.specs.declared.cmp.Ordering.TheVariants.{Less}
use Rattle.std.specs.Ordering.{eq_by_cmp, is_eq}
use Rattle.std.specs.Cmp.{IsTotalOrder, Equal-is, eq_by_cmp_equiv}
use Rattle.std.specs.FinMap.{FinMap, IsAntisymmetric, get, entries, find, get-insert, get-remove, get-from_entries, same_map}
use Rattle.std.specs.List.Sorted.{IsStrictlySortedBy}
use Rattle.std.proofs.lemmas.Bool.{true≢false}
use Rattle.std.proofs.Common.{refl, sym, ◌∙◌, ap}
use Rattle.ov_sync.specs.declared.Delta.TheVariants.{Put}
use Rattle.ov_sync.specs.Keyed.{AgreeBut, map_of, change, change_at, difference, keys_of_either, set_key, set_keys, told_keys}
use Rattle.ov_sync.proofs.Ascending.{Over, Ascends, ascends_entries, entries-map_of}
use Rattle.ov_sync.proofs.KeyedLaws.{is_key, neither, two_steps}

-- the first of two that are there
abbrev first_of : {X : Type 0} → Option X → Option X → Option X
first_of None o = o
first_of (Some x) o = Some x

first_again : {X : Type 0} (b : Bool) (o : Option X) → first_of o (cond b o None) ≡ o
first_again true None = refl
first_again false None = refl
first_again true (Some x) = refl
first_again false (Some x) = refl

-- ---- what some keys need, each with its key
module _ {K D : Type 0} (f : K → Option D) where
  abbrev paired : K → Option (K × D)
  paired k = option_map (λ d. (k, d)) (f k)

  abbrev pairs : List K → List (K × D)
  pairs ks = filter_map paired ks

  without_keys : (ks : List K) → map (λ e. e.1) (pairs ks) ≡ filter_map f ks
  without_keys [] = refl
  without_keys (k ∷ ks) = one (f k) ∙ ap (cons_option (f k)) (without_keys ks)
    where
      one : (o : Option D) → map (λ e. e.1) (cons_option (option_map (λ d. (k, d)) o) (pairs ks)) ≡ cons_option o (map (λ e. e.1) (pairs ks))
      one None = refl
      one (Some d) = refl

  module _ (R : K → K → Ordering) where
    find_cons : (q k : K) (o : Option D) (es : List (K × D)) → find R q (cons_option (option_map (λ d. (k, d)) o) es) ≡ cond (eq_by_cmp R q k) (first_of o (find R q es)) (find R q es)
    find_cons q k None es = elim (eq_by_cmp R q k) as (λ b. find R q es ≡ cond b (find R q es) (find R q es)) [ true ↦ refl | false ↦ refl ]
    find_cons q k (Some d) es = refl

    find_pairs : IsAntisymmetric R → (q : K) (ks : List K) → find R q (pairs ks) ≡ cond (list_any (eq_by_cmp R q) ks) (f q) None
    find_pairs exact q [] = refl
    find_pairs exact q (k ∷ ks) =
        find_cons q k (f k) (pairs ks)
        ∙ ap (λ o. cond (eq_by_cmp R q k) (first_of (f k) o) o) (find_pairs exact q ks)
        ∙ elim (eq_by_cmp R q k) as (λ b. eq_by_cmp R q k ≡ b → cond b (first_of (f k) (cond (list_any (eq_by_cmp R q) ks) (f q) None)) (cond (list_any (eq_by_cmp R q) ks) (f q) None) ≡ cond (b || list_any (eq_by_cmp R q) ks) (f q) None) [
          | true ↦ λ e. ap (λ x. first_of (f x) (cond (list_any (eq_by_cmp R q) ks) (f q) None)) (sym (exact q k ((Equal-is (R q k)).0 e))) ∙ first_again (list_any (eq_by_cmp R q) ks) (f q)
          | false ↦ λ _. refl
        ] refl

    over_cons : (j k : K) (o : Option D) (es : List (K × D)) → R j k ≡ Less → Over R j es → Over R j (cons_option (option_map (λ d. (k, d)) o) es)
    over_cons j k None es h all = all
    over_cons j k (Some d) es h all = (h, all)

    over_pairs : (j : K) (ks : List K) → AllByRecursion (λ i. R j i ≡ Less) ks → Over R j (pairs ks)
    over_pairs j [] h = tt
    over_pairs j (k ∷ ks) h = over_cons j k (f k) (pairs ks) h.0 (over_pairs j ks h.1)

    ascends_cons : (k : K) (o : Option D) (es : List (K × D)) → Over R k es → Ascends R es → Ascends R (cons_option (option_map (λ d. (k, d)) o) es)
    ascends_cons k None es h all = all
    ascends_cons k (Some d) es h all = (h, all)

    ascends_pairs : (ks : List K) → IsStrictlySortedBy R ks → Ascends R (pairs ks)
    unfolding IsStrictlySortedBy
    ascends_pairs [] h = tt
    ascends_pairs (k ∷ ks) h = ascends_cons k (f k) (pairs ks) (over_pairs k ks h.0) (ascends_pairs ks h.1)

    whole : (b : Bool) (o : Option D) → (b ≡ false → o ≡ None) → cond b o None ≡ o
    whole true o h = refl
    whole false o h = sym (h refl)

    -- two ascending lists of keys, of which each has all keys that need something
    same_needs : IsTotalOrder R → IsAntisymmetric R → (js ks : List K) → IsStrictlySortedBy R js → IsStrictlySortedBy R ks
        → ((q : K) → list_any (eq_by_cmp R q) js ≡ false → f q ≡ None) → ((q : K) → list_any (eq_by_cmp R q) ks ≡ false → f q ≡ None)
        → filter_map f js ≡ filter_map f ks
    same_needs o exact js ks sj sk hj hk =
        sym (without_keys js)
        ∙ ap (λ (es : List (K × D)). map (λ e. e.1) es)
        (sym (entries-map_of R o (pairs js) (ascends_pairs js sj))
        ∙ ap entries (same_map o exact (map_of R (pairs js)) (map_of R (pairs ks)) (λ q.
        get-from_entries o (pairs js) q ∙ find_pairs exact q js ∙ whole (list_any (eq_by_cmp R q) js) (f q) (hj q)
        ∙ sym (get-from_entries o (pairs ks) q ∙ find_pairs exact q ks ∙ whole (list_any (eq_by_cmp R q) ks) (f q) (hk q))))
        ∙ entries-map_of R o (pairs ks) (ascends_pairs ks sk))
        ∙ without_keys ks

-- the keys of entries that ascend
over_sorted : {K V : Type 0} (R : K → K → Ordering) (k : K) (es : List (K × V)) → Over R k es → AllByRecursion (λ i. R k i ≡ Less) (map (λ e. e.0) es)
over_sorted R k [] h = tt
over_sorted R k (e ∷ es) h = (h.0, over_sorted R k es h.1)

sorted_keys : {K V : Type 0} (R : K → K → Ordering) (es : List (K × V)) → Ascends R es → IsStrictlySortedBy R (map (λ e. e.0) es)
unfolding IsStrictlySortedBy
sorted_keys R [] h = tt
sorted_keys R (e ∷ es) h = (over_sorted R e.0 es h.0, sorted_keys R es h.1)

not_there : {X : Type 0} (o : Option X) → is_some o ≡ false → o ≡ None
not_there None e = refl
not_there (Some x) e = absurd (true≢false e)

module _ {K V : Type 0} {R : K → K → Ordering} (o : IsTotalOrder R) where
  get-set_key : (m : FinMap R V) (k : K) (w : Option V) (q : K) → get (set_key m k w) q ≡ cond (eq_by_cmp R q k) w (get m q)
  get-set_key m k None q = get-remove o m k q
  get-set_key m k (Some v) q = get-insert o m k v q

  -- a map that differs at one key is the one where that key is set
  pub set_from : IsAntisymmetric R → (m n : FinMap R V) (k : K) (w : Option V) → ((q : K) → get n q ≡ cond (eq_by_cmp R q k) w (get m q)) → n ≡ set_key m k w
  set_from exact m n k w h = same_map o exact n (set_key m k w) (λ q. h q ∙ sym (get-set_key m k w q))

module _ {K V : Type 0} {R : K → K → Ordering} (same : V → V → Bool) (o : IsTotalOrder R) (exact : IsAntisymmetric R) (decides : (a b : V) → Decides (same a b) (a ≡ b)) where
  no_change : (k : K) (p : Option V) → change same k p p ≡ None
  no_change k None = refl
  no_change k (Some v) = ap (λ b. cond b None (Some (Put k v))) ((decides v v).1 refl)

  -- the difference is the changes of the keys that may differ
  by_keys : (sent wanted : FinMap R V) (ks : List K) → IsStrictlySortedBy R (keys_of_either sent wanted) → IsStrictlySortedBy R ks
      → ((k : K) → list_any (eq_by_cmp R k) ks ≡ false → get sent k ≡ get wanted k)
      → filter_map (change_at same sent wanted) ks ≡ difference same sent wanted
  by_keys sent wanted ks se sk h =
      same_needs (change_at same sent wanted) R o exact ks (keys_of_either sent wanted) sk se
      (λ q none. ap (change same q (get sent q)) (sym (h q none)) ∙ no_change q (get sent q))
      (λ q none. let n = neither (is_some (get sent q)) (is_some (get wanted q)) (sym (is_key same o decides sent wanted q) ∙ none) in
      (λ i. change same q (not_there (get sent q) n.0 i) (not_there (get wanted q) n.1 i)))

  apart : (j k : K) → R j k ≡ Less → eq_by_cmp R k j ≡ false
  apart j k h = (eq_by_cmp_equiv o).symm k j ∙ ap is_eq h

  -- where one key is set, those after it have what was sent
  later : (sent m : FinMap R V) (k : K) (w : Option V) (ks : List K) → AllByRecursion (λ i. R k i ≡ Less) ks
      → AllByRecursion (λ i. get m i ≡ get sent i) ks → AllByRecursion (λ i. get (set_key m k w) i ≡ get sent i) ks
  later sent m k w [] s h = tt
  later sent m k w (i ∷ is) s h = (get-set_key o m k w i ∙ ap (λ b. cond b w (get m i)) (apart k i s.0) ∙ h.0, later sent m k w is s.1 h.1)

  -- keys in order are told as they were sent before
  one_by_one : (sent wanted m : FinMap R V) (ks : List K) → IsStrictlySortedBy R ks → AllByRecursion (λ k. get m k ≡ get sent k) ks
      → told_keys same wanted m ks ≡ filter_map (change_at same sent wanted) ks
  unfolding IsStrictlySortedBy
  one_by_one sent wanted m [] s h = refl
  one_by_one sent wanted m (k ∷ ks) s h =
      (λ i. cons_option (change same k (h.0 i) (get wanted k)) (told_keys same wanted (set_key m k (get wanted k)) ks))
      ∙ ap (cons_option (change_at same sent wanted k)) (one_by_one sent wanted (set_key m k (get wanted k)) ks s.1 (later sent m k (get wanted k) ks s.0 h.1))

  itself : (ks : List K) (m : FinMap R V) → AllByRecursion (λ k. get m k ≡ get m k) ks
  itself [] m = tt
  itself (k ∷ ks) m = (refl, itself ks m)

  pub told_by_keys : (sent wanted : FinMap R V) (ks : List K) → IsStrictlySortedBy R ks → AgreeBut ks sent wanted
      → told_keys same wanted sent ks ≡ difference same sent wanted
  told_by_keys sent wanted ks s h = one_by_one sent wanted sent ks s (itself ks sent) ∙ by_keys sent wanted ks (sorted_keys R _ (ascends_entries R o (entries sent ++ entries wanted))) s h

  chosen : (b : Bool) (x y z : Option V) → (b ≡ true → x ≡ y) → cond b x z ≡ cond b y z
  chosen true x y z h = h refl
  chosen false x y z h = refl

  got : (wanted : FinMap R V) (q : K) (ks : List K) (m : FinMap R V)
      → get (set_keys wanted m ks) q ≡ cond (list_any (eq_by_cmp R q) ks) (get wanted q) (get m q)
  got wanted q [] m = refl
  got wanted q (k ∷ ks) m =
      got wanted q ks (set_key m k (get wanted k))
      ∙ two_steps (eq_by_cmp R q k) (list_any (eq_by_cmp R q) ks) (get wanted q) (get m q) (get (set_key m k (get wanted k)) q)
      (get-set_key o m k (get wanted k) q ∙ chosen (eq_by_cmp R q k) (get wanted k) (get wanted q) (get m q) (λ t. ap (get wanted) (sym (exact q k ((Equal-is (R q k)).0 t)))))

  settled : (b : Bool) (w s : Option V) → (b ≡ false → s ≡ w) → cond b w s ≡ w
  settled true w s h = refl
  settled false w s h = h refl

  pub set_by_keys : (sent wanted : FinMap R V) (ks : List K) → AgreeBut ks sent wanted → set_keys wanted sent ks ≡ wanted
  set_by_keys sent wanted ks h = same_map o exact (set_keys wanted sent ks) wanted (λ q.
      got wanted q ks sent ∙ settled (list_any (eq_by_cmp R q) ks) (get wanted q) (get sent q) (h q))
