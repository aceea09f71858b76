-- The laws of changes of keyed maps.
use Rattle.std.specs.Prelude.{◌≡◌, ◌≢◌, ◌↔◌, IsTrue, map, Bool, true, false, cond, ◌||◌, List, [], ◌∷◌, ◌++◌, Some, None, ◌⊎◌, is_some}
use Rattle.std.specs.declared.option.Option.{Option}
use Rattle.std.specs.Bool.{Decides}
use Rattle.std.specs.List.{filter_map, cons_option, list_any, AllByRecursion}
use Rattle.std.proofs.lemmas.Bool.{true≢false}
use Rattle.std.proofs.lemmas.Option.{same_Some}
use Rattle.std.specs.declared.cmp.Ordering.{Ordering}
use Rattle.std.specs.declared.cmp.Ordering.TheVariants.{Less, Equal}
use Rattle.std.specs.Ordering.{eq_by_cmp}
use Rattle.std.specs.Cmp.{IsTotalOrder, Equal-is}
use Rattle.std.specs.FinMap.{FinMap, IsAntisymmetric, get, entries, from_entries, find, get-insert, get-remove, get-from_entries, get-entries, get_tied, same_map, contains_key-keys, empty, get-empty}
use Rattle.std.specs.List.Sorted.{IsStrictlySortedBy}
use Rattle.ov_sync.proofs.Ascending.{Over, Ascends, ascends_entries}
use Rattle.std.proofs.Common.{refl, sym, ◌∙◌, ap, subst, inl, inr}
use Rattle.ov_sync.specs.declared.Delta.{Delta}
use Rattle.ov_sync.specs.declared.Delta.TheVariants.{Put, Drop}
use Rattle.ov_sync.specs.Keyed.{changed, after, keys_of_either, key_of, is_changed, change, change_at, difference, IsInStep, PutOf, Values}

module _ {K V : Type 0} {R : K → K → Ordering} where
  -- one list of changes after another
  pub after-append : (m : FinMap R V) (ds es : List (Delta K V)) → after m (ds ++ es) ≡ after (after m ds) es
  after-append m [] es = refl
  after-append m (d ∷ ds) es = after-append (changed m d) ds es

-- a change that may not be there
abbrev changed_by : {K V : Type 0} {R : K → K → Ordering} → FinMap R V → Option (Delta K V) → FinMap R V
changed_by m None = m
changed_by m (Some d) = changed m d

after_one : {K V : Type 0} {R : K → K → Ordering} (m : FinMap R V) (o : Option (Delta K V)) (ds : List (Delta K V)) → after m (cons_option o ds) ≡ after (changed_by m o) ds
after_one m None ds = refl
after_one m (Some d) ds = refl

-- what a key finds where the entries of two maps are put one after another
found_in_either : {K V : Type 0} (R : K → K → Ordering) (q : K) (es fs : List (K × V)) → is_some (find R q (es ++ fs)) ≡ (is_some (find R q es) || is_some (find R q fs))
found_in_either R q [] fs = refl
found_in_either R q (e ∷ es) fs = elim (eq_by_cmp R q e.0) as (λ b. is_some (cond b (Some e.1) (find R q (es ++ fs))) ≡ (is_some (cond b (Some e.1) (find R q es)) || is_some (find R q fs))) [ true ↦ refl | false ↦ found_in_either R q es fs ]

-- a value that stays is that of the change, where the change is of its key
stays : {X : Type 0} (b : Bool) (x y : X) → (b ≡ true → x ≡ y) → x ≡ cond b y x
stays true x y h = h refl
stays false x y h = refl

pub neither : (b c : Bool) → (b || c) ≡ false → (b ≡ false) × (c ≡ false)
neither true c e = absurd (true≢false e)
neither false c e = (refl, e)

-- one of two equal values
one_of : {X : Type 0} (x y z : X) → (x ≡ y) ⊎ (x ≡ z) → y ≡ z → x ≡ z
one_of x y z (inl p) e = p ∙ e
one_of x y z (inr p) e = p

-- where either has it
later_wins : {X : Type 0} (a w : Option X) → cond (is_some a || is_some w) w a ≡ w
later_wins None None = refl
later_wins None (Some w) = refl
later_wins (Some a) None = refl
later_wins (Some a) (Some w) = refl

pub two_steps : {X : Type 0} (b c : Bool) (w m m' : X) → m' ≡ cond b w m → cond c w m' ≡ cond (b || c) w m
two_steps true true w m m' e = refl
two_steps true false w m m' e = e
two_steps false c w m m' e = ap (cond c w) e

module _ {K V : Type 0} {R : K → K → Ordering} (same : V → V → Bool) (o : IsTotalOrder R) (decides : (a b : V) → Decides (same a b) (a ≡ b)) where
  -- the value at a key, after the change that another key needs
  by_values : (m : FinMap R V) (q k : K) (before later : Option V) → (eq_by_cmp R q k ≡ true → (get m q ≡ before) ⊎ (get m q ≡ later)) → get (changed_by m (change same k before later)) q ≡ cond (eq_by_cmp R q k) later (get m q)
  by_values m q k None None h = stays _ _ _ (λ t. one_of _ _ _ (h t) refl)
  by_values m q k (Some v) None h = get-remove o m k q
  by_values m q k None (Some w) h = get-insert o m k w q
  by_values m q k (Some v) (Some w) h =
      elim (same v w) as (λ b. same v w ≡ b → get (changed_by m (cond b None (Some (Put k w)))) q ≡ cond (eq_by_cmp R q k) (Some w) (get m q)) [
        | true ↦ λ e. stays _ _ _ (λ t. one_of _ _ _ (h t) (ap Some ((decides v w).0 e)))
        | false ↦ λ e. get-insert o m k w q
      ] refl

  tied : (m : FinMap R V) (q k : K) → eq_by_cmp R q k ≡ true → get m k ≡ get m q
  tied m q k t = get_tied o m q k ((Equal-is (R q k)).0 t)

  -- the value at a key, after the changes that some keys need
  told_by : (sent wanted : FinMap R V) (q : K) (ks : List K) (m : FinMap R V) → (get m q ≡ get sent q) ⊎ (get m q ≡ get wanted q) → get (after m (filter_map (change_at same sent wanted) ks)) q ≡ cond (list_any (eq_by_cmp R q) ks) (get wanted q) (get m q)
  told_by sent wanted q [] m h = refl
  told_by sent wanted q (k ∷ ks) m h =
      let m' : FinMap R V = changed_by m (change_at same sent wanted k) in
      let here : get m' q ≡ cond (eq_by_cmp R q k) (get wanted k) (get m q) = by_values m q k (get sent k) (get wanted k) (λ t. subst (λ (x : Option V). (get m q ≡ x) ⊎ (get m q ≡ get wanted k)) (sym (tied sent q k t)) (subst (λ (x : Option V). (get m q ≡ get sent q) ⊎ (get m q ≡ x)) (sym (tied wanted q k t)) h)) in
      let step : get m' q ≡ cond (eq_by_cmp R q k) (get wanted q) (get m q) =
      here ∙ elim (eq_by_cmp R q k) as (λ b. eq_by_cmp R q k ≡ b → cond b (get wanted k) (get m q) ≡ cond b (get wanted q) (get m q)) [ true ↦ λ t. tied wanted q k t | false ↦ λ t. refl ] refl in
      let next : (get m' q ≡ get sent q) ⊎ (get m' q ≡ get wanted q) =
      elim (eq_by_cmp R q k) as (λ b. get m' q ≡ cond b (get wanted q) (get m q) → (get m' q ≡ get sent q) ⊎ (get m' q ≡ get wanted q)) [
        | true ↦ λ e. inr e
        | false ↦ λ e. elim h as (λ _. (get m' q ≡ get sent q) ⊎ (get m' q ≡ get wanted q)) [ inl p ↦ inl (e ∙ p) | inr p ↦ inr (e ∙ p) ]
      ] step in
      ap (λ (x : FinMap R V). get x q) (after_one m (change_at same sent wanted k) (filter_map (change_at same sent wanted) ks))
      ∙ told_by sent wanted q ks m' next ∙ two_steps (eq_by_cmp R q k) (list_any (eq_by_cmp R q) ks) (get wanted q) (get m q) (get m' q) step

  -- whether a key is one of either map
  pub is_key : (a b : FinMap R V) (q : K) → list_any (eq_by_cmp R q) (keys_of_either a b) ≡ (is_some (get a q) || is_some (get b q))
  is_key a b q =
      sym (contains_key-keys (from_entries {R = R} (entries a ++ entries b)) q)
      ∙ ap is_some (get-from_entries o (entries a ++ entries b) q)
      ∙ found_in_either R q (entries a) (entries b)
      ∙ ap (λ (x : Option V). is_some x || is_some (find R q (entries b))) (sym (get-entries a q))
      ∙ ap (λ (x : Option V). is_some (get a q) || is_some x) (sym (get-entries b q))

  -- the difference leads from the one map to the other
  pub after-difference : IsAntisymmetric R → (sent wanted : FinMap R V) → after sent (difference same sent wanted) ≡ wanted
  after-difference exact sent wanted = same_map o exact _ _ (λ q.
      told_by sent wanted q (keys_of_either sent wanted) sent (inl refl)
      ∙ ap (λ b. cond b (get wanted q) (get sent q)) (is_key sent wanted q)
      ∙ later_wins (get sent q) (get wanted q))

module _ {K V : Type 0} {R : K → K → Ordering} (same : V → V → Bool) (decides : (a b : V) → Decides (same a b) (a ≡ b)) where
  differs_at : (a b : FinMap R V) (k : K) (p q : Option V) (ds : List (Delta K V)) → get a k ≡ p → get b k ≡ q → AllByRecursion (λ d. get a (key_of d) ≡ get b (key_of d) → ⊥) ds → AllByRecursion (λ d. get a (key_of d) ≡ get b (key_of d) → ⊥) (cons_option (change same k p q) ds)
  differs_at a b k None None ds e f h = h
  differs_at a b k (Some v) None ds e f h = ((λ is. cc), h)
  differs_at a b k None (Some w) ds e f h = ((λ is. cc), h)
  differs_at a b k (Some v) (Some w) ds e f h =
      elim (same v w) as (λ c. same v w ≡ c → AllByRecursion (λ d. get a (key_of d) ≡ get b (key_of d) → ⊥) (cons_option (cond c None (Some (Put k w))) ds)) [
        | true ↦ λ _. h
        | false ↦ λ is. ((λ alike. absurd (true≢false (sym ((decides v w).1 (same_Some v w (sym e ∙ alike ∙ f))) ∙ is))), h)
      ] refl

  -- each change of a difference is of a key whose values differ
  pub difference_differs : (a b : FinMap R V) → AllByRecursion (λ d. get a (key_of d) ≡ get b (key_of d) → ⊥) (difference same a b)
  difference_differs a b = each (keys_of_either a b)
    where
      each : (ks : List K) → AllByRecursion (λ d. get a (key_of d) ≡ get b (key_of d) → ⊥) (filter_map (change_at same a b) ks)
      each [] = tt
      each (k ∷ ks) = differs_at a b k (get a k) (get b k) (filter_map (change_at same a b) ks) refl refl (each ks)

  -- nothing changes from a map to itself
  pub difference-itself : (a : FinMap R V) → difference same a a ≡ []
  difference-itself a = each (keys_of_either a a)
    where
      alike : (k : K) (p : Option V) (ds : List (Delta K V)) → cons_option (change same k p p) ds ≡ ds
      alike k None ds = refl
      alike k (Some v) ds = ap (λ b. cons_option (cond b None (Some (Put k v))) ds) ((decides v v).1 refl)

      each : (ks : List K) → filter_map (change_at same a a) ks ≡ []
      each [] = refl
      each (k ∷ ks) = alike k (get a k) (filter_map (change_at same a a) ks) ∙ each ks

module _ {K V : Type 0} {R : K → K → Ordering} (o : IsTotalOrder R) (exact : IsAntisymmetric R) where
  -- a change leaves the value at each other key
  pub changed_apart : (m : FinMap R V) (d : Delta K V) (k : K) → (k ≡ key_of d → ⊥) → get (changed m d) k ≡ get m k
  changed_apart m (Put j v) k h = get-insert o m j v k ∙ ap (λ b. cond b (Some v) (get m k)) (apart j k h)
    where
      apart : (j k : K) → (k ≡ j → ⊥) → eq_by_cmp R k j ≡ false
      apart j k h = elim (eq_by_cmp R k j) as (λ b. eq_by_cmp R k j ≡ b → b ≡ false) [ true ↦ λ t. absurd (h (exact k j ((Equal-is (R k j)).0 t))) | false ↦ λ _. refl ] refl
  changed_apart m (Drop j) k h = get-remove o m j k ∙ ap (λ b. cond b None (get m k)) (apart j k h)
    where
      apart : (j k : K) → (k ≡ j → ⊥) → eq_by_cmp R k j ≡ false
      apart j k h = elim (eq_by_cmp R k j) as (λ b. eq_by_cmp R k j ≡ b → b ≡ false) [ true ↦ λ t. absurd (h (exact k j ((Equal-is (R k j)).0 t))) | false ↦ λ _. refl ] refl

module _ {K V : Type 0} {R : K → K → Ordering} (same : V → V → Bool) (o : IsTotalOrder R) (exact : IsAntisymmetric R) (decides : (a b : V) → Decides (same a b) (a ≡ b)) where
  stays_at : (m : FinMap R V) (d : Delta K V) (k : K) → eq_by_cmp R k (key_of d) ≡ false → get (changed m d) k ≡ get m k
  stays_at m (Put j v) k h = get-insert o m j v k ∙ ap (λ b. cond b (Some v) (get m k)) h
  stays_at m (Drop j) k h = get-remove o m j k ∙ ap (λ b. cond b None (get m k)) h

  -- changes of other keys leave the value at a key
  unchanged : (ds : List (Delta K V)) (m : FinMap R V) (k : K) → is_changed R ds k ≡ false → get (after m ds) k ≡ get m k
  unchanged [] m k h = refl
  unchanged (d ∷ ds) m k h =
      let both : (eq_by_cmp R k (key_of d) ≡ false) × (is_changed R ds k ≡ false) = neither (eq_by_cmp R k (key_of d)) (is_changed R ds k) h in
      unchanged ds (changed m d) k both.1 ∙ stays_at m d k both.0

  differs : (a b : FinMap R V) (k : K) (ds : List (Delta K V)) → AllByRecursion (λ d. get a (key_of d) ≡ get b (key_of d) → ⊥) ds → is_changed R ds k ≡ true → get a k ≡ get b k → ⊥
  differs a b k [] all h e = true≢false (sym h)
  differs a b k (d ∷ ds) all h e =
      elim (eq_by_cmp R k (key_of d)) as (λ c. eq_by_cmp R k (key_of d) ≡ c → (c || is_changed R ds k) ≡ true → ⊥) [
        | true ↦ λ t _.
            let tied : R k (key_of d) ≡ Equal = (Equal-is (R k (key_of d))).0 t in
            all.0 (get_tied o a k (key_of d) tied ∙ e ∙ sym (get_tied o b k (key_of d) tied))
        | false ↦ λ _ rest. differs a b k ds all.1 rest e
      ] refl h

  -- a key is changed exactly where the two maps differ
  pub is_changed-difference : (a b : FinMap R V) (k : K) → IsTrue (is_changed R (difference same a b) k) ↔ (get a k ≢ get b k)
  is_changed-difference a b k = (
    (λ t e. differs a b k (difference same a b) (difference_differs same decides a b) t e),
    (λ h. elim (is_changed R (difference same a b) k) as (λ c. is_changed R (difference same a b) k ≡ c → c ≡ true) [
      | true ↦ λ _. refl
      | false ↦ λ still. absurd (h (sym (unchanged (difference same a b) a k still) ∙ ap (λ (m : FinMap R V). get m k) (after-difference same o decides exact a b)))
    ] refl),
  )

  -- the keys of the changes ascend
  keyed_over : (j k : K) (p q : Option V) (ds : List (Delta K V)) → R j k ≡ Less → AllByRecursion (λ i. R j i ≡ Less) (map key_of ds) → AllByRecursion (λ i. R j i ≡ Less) (map key_of (cons_option (change same k p q) ds))
  keyed_over j k None None ds h all = all
  keyed_over j k (Some v) None ds h all = (h, all)
  keyed_over j k None (Some w) ds h all = (h, all)
  keyed_over j k (Some v) (Some w) ds h all = elim (same v w) as (λ c. AllByRecursion (λ i. R j i ≡ Less) (map key_of (cons_option (cond c None (Some (Put k w))) ds))) [ true ↦ all | false ↦ (h, all) ]

  keyed_first : (k : K) (p q : Option V) (ds : List (Delta K V)) → AllByRecursion (λ i. R k i ≡ Less) (map key_of ds) → IsStrictlySortedBy R (map key_of ds) → IsStrictlySortedBy R (map key_of (cons_option (change same k p q) ds))
  unfolding IsStrictlySortedBy
  keyed_first k None None ds h all = all
  keyed_first k (Some v) None ds h all = (h, all)
  keyed_first k None (Some w) ds h all = (h, all)
  keyed_first k (Some v) (Some w) ds h all = elim (same v w) as (λ c. IsStrictlySortedBy R (map key_of (cons_option (cond c None (Some (Put k w))) ds))) [ true ↦ all | false ↦ (h, all) ]

  pub difference_ascends : (a b : FinMap R V) → IsStrictlySortedBy R (map key_of (difference same a b))
  unfolding IsStrictlySortedBy
  difference_ascends a b = each (entries (from_entries {R = R} (entries a ++ entries b))) (ascends_entries R o (entries a ++ entries b))
    where
      over : (k : K) (es : List (K × V)) → Over R k es → AllByRecursion (λ i. R k i ≡ Less) (map key_of (filter_map (change_at same a b) (map (λ e. e.0) es)))
      over k [] h = tt
      over k (e ∷ es) h = keyed_over k e.0 (get a e.0) (get b e.0) _ h.0 (over k es h.1)

      each : (es : List (K × V)) → Ascends R es → IsStrictlySortedBy R (map key_of (filter_map (change_at same a b) (map (λ e. e.0) es)))
      each [] h = tt
      each (e ∷ es) h = keyed_first e.0 (get a e.0) (get b e.0) _ (over e.0 es h.0) (each es h.1)

  -- a step of the sender keeps the two ends in step
  pub in_step-difference : (held sent wanted : FinMap R V) (queue : List (Delta K V)) → IsInStep held queue sent → IsInStep held (queue ++ difference same sent wanted) wanted
  in_step-difference held sent wanted queue h =
      after-append held queue (difference same sent wanted) ∙ ap (λ (m : FinMap R V). after m (difference same sent wanted)) h ∙ after-difference same o decides exact sent wanted

module _ {K V : Type 0} {R : K → K → Ordering} (P : K → V → Type 0) where
  puts_at : (same : V → V → Bool) (b : FinMap R V) (k : K) (p q : Option V) (ds : List (Delta K V)) → get b k ≡ q → Values P b → AllByRecursion (PutOf P) ds → AllByRecursion (PutOf P) (cons_option (change same k p q) ds)
  puts_at same b k None None ds e f h = h
  puts_at same b k (Some v) None ds e f h = (tt, h)
  puts_at same b k None (Some w) ds e f h = (f k w e, h)
  puts_at same b k (Some v) (Some w) ds e f h = elim (same v w) as (λ c. AllByRecursion (PutOf P) (cons_option (cond c None (Some (Put k w))) ds)) [ true ↦ h | false ↦ (f k w e, h) ]

  -- a difference puts values of the wanted map
  pub difference_puts : (same : V → V → Bool) (a b : FinMap R V) → Values P b → AllByRecursion (PutOf P) (difference same a b)
  difference_puts same a b f = each (keys_of_either a b)
    where
      each : (ks : List K) → AllByRecursion (PutOf P) (filter_map (change_at same a b) ks)
      each [] = tt
      each (k ∷ ks) = puts_at same b k (get a k) (get b k) (filter_map (change_at same a b) ks) refl f (each ks)

  pub changed_values : IsTotalOrder R → IsAntisymmetric R → (m : FinMap R V) (d : Delta K V) → Values P m → PutOf P d → Values P (changed m d)
  changed_values o exact m (Put j w) f h k v e =
      elim (eq_by_cmp R k j) as (λ b. eq_by_cmp R k j ≡ b → cond b (Some w) (get m k) ≡ Some v → P k v) [
        | true ↦ λ t is. subst (λ (x : K). P x v) (sym (exact k j ((Equal-is (R k j)).0 t))) (subst (P j) (same_Some w v is) h)
        | false ↦ λ _ is. f k v is
      ] refl (sym (get-insert o m j w k) ∙ e)
  changed_values o exact m (Drop j) f h k v e =
      elim (eq_by_cmp R k j) as (λ b. cond b None (get m k) ≡ Some v → P k v) [ true ↦ λ is. cc | false ↦ λ is. f k v is ] (sym (get-remove o m j k) ∙ e)

pub empty_values : {K V : Type 0} (R : K → K → Ordering) (P : K → V → Type 0) → Values P (empty {X = V} {R = R})
empty_values {V = V} R P k v e = absurd (none_some v (sym (get-empty R k) ∙ e))
  where
    none_some : (v : V) → None ≡ Some v → ⊥
    none_some v e = cc
