-- Items that are looked for in a list in order.
use Rattle.std.proofs.Common.{◌≡◌, ℕ, zero, suc, Bool, true, false, cond, List, [], ◌∷◌, Option, Some, None, drop, find, get_or, refl, subst, sym, ap, ◌∙◌, inl, inr, arith}
use Rattle.std.specs.Borrow.{Bor}
use Rattle.std.specs.Prelude.{option_copied}
use Rattle.std.specs.List.{AllPairs, slice_get}
use Rattle.std.specs.List.Sorted.{IsPartitionedBy, IsPartitionPoint}
use Rattle.std.proofs.lemmas.Bool.{cases_lt}
use Rattle.ov_types.proofs.FirstLemmas.{find_none, pairs_head, pairs_tail}
use Rattle.inspect_walks.specs.Taking.{passing}

pub parted : {A : Type 0} (before : A → Bool) (R : A → A → Type 0) → ((x y : A) → R x y → before y ≡ true → before x ≡ true) → (xs : List A) → AllPairs R xs
    → IsPartitionedBy before xs
parted before R falls xs pairs i j d le lt e =
    elim (cases_lt i j) [
      | inl less ↦ falls (get_or xs i d) (get_or xs j d) (pairs i j d less lt) e
      | inr more ↦
          let same : j ≡ i = omega arith in
          subst (λ (k : ℕ). before (get_or xs k d) ≡ true) same e
    ]

pub pairs_drop : {A : Type 0} (R : A → A → Type 0) (k : ℕ) (xs : List A) → AllPairs R xs → AllPairs R (drop k xs)
pairs_drop R zero xs pairs = pairs
pairs_drop R (suc k) [] pairs = pairs
pairs_drop R (suc k) (x ∷ xs) pairs = pairs_drop R k xs (pairs_tail R x xs pairs)

-- the first item that is not before a key is the one of the key, where there is one

module _ {A : Type 0} (before is : A → Bool) (apart : (x : A) → before x ≡ true → is x ≡ false) where
  abbrev Past : A → A → Type 0
  Past x y = before x ≡ false → is y ≡ false

  pub find_here : (xs : List A) (k : ℕ) → IsPartitionPoint (λ x. before x ≡ true) (λ x. before x ≡ false) xs k → AllPairs Past xs
      → find is xs ≡ passing is (slice_get xs k)
  find_here [] k h pairs = refl
  find_here (x ∷ xs) zero h pairs =
      let not_before : before x ≡ false = h.1 zero x (omega arith) (omega arith) in
      let none : find is xs ≡ None = (find_none is xs).1 (λ k d lt. pairs_head Past x xs pairs k d lt not_before) in
      elim (is x) as (λ b. cond b (Some x) (find is xs) ≡ cond b (Some x) None) [ true ↦ refl | false ↦ none ]
  find_here (x ∷ xs) (suc k) h pairs =
      let skipped : is x ≡ false = apart x (h.0 zero x (omega arith) (omega arith)) in
      let rest = find_here xs k (λ j d lo hi. h.0 (suc j) d (omega arith) (omega (arith, hi)), λ j d lo hi. h.1 (suc j) d (omega (arith, lo)) (omega (arith, hi)))
      (pairs_tail Past x xs pairs) in
      rw skipped rest

  -- what is found, by the item that is first not before the key

  module _ (xs : List A) (k : ℕ) (part : IsPartitionPoint (λ x. before x ≡ true) (λ x. before x ≡ false) xs k) (pairs : AllPairs Past xs) (r : Option (Bor A)) (at : option_copied r ≡ slice_get xs k) where
    here : find is xs ≡ passing is (option_copied r)
    here = find_here xs k part pairs ∙ ap (passing is) (sym at)

    pub at_end : r ≡ None → None ≡ find is xs
    at_end none = sym (here ∙ ap (λ (o : Option (Bor A)). passing is (option_copied o)) none)

    module _ (q : Bor A) (some : r ≡ Some q) where
      by_item : find is xs ≡ cond (is q.now) (Some q.now) None
      by_item = here ∙ ap (λ (o : Option (Bor A)). passing is (option_copied o)) some

      pub at_another : is q.now ≡ false → None ≡ find is xs
      at_another differs = sym (by_item ∙ ap (λ (b : Bool). cond b (Some q.now) None) differs)

      pub at_it : is q.now ≡ true → Some q.now ≡ find is xs
      at_it same = sym (by_item ∙ ap (λ (b : Bool). cond b (Some q.now) None) same)
