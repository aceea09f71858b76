-- That tests fail or pass, as a fact on all items or on all pairs of them.
use Rattle.std.proofs.Common.{◌≡◌, ◌↔◌, ◌||◌, ◌&&◌, Bool, true, false, cond, IsTrue, List, [], ◌∷◌, Option, None, get_or, refl, sym, ◌∙◌, arith}
use Rattle.std.specs.List.{All, AllPairs, list_any, list_all, filter}
use Rattle.std.proofs.lemmas.List.Kept.{AllPairs-cons}
use Rattle.ov_types.specs.First.{◌<|>◌}
pub use Rattle.ov_types.proofs.FirstLemmas.{all_head, all_tail, all_cons, pairs_head, pairs_tail, both_none, mapped_none, find_none, first_of_none, first_meeting_none}

-- chains of equivalences

pub iff_then : {A B C : Type 0} → A ↔ B → B ↔ C → A ↔ C
iff_then p q = (λ a. q.0 (p.0 a), λ c. p.1 (q.1 c))

pub iff_both : {A B C D : Type 0} → A ↔ C → B ↔ D → (A × B) ↔ (C × D)
iff_both p q = (λ h. (p.0 h.0, q.0 h.1), λ h. (p.1 h.0, q.1 h.1))

pub all_iff : {A : Type 0} (P Q : A → Type 0) → ((x : A) → P x ↔ Q x) → (xs : List A) → All P xs ↔ All Q xs
all_iff {A} P Q same xs = (
  λ h k d lt. (same (get_or xs k d)).0 (h k d lt),
  λ h k d lt. (same (get_or xs k d)).1 (h k d lt),
)

pub pairs_iff : {A : Type 0} (P Q : A → A → Type 0) → ((x y : A) → P x y ↔ Q x y) → (xs : List A) → AllPairs P xs ↔ AllPairs Q xs
pairs_iff {A} P Q same xs = (
  λ h i j d lt within. (same (get_or xs i d) (get_or xs j d)).0 (h i j d lt within),
  λ h i j d lt within. (same (get_or xs i d) (get_or xs j d)).1 (h i j d lt within),
)

-- tests that fail

any_fails : {A : Type 0} (p : A → Bool) (xs : List A) → list_any p xs ≡ false → All (λ x. p x ≡ false) xs
any_fails p [] h = λ k d lt. absurd (omega arith)
any_fails {A} p (x ∷ xs) h =
    let parts : (p x ≡ false) × (list_any p xs ≡ false) =
    elim (p x) as (λ b. (b || list_any p xs) ≡ false → (b ≡ false) × (list_any p xs ≡ false)) [ true ↦ λ e. cc | false ↦ λ e. (refl, e) ] h
    in all_cons (λ y. p y ≡ false) x xs parts.0 (any_fails p xs parts.1)

all_failed : {A : Type 0} (p : A → Bool) (xs : List A) → All (λ x. p x ≡ false) xs → list_any p xs ≡ false
all_failed p [] h = refl
all_failed {A} p (x ∷ xs) h =
    let P : A → Type 0 = λ y. p y ≡ false in
    let here : p x ≡ false = all_head P x xs h in
    rw here (all_failed p xs (all_tail P x xs h))

pub list_any_false : {A : Type 0} (p : A → Bool) (xs : List A) → (list_any p xs ≡ false) ↔ All (λ x. p x ≡ false) xs
list_any_false p xs = (any_fails p xs, all_failed p xs)

-- tests that pass

all_pass : {A : Type 0} (p : A → Bool) (xs : List A) → list_all p xs ≡ true → All (λ x. p x ≡ true) xs
all_pass p [] h = λ k d lt. absurd (omega arith)
all_pass {A} p (x ∷ xs) h =
    let parts : (p x ≡ true) × (list_all p xs ≡ true) =
    elim (p x) as (λ b. (b && list_all p xs) ≡ true → (b ≡ true) × (list_all p xs ≡ true)) [ true ↦ λ e. (refl, e) | false ↦ λ e. cc ] h
    in all_cons (λ y. p y ≡ true) x xs parts.0 (all_pass p xs parts.1)

all_passed : {A : Type 0} (p : A → Bool) (xs : List A) → All (λ x. p x ≡ true) xs → list_all p xs ≡ true
all_passed p [] h = refl
all_passed {A} p (x ∷ xs) h =
    let P : A → Type 0 = λ y. p y ≡ true in
    let here : p x ≡ true = all_head P x xs h in
    rw here (all_passed p xs (all_tail P x xs h))

pub list_all_true : {A : Type 0} (p : A → Bool) (xs : List A) → (list_all p xs ≡ true) ↔ All (λ x. p x ≡ true) xs
list_all_true p xs = (all_pass p xs, all_passed p xs)

-- six answers in a row
pub six_none : {A : Type 0} (a b c d e f : Option A)
    → ((a <|> (b <|> (c <|> (d <|> (e <|> f))))) ≡ None) ↔ ((a ≡ None) × (b ≡ None) × (c ≡ None) × (d ≡ None) × (e ≡ None) × (f ≡ None))
six_none a b c d e f =
    let p1 = both_none a (b <|> (c <|> (d <|> (e <|> f)))) in
    let p2 = both_none b (c <|> (d <|> (e <|> f))) in
    let p3 = both_none c (d <|> (e <|> f)) in
    let p4 = both_none d (e <|> f) in
    let p5 = both_none e f in (
      λ h.
          let h1 = p1.0 h in
          let h2 = p2.0 h1.1 in
          let h3 = p3.0 h2.1 in
          let h4 = p4.0 h3.1 in
          let h5 = p5.0 h4.1 in
          (h1.0, h2.0, h3.0, h4.0, h5.0, h5.1),
      λ k. p1.1 (k.0, p2.1 (k.1, p3.1 (k.2, p4.1 (k.3, p5.1 (k.4, k.5))))),
    )

-- what is kept of a list

module _ {A : Type 0} (g : A → Bool) where
  all_kept : (P : A → Type 0) (xs : List A) → All P (filter g xs) ↔ All (λ x. IsTrue (g x) → P x) xs
  all_kept P [] = (λ h k d lt. absurd (omega arith), λ h k d lt. absurd (omega arith))
  all_kept P (x ∷ xs) =
      let Q : A → Type 0 = λ y. IsTrue (g y) → P y in
      let rest = all_kept P xs in
      elim (g x) as (λ b. (b ≡ g x) → All P (cond b (x ∷ filter g xs) (filter g xs)) ↔ All Q (x ∷ xs)) [
        | true ↦ λ e. (
          λ h. all_cons Q x xs (λ t. all_head P x (filter g xs) h) (rest.0 (all_tail P x (filter g xs) h)),
          λ h. all_cons P x (filter g xs) (all_head Q x xs h (sym e)) (rest.1 (all_tail Q x xs h)),
        )
        | false ↦ λ e. (
          λ h. all_cons Q x xs (λ t. let absent : false ≡ true = e ∙ t in cc) (rest.0 h),
          λ h. rest.1 (all_tail Q x xs h),
        )
      ] refl

  pub pairs_kept : (R : A → A → Type 0) (xs : List A) → AllPairs R (filter g xs) ↔ AllPairs (λ a b. IsTrue (g a) → IsTrue (g b) → R a b) xs
  pairs_kept R [] = (λ h i j d lt within. absurd (omega arith), λ h i j d lt within. absurd (omega arith))
  pairs_kept R (x ∷ xs) =
      let K : A → A → Type 0 = λ a b. IsTrue (g a) → IsTrue (g b) → R a b in
      let rest = pairs_kept R xs in
      elim (g x) as (λ b. (b ≡ g x) → AllPairs R (cond b (x ∷ filter g xs) (filter g xs)) ↔ AllPairs K (x ∷ xs)) [
        | true ↦ λ e. (
          λ h. AllPairs-cons K x xs (λ k d lt t u. (all_kept (R x) xs).0 (pairs_head R x (filter g xs) h) k d lt u) (rest.0 (pairs_tail R x (filter g xs) h)),
          λ h. AllPairs-cons R x (filter g xs) ((all_kept (R x) xs).1 (λ k d lt u. pairs_head K x xs h k d lt (sym e) u)) (rest.1 (pairs_tail K x xs h)),
        )
        | false ↦ λ e. (
          λ h. AllPairs-cons K x xs (λ k d lt t u. let absent : false ≡ true = e ∙ t in cc) (rest.0 h),
          λ h. rest.1 (pairs_tail K x xs h),
        )
      ] refl
