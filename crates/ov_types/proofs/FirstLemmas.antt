-- Names that are one, a list's first item and those after it, and first things in lists.
use Rattle.std.proofs.Common.{◌≡◌, ◌↔◌, ◌⊎◌, inl, inr, ◌<◌, ◌+◌, ℕ, zero, suc, Bool, true, false, cond, IsTrue, List, [], ◌∷◌, ◌++◌, Option, Some, None, option_map, IfSome, flat_map, filter, length, get_or, drop, refl, sym, ap, ◌∙◌, subst, add-one, drop-cons, arith}
use Rattle.std.specs.Cmp.Lexicographic.{same_text, nat_list_eq_equiv}
use Rattle.std.specs.List.{All, AllPairs, Any, Contains, find, list_all, slice_get}
use Rattle.std.proofs.lemmas.List.Folds.{list_all_at}
use Rattle.std.proofs.lemmas.List.Kept.{AllPairs-cons}
use Rattle.ov_types.specs.First.{same_name, ◌<|>◌, first_of, meeting_after, first_meeting}

-- names

pub same_name_self : (name : List ℕ) → same_name name name ≡ true
same_name_self name = nat_list_eq_equiv.refl name

pub same_name_iff : (a b : List ℕ) → IsTrue (same_name a b) ↔ (a ≡ b)
same_name_iff a b = (
  λ h. same_text a b (sym h),
  λ e. ap (same_name a) (sym e) ∙ same_name_self a,
)

-- a list's first item, and those after it

pub all_head : {A : Type 0} (P : A → Type 0) (x : A) (xs : List A) → All P (x ∷ xs) → P x
all_head P x xs h = h 0 x (omega arith)

pub all_tail : {A : Type 0} (P : A → Type 0) (x : A) (xs : List A) → All P (x ∷ xs) → All P xs
all_tail P x xs h = λ k d lt. h (suc k) d (omega arith)

pub all_cons : {A : Type 0} (P : A → Type 0) (x : A) (xs : List A) → P x → All P xs → (k : ℕ) (d : A) → k < length (x ∷ xs) → P (get_or (x ∷ xs) k d)
all_cons P x xs here rest zero d lt = here
all_cons P x xs here rest (suc k) d lt = rest k d (omega arith)

pub pairs_head : {A : Type 0} (R : A → A → Type 0) (x : A) (xs : List A) → AllPairs R (x ∷ xs) → All (R x) xs
pairs_head R x xs h = λ k d lt. h 0 (suc k) d (omega arith) (omega arith)

pub pairs_tail : {A : Type 0} (R : A → A → Type 0) (x : A) (xs : List A) → AllPairs R (x ∷ xs) → AllPairs R xs
pairs_tail R x xs h = λ i j d lt within. h (suc i) (suc j) d (omega arith) (omega arith)

pub contains_here : {A : Type 0} (x : A) (xs : List A) → Contains (x ∷ xs) x
contains_here x xs = (0, omega arith, refl)

pub contains_later : {A : Type 0} (x y : A) (xs : List A) → Contains xs x → Contains (y ∷ xs) x
contains_later x y xs h = let within : h.0 < length xs = h.1 in (suc h.0, omega arith, h.2)

pub contains_cases : {A : Type 0} (y : A) (xs : List A) (x : A) → Contains (y ∷ xs) x → (y ≡ x) ⊎ Contains xs x
contains_cases y xs x (zero, lt, e) = inl e
contains_cases y xs x (suc k, lt, e) = inr (k, omega arith, e)

pub contains_at : {A : Type 0} (xs : List A) (k : ℕ) (x : A) → slice_get xs k ≡ Some x → Contains xs x
contains_at [] k x h = cc
contains_at (y ∷ ys) zero x h = let same : y ≡ x = cc in (0, omega arith, same)
contains_at (y ∷ ys) (suc k) x h = contains_later x y ys (contains_at ys k x h)

pub any_of : {A : Type 0} (P : A → Type 0) (xs : List A) (x : A) → Contains xs x → P x → Any P xs
any_of P xs x h p = (h.0, x, h.1, h.2, p)

-- the item at a place is the first of what is left there
pub next_is : {A : Type 0} (xs : List A) (i : ℕ) (x : A) → i < length xs → x ≡ get_or xs i x → drop i xs ≡ x ∷ drop (i + 1) xs
next_is xs i x lt at = rw add-one (drop-cons xs i x lt ∙ ap (λ y. y ∷ drop (suc i) xs) (sym at))

-- what a test says of all items holds of the item at a place
pub all_here : {A : Type 0} (p : A → Bool) (xs : List A) (i : ℕ) (x : A) → i < length xs → x ≡ get_or xs i x → list_all p xs ≡ true → p x ≡ true
all_here {A} p xs i x lt at all =
    elim (p x) as (λ b. p x ≡ b → b ≡ true) [
      | true ↦ λ e. refl
      | false ↦ λ e. sym (list_all_at p xs i x lt (ap p (sym at) ∙ e)) ∙ all
    ] refl

-- of two answers the first

pub or_apart : {A : Type 0} (a b c : Option A) → ((a <|> b) <|> c) ≡ (a <|> (b <|> c))
or_apart None b c = refl
or_apart (Some x) b c = refl

pub both_none : {A : Type 0} (a b : Option A) → ((a <|> b) ≡ None) ↔ ((a ≡ None) × (b ≡ None))
both_none None b = (λ h. (refl, h), λ h. h.1)
both_none (Some x) b = (λ h. cc, λ h. h.0)

pub mapped_none : {A B : Type 0} (f : A → B) (o : Option A) → (option_map f o ≡ None) ↔ (o ≡ None)
mapped_none f None = (λ h. refl, λ h. refl)
mapped_none f (Some x) = (λ h. cc, λ h. cc)

pub answered : {A : Type 0} (P : A → Type 0) (o : Option A) → IfSome o P → (r : A) → o ≡ Some r → P r
answered {A} P o h r e = subst (λ (a : Option A). IfSome a P) e h

pub of_either : {A : Type 0} (P : A → Type 0) (a b : Option A) → IfSome a P → IfSome b P → IfSome (a <|> b) P
of_either P None b h k = k
of_either P (Some x) b h k = h

pub of_mapped : {A B : Type 0} (P : B → Type 0) (f : A → B) (o : Option A) → ((x : A) → o ≡ Some x → P (f x)) → IfSome (option_map f o) P
of_mapped P f None h = tt
of_mapped P f (Some x) h = h x refl

-- the first answer that an item gives

pub of_first : {A B : Type 0} (P : B → Type 0) (f : A → Option B) (xs : List A) → ((x : A) → Contains xs x → IfSome (f x) P) → IfSome (first_of f xs) P
of_first P f [] h = tt
of_first P f (x ∷ xs) h =
    of_either P (f x) (first_of f xs) (h x (contains_here x xs)) (of_first P f xs (λ y inside. h y (contains_later y x xs inside)))

pub first_append : {A B : Type 0} (f : A → Option B) (xs ys : List A) → first_of f (xs ++ ys) ≡ (first_of f xs <|> first_of f ys)
first_append f [] ys = refl
first_append {A} {B} f (x ∷ xs) ys = ap (λ (o : Option B). f x <|> o) (first_append f xs ys) ∙ sym (or_apart (f x) (first_of f xs) (first_of f ys))

pub first_flat : {A B C : Type 0} (f : B → Option C) (g : A → List B) (xs : List A) → first_of f (flat_map g xs) ≡ first_of (λ x. first_of f (g x)) xs
first_flat f g [] = refl
first_flat {A} {B} {C} f g (x ∷ xs) = first_append f (g x) (flat_map g xs) ∙ ap (λ (o : Option C). first_of f (g x) <|> o) (first_flat f g xs)

-- what gives no answer may be left out
pub first_kept : {A B : Type 0} (f : A → Option B) (keep : A → Bool) → ((x : A) → keep x ≡ false → f x ≡ None) → (xs : List A) → first_of f (filter keep xs) ≡ first_of f xs
first_kept f keep silent [] = refl
first_kept {A} {B} f keep silent (x ∷ xs) =
    elim (keep x) as (λ b. keep x ≡ b → first_of f (cond b (x ∷ filter keep xs) (filter keep xs)) ≡ (f x <|> first_of f xs)) [
      | true ↦ λ e. ap (λ (o : Option B). f x <|> o) (first_kept f keep silent xs)
      | false ↦ λ e. first_kept f keep silent xs ∙ sym (ap (λ (o : Option B). o <|> first_of f xs) (silent x e))
    ] refl

all_silent : {A B : Type 0} (f : A → Option B) (xs : List A) → first_of f xs ≡ None → All (λ x. f x ≡ None) xs
all_silent f [] h = λ k d lt. absurd (omega arith)
all_silent f (x ∷ xs) h =
    let parts : (f x ≡ None) × (first_of f xs ≡ None) = (both_none (f x) (first_of f xs)).0 h in
    all_cons (λ y. f y ≡ None) x xs parts.0 (all_silent f xs parts.1)

none_answers : {A B : Type 0} (f : A → Option B) (xs : List A) → All (λ x. f x ≡ None) xs → first_of f xs ≡ None
none_answers f [] h = refl
none_answers {A} f (x ∷ xs) h =
    let P : A → Type 0 = λ y. f y ≡ None in
    (both_none (f x) (first_of f xs)).1 (all_head P x xs h, none_answers f xs (all_tail P x xs h))

pub first_of_none : {A B : Type 0} (f : A → Option B) (xs : List A) → (first_of f xs ≡ None) ↔ All (λ x. f x ≡ None) xs
first_of_none f xs = (all_silent f xs, none_answers f xs)

-- the first item that passes a test

pub record IsFound {A : Type 0} (p : A → Bool) (xs : List A) (x : A) : Type 0 where
  pub place : ℕ
  pub there : slice_get xs place ≡ Some x
  pub passes : p x ≡ true

pub found : {A : Type 0} (p : A → Bool) (xs : List A) (x : A) → find p xs ≡ Some x → IsFound p xs x
found p [] x h = cc
found {A} p (y ∷ ys) x h =
    elim (p y) as (λ b. (p y ≡ b) → cond b (Some y) (find p ys) ≡ Some x → IsFound p (y ∷ ys) x) [
      | true ↦ λ e here. let same : y ≡ x = cc in record { place = 0; there = here; passes = ap p (sym same) ∙ e }
      | false ↦ λ e later. let f = found p ys x later in record { place = suc f.place; there = f.there; passes = f.passes }
    ] refl h

pub found_in : {A : Type 0} (p : A → Bool) (xs : List A) (x : A) → IsFound p xs x → Contains xs x
found_in p xs x f = contains_at xs f.place x f.there

pub found_is : {A : Type 0} (p : A → Bool) (xs : List A) (x : A) → find p xs ≡ Some x → (p x ≡ true) × Contains xs x
found_is p xs x h = let f = found p xs x h in (f.passes, found_in p xs x f)

all_fail : {A : Type 0} (p : A → Bool) (xs : List A) → find p xs ≡ None → All (λ x. p x ≡ false) xs
all_fail p [] h = λ k d lt. absurd (omega arith)
all_fail {A} p (x ∷ xs) h =
    let parts : (p x ≡ false) × (find p xs ≡ None) =
    elim (p x) as (λ b. cond b (Some x) (find p xs) ≡ None → (b ≡ false) × (find p xs ≡ None)) [ true ↦ λ e. cc | false ↦ λ e. (refl, e) ] h
    in all_cons (λ y. p y ≡ false) x xs parts.0 (all_fail p xs parts.1)

none_passes : {A : Type 0} (p : A → Bool) (xs : List A) → All (λ x. p x ≡ false) xs → find p xs ≡ None
none_passes p [] h = refl
none_passes {A} p (x ∷ xs) h =
    let P : A → Type 0 = λ y. p y ≡ false in
    let here : p x ≡ false = all_head P x xs h in
    rw here (none_passes p xs (all_tail P x xs h))

pub find_none : {A : Type 0} (p : A → Bool) (xs : List A) → (find p xs ≡ None) ↔ All (λ x. p x ≡ false) xs
find_none p xs = (all_fail p xs, none_passes p xs)

-- the first two that meet

all_front : {A : Type 0} (P : A → Type 0) (xs : List A) (y : A) → All P (xs ++ y ∷ []) → All P xs
all_front P [] y h = λ k d lt. absurd (omega arith)
all_front P (x ∷ xs) y h = all_cons P x xs (all_head P x (xs ++ y ∷ []) h) (all_front P xs y (all_tail P x (xs ++ y ∷ []) h))

all_last : {A : Type 0} (P : A → Type 0) (xs : List A) (y : A) → All P (xs ++ y ∷ []) → P y
all_last P [] y h = all_head P y [] h
all_last P (x ∷ xs) y h = all_last P xs y (all_tail P x (xs ++ y ∷ []) h)

all_snoc : {A : Type 0} (P : A → Type 0) (xs : List A) (y : A) → All P xs → P y → All P (xs ++ y ∷ [])
all_snoc P [] y h here = all_cons P y [] here (λ k d lt. absurd (omega arith))
all_snoc P (x ∷ xs) y h here = all_cons P x (xs ++ y ∷ []) (all_head P x xs h) (all_snoc P xs y (all_tail P x xs h) here)

module _ {A : Type 0} (meets : A → A → Bool) where
  abbrev apart : A → A → Type 0
  apart a b = meets a b ≡ false

  abbrev apart_from : List A → A → Type 0
  apart_from before x = All (λ b. apart b x) before

  no_meeting : (before xs : List A) → meeting_after meets before xs ≡ None → AllPairs apart xs × All (apart_from before) xs
  no_meeting before [] h = (λ i j d lt within. absurd (omega arith), λ k d lt. absurd (omega arith))
  no_meeting before (x ∷ xs) h =
      let earlier : Option A = find (λ b. meets b x) before in
      let rest : Option (A × A) = meeting_after meets (before ++ x ∷ []) xs in
      let parts : (option_map (λ b. (b, x)) earlier ≡ None) × (rest ≡ None) = (both_none (option_map (λ (b : A). (b, x)) earlier) rest).0 h in
      let here : apart_from before x = all_fail (λ b. meets b x) before ((mapped_none (λ (b : A). (b, x)) earlier).0 parts.0) in
      let later = no_meeting (before ++ x ∷ []) xs parts.1 in (
        AllPairs-cons apart x xs (λ k d lt. all_last (λ b. apart b (get_or xs k d)) before x (later.1 k d lt)) later.0,
        all_cons (apart_from before) x xs here (λ k d lt. all_front (λ b. apart b (get_or xs k d)) before x (later.1 k d lt)),
      )

  no_two_meet : (before xs : List A) → AllPairs apart xs → All (apart_from before) xs → meeting_after meets before xs ≡ None
  no_two_meet before [] pairs others = refl
  no_two_meet before (x ∷ xs) pairs others =
      let earlier : Option A = find (λ b. meets b x) before in
      let rest : Option (A × A) = meeting_after meets (before ++ x ∷ []) xs in
      (both_none (option_map (λ (b : A). (b, x)) earlier) rest).1 (
        (mapped_none (λ (b : A). (b, x)) earlier).1 (none_passes (λ b. meets b x) before (all_head (apart_from before) x xs others)),
        no_two_meet (before ++ x ∷ []) xs (pairs_tail apart x xs pairs)
            (λ k d lt. all_snoc (λ b. apart b (get_or xs k d)) before x (all_tail (apart_from before) x xs others k d lt) (pairs_head apart x xs pairs k d lt)),
      )

  pub first_meeting_none : (xs : List A) → (first_meeting meets xs ≡ None) ↔ AllPairs (λ a b. meets a b ≡ false) xs
  first_meeting_none xs = (
    λ h. (no_meeting [] xs h).0,
    λ h. no_two_meet [] xs h (λ k d lt i e below. absurd (omega arith)),
  )
