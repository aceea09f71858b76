-- The services so far and those that are left.
use Rattle.std.specs.Prelude.{List, Some, length, map, reverse, slice_get, suc, zero, ℕ, [], ◌+◌, ◌++◌, ◌∷◌, ◌≡◌}
use Rattle.std.proofs.Common.{ap, append_assoc, arith, length-append, refl, sym, ◌∙◌}
use Rattle.std.proofs.lemmas.List.{append-nil, length-reverse, reverse-append, reverse-reverse}
use Rattle.std.proofs.lemmas.Option.{same_Some}

get_middle : {A : Type 0} (front : List A) (x : A) (rest : List A) → slice_get (front ++ x ∷ rest) (length front) ≡ Some x
get_middle [] x rest = refl
get_middle (y ∷ front) x rest = get_middle front x rest

no_more : {A : Type 0} (xs : List A) → length xs ≡ 0 → xs ≡ []
no_more [] e = refl
no_more (x ∷ xs) e = absurd (omega (arith, e))

-- ---- forwards
-- the services that are left after those so far, at the place behind these
pub record IsLeft {A : Type 0} (all : List A) (ss : List A) (j : ℕ) : Type 0 where
  pub rest : List A
  pub whole : ss ++ rest ≡ all
  pub place : length ss ≡ j

-- where one stands at the place, it is the next
pub next_left : {A : Type 0} (all ss : List A) (j : ℕ) (s : A) → IsLeft all ss j → slice_get all j ≡ Some s → IsLeft all (ss ++ s ∷ []) (j + 1)
next_left {A} all ss j s h e = by_rest h.rest h.whole
  where
    by_rest : (rest : List A) → ss ++ rest ≡ all → IsLeft all (ss ++ s ∷ []) (j + 1)
    by_rest [] w = absurd (beyond all j s (ap length (sym w ∙ append-nil ss) ∙ h.place) e)
      where
        beyond : (xs : List A) (j : ℕ) (s : A) → length xs ≡ j → slice_get xs j ≡ Some s → ⊥
        beyond [] zero s l g = cc
        beyond [] (suc j) s l g = absurd (omega (arith, l))
        beyond (x ∷ xs) zero s l g = absurd (omega (arith, l))
        beyond (x ∷ xs) (suc j) s l g = beyond xs j s (omega (arith, l)) g
    by_rest (x ∷ rest) w =
        let there : slice_get all j ≡ Some x = ap (λ (n : ℕ). slice_get all n) (sym h.place) ∙ ap (λ (xs : List A). slice_get xs (length ss)) (sym w) ∙ get_middle ss x rest in
        let same : x ≡ s = same_Some x s (sym there ∙ e) in
        record {
          rest = rest;
          whole = append_assoc ss (s ∷ []) rest ∙ ap (λ (y : A). ss ++ y ∷ rest) (sym same) ∙ w;
          place = length-append ss (s ∷ []) ∙ ap (λ (n : ℕ). n + 1) h.place;
        }

-- behind all of them nothing is left
pub all_left : {A : Type 0} (all ss : List A) (j : ℕ) → IsLeft all ss j → j ≡ length all → ss ≡ all
all_left all ss j h e =
    sym (append-nil ss) ∙ ap (λ (xs : List _). ss ++ xs) (sym (no_more h.rest (nothing (length ss) (length h.rest) (length all) (sym (length-append ss h.rest) ∙ ap length h.whole) (h.place ∙ e)))) ∙ h.whole
  where
    nothing : (a b n : ℕ) → a + b ≡ n → a ≡ n → b ≡ 0
    nothing a b n x y = omega (arith, x, y)

-- ---- mirrored
-- the services that are left, where they are visited in the reverse order, at the place before these
pub record IsBack {A : Type 0} (all : List A) (ss : List A) (j : ℕ) : Type 0 where
  pub rest : List A
  pub whole : ss ++ rest ≡ reverse all
  pub place : length rest ≡ j

pub next_back : {A : Type 0} (all ss : List A) (j : ℕ) (s : A) → IsBack all ss (j + 1) → slice_get all j ≡ Some s → IsBack all (ss ++ s ∷ []) j
next_back {A} all ss j s h e = by_rest h.rest h.whole h.place
  where
    by_rest : (rest : List A) → ss ++ rest ≡ reverse all → length rest ≡ j + 1 → IsBack all (ss ++ s ∷ []) j
    by_rest [] w l = absurd (omega (arith, l))
    by_rest (x ∷ rest) w l =
        let few : length rest ≡ j = omega (arith, l) in
        let turned : all ≡ reverse rest ++ x ∷ reverse ss =
        sym (reverse-reverse all) ∙ ap reverse (sym w) ∙ reverse-append ss (x ∷ rest)
        ∙ ap (λ (xs : List A). xs ++ reverse ss) (reverse-append (x ∷ []) rest)
        ∙ append_assoc (reverse rest) (x ∷ []) (reverse ss) in
        let there : slice_get all j ≡ Some x =
        ap (λ (n : ℕ). slice_get all n) (sym (length-reverse rest ∙ few)) ∙ ap (λ (xs : List A). slice_get xs (length (reverse rest))) turned ∙ get_middle (reverse rest) x (reverse ss) in
        let same : x ≡ s = same_Some x s (sym there ∙ e) in
        record {
          rest = rest;
          whole = append_assoc ss (s ∷ []) rest ∙ ap (λ (y : A). ss ++ y ∷ rest) (sym same) ∙ w;
          place = few;
        }

pub all_back : {A : Type 0} (all ss : List A) → IsBack all ss 0 → ss ≡ reverse all
all_back all ss h = sym (append-nil ss) ∙ ap (λ (xs : List _). ss ++ xs) (sym (no_more h.rest h.place)) ∙ h.whole

-- ---- at a place of a list that is mapped
pub mapped_at : {A B : Type 0} (f : A → B) (xs : List A) (j : ℕ) (x : A) → slice_get xs j ≡ Some x → slice_get (map f xs) j ≡ Some (f x)
mapped_at f [] zero x e = cc
mapped_at f [] (suc j) x e = cc
mapped_at f (y ∷ xs) zero x e = ap (λ z. Some (f z)) (same_Some y x e)
mapped_at f (y ∷ xs) (suc j) x e = mapped_at f xs j x e

pub mapped_length : {A B : Type 0} (f : A → B) (xs : List A) → length (map f xs) ≡ length xs
mapped_length f [] = refl
mapped_length f (x ∷ xs) = ap suc (mapped_length f xs)
