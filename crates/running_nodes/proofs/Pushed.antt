-- A list to which the images of another list's items are pushed one by one.
use Rattle.std.proofs.Common.{◌≡◌, ◌<◌, ◌≤◌, ◌+◌, ℕ, zero, suc, List, [], ◌∷◌, ◌++◌, length, map, get_or, take, sym, ◌∙◌, ap, refl, arith, add-one, append_assoc}
use Rattle.std.proofs.lemmas.List.{take_all}

taken : {A B : Type 0} (f : A → B) (xs : List A) (i : ℕ) (d : A) → i < length xs
    → map f (take (suc i) xs) ≡ map f (take i xs) ++ f (get_or xs i d) ∷ []
taken f [] i d lt = absurd (omega arith)
taken f (x ∷ xs) zero d lt = refl
taken {A} {B} f (x ∷ xs) (suc i) d lt = ap (λ (ys : List B). f x ∷ ys) (taken f xs i d (omega arith))

pub pushed : {A B : Type 0} (f : A → B) (start now now' : List B) (xs : List A) (i : ℕ) (x : A) (y : B)
    → now ≡ start ++ map f (take i xs) → now' ≡ now ++ y ∷ [] → y ≡ f x → x ≡ get_or xs i x → i < length xs
    → now' ≡ start ++ map f (take (i + 1) xs)
pushed {A} {B} f start now now' xs i x y before push is at lt =
    rw add-one (push
    ∙ (ap (λ (ys : List B). ys ++ y ∷ []) before
    ∙ (append_assoc start (map f (take i xs)) (y ∷ [])
    ∙ ap (λ (ys : List B). start ++ ys) (ap (λ (z : B). map f (take i xs) ++ z ∷ []) (is ∙ ap f at) ∙ sym (taken f xs i x lt)))))

pub all_pushed : {A B : Type 0} (f : A → B) (start now : List B) (xs : List A) (i : ℕ)
    → now ≡ start ++ map f (take i xs) → length xs ≤ i → now ≡ start ++ map f xs
all_pushed {A} {B} f start now xs i before all = before ∙ ap (λ (ys : List A). start ++ map f ys) (take_all i xs all)
