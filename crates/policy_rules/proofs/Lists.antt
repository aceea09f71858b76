-- What stands in lists that are made of others.
use Rattle.std.proofs.Common.{◌≡◌, inl, inr, Bool, true, false, cond, List, [], ◌∷◌, map, flat_map, filter, sym, ap, ◌∙◌, subst, arith}
use Rattle.std.specs.List.{Contains}
use Rattle.std.proofs.lemmas.List.Elements.{All-contains, All-filter, filter_passes, All-contains_itself, Contains-append_left, Contains-append_right, Contains-append_cases}
use Rattle.ov_types.proofs.FirstLemmas.{contains_here, contains_later, contains_cases}

-- those that pass a test
pub kept_is : {A : Type 0} (g : A → Bool) (xs : List A) (x : A) → Contains (filter g xs) x → Contains xs x × (g x ≡ true)
kept_is g xs x h = (
  All-contains (Contains xs) (filter g xs) x (All-filter g (Contains xs) xs (All-contains_itself xs)) h,
  All-contains (λ y. g y ≡ true) (filter g xs) x (filter_passes g xs) h,
)

pub is_kept : {A : Type 0} (g : A → Bool) (xs : List A) (x : A) → Contains xs x → g x ≡ true → Contains (filter g xs) x
is_kept g [] x h passes = h
is_kept {A} g (y ∷ ys) x h passes =
    elim (contains_cases y ys x h) [
      | inl same ↦
          let here : g y ≡ true = ap g same ∙ passes in
          rw here (subst (Contains (y ∷ filter g ys)) same (contains_here y (filter g ys)))
      | inr later ↦
          let rest : Contains (filter g ys) x = is_kept g ys x later passes in
          elim (g y) as (λ b. Contains (cond b (y ∷ filter g ys) (filter g ys)) x) [ true ↦ contains_later x y (filter g ys) rest | false ↦ rest ]
    ]

-- those that the items of a list become
pub mapped_is : {A B : Type 0} (f : A → B) (xs : List A) (y : B) → Contains (map f xs) y → (x : A) × Contains xs x × (f x ≡ y)
mapped_is f [] y h = absurd (omega (arith, h.1))
mapped_is f (x ∷ xs) y h =
    elim (contains_cases (f x) (map f xs) y h) [
      | inl same ↦ (x, contains_here x xs, same)
      | inr later ↦ let q = mapped_is f xs y later in (q.0, contains_later q.0 x xs q.1, q.2)
    ]

pub is_mapped : {A B : Type 0} (f : A → B) (xs : List A) (x : A) → Contains xs x → Contains (map f xs) (f x)
is_mapped f [] x h = absurd (omega (arith, h.1))
is_mapped f (y ∷ ys) x h =
    elim (contains_cases y ys x h) [
      | inl same ↦ subst (λ z. Contains (f y ∷ map f ys) (f z)) same (contains_here (f y) (map f ys))
      | inr later ↦ contains_later (f x) (f y) (map f ys) (is_mapped f ys x later)
    ]

-- those of the lists that the items of a list give
pub joined_is : {A B : Type 0} (f : B → List A) (bs : List B) (x : A) → Contains (flat_map f bs) x → (b : B) × Contains bs b × Contains (f b) x
joined_is f [] x h = absurd (omega (arith, h.1))
joined_is f (b ∷ bs) x h =
    elim (Contains-append_cases (f b) (flat_map f bs) x h) [
      | inl here ↦ (b, contains_here b bs, here)
      | inr later ↦ let q = joined_is f bs x later in (q.0, contains_later q.0 b bs q.1, q.2)
    ]

pub is_joined : {A B : Type 0} (f : B → List A) (bs : List B) (b : B) (x : A) → Contains bs b → Contains (f b) x → Contains (flat_map f bs) x
is_joined f [] b x inside h = absurd (omega (arith, inside.1))
is_joined f (y ∷ ys) b x inside h =
    elim (contains_cases y ys b inside) [
      | inl same ↦ Contains-append_left (f y) (flat_map f ys) x (subst (λ z. Contains (f z) x) (sym same) h)
      | inr later ↦ Contains-append_right (f y) (flat_map f ys) x (is_joined f ys b x later h)
    ]
