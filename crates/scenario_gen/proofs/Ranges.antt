-- Lists by number: what is in them, and how they are joined.
use Rattle.std.proofs.Common.{◌≡◌, ℕ, ◌<◌, ◌+◌, ◌*◌, ◌++◌, List, [], ◌∷◌, map, zero, suc, refl, ap, sym, subst, ◌∙◌, arith}
use Rattle.std.specs.List.{range_with_len, flat_map, All, Contains}
use Rattle.std.proofs.lemmas.List.Elements.{All-nil, All-cons, All-map, All-append, Contains-get_or, Contains-append_left, Contains-append_right}
use Rattle.std.proofs.lemmas.List.FromFn.{length-map-range_with_len, get_or-map-range_with_len}
use Rattle.std.proofs.lemmas.List.{map-append}

pub in_range : (P : ℕ → Type 0) (a n : ℕ) → ((k : ℕ) → k < a + n → P k) → All P (range_with_len a n)
in_range P a zero each = All-nil P
in_range P a (suc n) each =
    All-cons P a (range_with_len (a + 1) n) (each a (omega arith)) (in_range P (a + 1) n (λ k small. each k (omega (arith, small))))

pub of_numbered : {X : Type 0} (P : X → Type 0) (f : ℕ → X) (a n : ℕ) → ((k : ℕ) → k < a + n → P (f k)) → All P (map f (range_with_len a n))
of_numbered P f a n each = All-map P f (range_with_len a n) (in_range (λ k. P (f k)) a n each)

pub of_appended : {X : Type 0} (P : X → Type 0) (f : ℕ → List X) (a n : ℕ) → ((k : ℕ) → k < a + n → All P (f k)) → All P (flat_map f (range_with_len a n))
of_appended P f a zero each = All-nil P
of_appended P f a (suc n) each =
    All-append P (f a) (flat_map f (range_with_len (a + 1) n)) (each a (omega arith)) (of_appended P f (a + 1) n (λ k small. each k (omega (arith, small))))

pub has_numbered : {X : Type 0} (f : ℕ → X) (a n i k : ℕ) → a + i ≡ k → i < n → Contains (map f (range_with_len a n)) (f k)
has_numbered f a n i k e h =
    subst (λ x. Contains (map f (range_with_len a n)) x) (get_or-map-range_with_len f a n i k (f a) h e)
    (Contains-get_or (map f (range_with_len a n)) i (f a) (rw (length-map-range_with_len f a n) h))

pub has_appended : {X : Type 0} (f : ℕ → List X) (x : X) (a n i k : ℕ) → a + i ≡ k → i < n → Contains (f k) x → Contains (flat_map f (range_with_len a n)) x
has_appended f x a zero i k e h there = absurd (omega (arith, h))
has_appended f x a (suc n) zero k e h there = Contains-append_left (f a) (flat_map f (range_with_len (a + 1) n)) x (subst (λ j. Contains (f j) x) (omega (arith, e)) there)
has_appended f x a (suc n) (suc i) k e h there =
    Contains-append_right (f a) (flat_map f (range_with_len (a + 1) n)) x (has_appended f x (a + 1) n i k (omega (arith, e)) (omega (arith, h)) there)

pub map-map : {X Y Z : Type 0} (g : Y → Z) (f : X → Y) (xs : List X) → map g (map f xs) ≡ map (λ x. g (f x)) xs
map-map g f [] = refl
map-map g f (x ∷ xs) = ap (λ zs. g (f x) ∷ zs) (map-map g f xs)

range_append : (a m n : ℕ) → range_with_len a (m + n) ≡ range_with_len a m ++ range_with_len (a + m) n
range_append a zero n =
    let none : 0 + n ≡ n = omega arith in
    let same : a + 0 ≡ a = omega arith in
    rw (none, same) refl
range_append a (suc m) n =
    let more : suc m + n ≡ suc (m + n) = omega arith in
    let start : a + suc m ≡ a + 1 + m = omega arith in
    rw (more, start) (ap (λ ks. a ∷ ks) (range_append (a + 1) m n))

-- so many numbers of each of n, one after the other
pub numbers_joined : {X : Type 0} (g : X → ℕ) (f : ℕ → List X) (size first : ℕ) → ((t : ℕ) → map g (f t) ≡ range_with_len (size * t + first) size)
    → (a n : ℕ) → map g (flat_map f (range_with_len a n)) ≡ range_with_len (size * a + first) (size * n)
numbers_joined g f size first each a zero = let e : size * 0 ≡ 0 = omega arith in rw e refl
numbers_joined g f size first each a (suc n) =
    map-append g (f a) (flat_map f (range_with_len (a + 1) n))
    ∙ ap (λ ks. ks ++ map g (flat_map f (range_with_len (a + 1) n))) (each a)
    ∙ ap (λ ks. range_with_len (size * a + first) size ++ ks) (numbers_joined g f size first each (a + 1) n ∙ ap (λ k. range_with_len k (size * n)) (more size a first))
    ∙ sym (range_append (size * a + first) size (size * n))
    ∙ ap (λ k. range_with_len (size * a + first) k) (longer size n)
  where
    more : (size a first : ℕ) → size * (a + 1) + first ≡ size * a + first + size
    more size a first = grind arith

    longer : (size n : ℕ) → size + size * n ≡ size * suc n
    longer size n = grind arith
