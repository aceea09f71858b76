-- Places of a list, and the first of its items.
use Rattle.std.proofs.Common.{◌≡◌, ℕ, zero, suc, ◌+◌, ◌<◌, Bool, true, false, List, [], ◌∷◌, Option, Some, None, map, find, length, get_or, set, drop, refl, sym, ap, ◌∙◌, ◌++◌, length-append, add-one, arith}
use Rattle.std.specs.List.{slice_get}
use Rattle.ov_types.specs.First.{first_of}

pub mapped_at : {A B : Type 0} (f : A → B) (xs : List A) (k : ℕ) (x : A) → k < length xs → x ≡ get_or xs k x → slice_get (map f xs) k ≡ Some (f x)
mapped_at f [] k x lt is = absurd (omega arith)
mapped_at {A} {B} f (y ∷ xs) zero x lt is = ap (λ (z : A). Some (f z)) (sym is)
mapped_at f (y ∷ xs) (suc k) x lt is = mapped_at f xs k x (omega arith) is

pub drop_at : {A : Type 0} (xs : List A) (k : ℕ) (x : A) → slice_get xs k ≡ Some x → drop k xs ≡ x ∷ drop (suc k) xs
drop_at [] k x h = cc
drop_at {A} (y ∷ xs) zero x h = let same : y ≡ x = cc in ap (λ (z : A). z ∷ xs) same
drop_at (y ∷ xs) (suc k) x h = drop_at xs k x h

pub found_here : {A : Type 0} (p : A → Bool) (xs : List A) (k : ℕ) (x : A) → slice_get xs k ≡ Some x → p x ≡ true → find p (drop k xs) ≡ Some x
found_here p xs k x at passes = rw (drop_at xs k x at, passes) refl

pub found_later : {A : Type 0} (p : A → Bool) (xs : List A) (k : ℕ) (x : A) → slice_get xs k ≡ Some x → p x ≡ false → find p (drop k xs) ≡ find p (drop (k + 1) xs)
found_later p xs k x at fails = rw (add-one, drop_at xs k x at, fails) refl

pub first_here : {A B : Type 0} (f : A → Option B) (xs : List A) (k : ℕ) (x : A) (y : B) → slice_get xs k ≡ Some x → f x ≡ Some y → first_of f (drop k xs) ≡ Some y
first_here f xs k x y at gives = rw (drop_at xs k x at, gives) refl

pub first_later : {A B : Type 0} (f : A → Option B) (xs : List A) (k : ℕ) (x : A) → slice_get xs k ≡ Some x → f x ≡ None → first_of f (drop k xs) ≡ first_of f (drop (k + 1) xs)
first_later f xs k x at silent = rw (add-one, drop_at xs k x at, silent) refl

pub some_at : {A : Type 0} (xs : List A) (k : ℕ) → k < length xs → (x : A) × (slice_get xs k ≡ Some x)
some_at [] k lt = absurd (omega arith)
some_at (x ∷ xs) zero lt = (x, refl)
some_at (x ∷ xs) (suc k) lt = some_at xs k (omega arith)

-- an item in whose place one stands that maps alike
pub map_set : {A B : Type 0} (f : A → B) (xs : List A) (k : ℕ) (v d : A) → f v ≡ f (get_or xs k d) → map f (set xs k v) ≡ map f xs
map_set f [] k v d same = refl
map_set {A} {B} f (y ∷ xs) zero v d same = ap (λ (b : B). b ∷ map f xs) same
map_set {A} {B} f (y ∷ xs) (suc k) v d same = ap (λ (bs : List B). f y ∷ bs) (map_set f xs k v d same)

pub some_mapped : {A B : Type 0} (f : A → B) (xs : List A) (k : ℕ) → k < length xs → (y : B) × (slice_get (map f xs) k ≡ Some y)
some_mapped f [] k lt = absurd (omega arith)
some_mapped f (x ∷ xs) zero lt = (f x, refl)
some_mapped f (x ∷ xs) (suc k) lt = some_mapped f xs k (omega arith)

-- a list with one item more, and one less to come
pub one_more : {A : Type 0} (xs ys : List A) (y : A) (left m total : ℕ) → ys ≡ xs ++ y ∷ [] → left ≡ suc m → length xs + left ≡ total → length ys + m ≡ total
one_more xs ys y left m total e less sum =
    let long : length ys ≡ length xs + 1 = ap length e ∙ length-append xs (y ∷ []) in
    omega arith
