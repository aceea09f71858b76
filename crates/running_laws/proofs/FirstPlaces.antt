-- The first place at which a list has something, and lists in which each name stands once.
use Rattle.std.specs.List.{AllByRecursion, AllZip, filter}
use Rattle.std.specs.Prelude.{Bool, List, cond, drop, false, length, map, slice_index_or, suc, true, zero, ℕ, [], ◌++◌, ◌+◌, ◌<◌, ◌∷◌, ◌≡◌}
use Rattle.std.specs.declared.option.Option.TheVariants.{None, Some}
use Rattle.std.proofs.Common.{ap, arith, inl, inr, refl, subst, sym, ◌∙◌}
use Rattle.std.proofs.lemmas.Bool.{true≢false}
use Rattle.std.proofs.lemmas.Option.{same_Some}
use Rattle.ov_types.specs.First.{same_name}
use Rattle.node_model.specs.Members.{Member}
use Rattle.node_model.proofs.Members.{from_filter, from_map, in_map, none_some}
use Rattle.machine_laws.specs.MachineModel.Setup.{Name}
use Rattle.machine_laws.proofs.MachineModel.Twins.{itself}
use Rattle.machine_laws.proofs.MachineModel.Apart.{Apart, same_false}
use Rattle.running_nodes.specs.Seats.{index_from}

pub some_none : {A : Type 0} (x : A) → Some x ≡ None → ⊥
some_none x e = cc

-- ---- heads and tails
pub first_is : {A : Type 0} (x y : A) (xs ys : List A) → (x ∷ xs) ≡ (y ∷ ys) → x ≡ y
first_is x y xs ys e = ap (λ zs. slice_index_or zs zero x) e

pub rest_is : {A : Type 0} (x y : A) (xs ys : List A) → (x ∷ xs) ≡ (y ∷ ys) → xs ≡ ys
rest_is x y xs ys e = ap (λ zs. drop (suc zero) zs) e

pub some_nothing : {A : Type 0} (x : A) (xs : List A) → (x ∷ xs) ≡ [] → ⊥
some_nothing x xs e = cc

-- ---- members by their places
pub member_of_at : {A : Type 0} (xs : List A) (k : ℕ) (d : A) → k < length xs → Member (slice_index_or xs k d) xs
member_of_at [] k d h = absurd (omega (arith, h))
member_of_at (a ∷ xs) zero d h = inl refl
member_of_at (a ∷ xs) (suc k) d h = inr (member_of_at xs k d (omega (arith, h)))

pub at_of_member : {A : Type 0} (a : A) (xs : List A) (d : A) → Member a xs → (k : ℕ) × (k < length xs) × (slice_index_or xs k d ≡ a)
at_of_member a [] d m = absurd m
at_of_member a (b ∷ xs) d (inl e) = (0, omega arith, e)
at_of_member a (b ∷ xs) d (inr m) = let q = at_of_member a xs d m in (suc q.0, omega (arith, q.1), q.2)

-- what a map has at a place, also behind the end
pub at_map : {A B : Type 0} (f : A → B) (xs : List A) (i : ℕ) (d : A) → slice_index_or (map f xs) i (f d) ≡ f (slice_index_or xs i d)
at_map f [] i d = refl
at_map f (x ∷ xs) zero d = refl
at_map f (x ∷ xs) (suc i) d = at_map f xs i d

-- behind the end of a list
pub shifted : {A : Type 0} (xs ys : List A) (n j : ℕ) (d : A) → length xs ≡ n → slice_index_or (xs ++ ys) (n + j) d ≡ slice_index_or ys j d
shifted [] ys n j d l = let e : n + j ≡ j = omega (arith, l) in ap (λ k. slice_index_or ys k d) e
shifted (x ∷ xs) ys n j d l =
    let e : n + j ≡ suc (length xs + j) = omega (arith, l) in
    ap (λ k. slice_index_or (x ∷ (xs ++ ys)) k d) e ∙ shifted xs ys (length xs) j d refl

pub all_of : {A : Type 0} (P : A → Type 0) (xs : List A) → ((a : A) → Member a xs → P a) → AllByRecursion P xs
all_of P [] h = tt
all_of P (a ∷ xs) h = (h a (inl refl), all_of P xs (λ b m. h b (inr m)))

pub from_all : {A : Type 0} (P : A → Type 0) (xs : List A) → AllByRecursion P xs → (a : A) → Member a xs → P a
from_all P [] h a m = absurd m
from_all P (b ∷ xs) h a (inl e) = subst P e h.0
from_all P (b ∷ xs) h a (inr m) = from_all P xs h.1 a m

pub zip_from : {A B : Type 0} (R : A → B → Type 0) (xs : List A) (ys : List B) (d : A) (e : B) → length xs ≡ length ys → ((i : ℕ) → i < length ys → R (slice_index_or xs i d) (slice_index_or ys i e)) → AllZip R xs ys
zip_from R [] [] d e l h = tt
zip_from R [] (b ∷ ys) d e l h = absurd (omega (arith, l))
zip_from R (a ∷ xs) [] d e l h = absurd (omega (arith, l))
zip_from R (a ∷ xs) (b ∷ ys) d e l h = (h 0 (omega arith), zip_from R xs ys d e (omega (arith, l)) (λ i less. h (suc i) (omega (arith, less))))

pub mapped_length : {A B : Type 0} (f : A → B) (xs : List A) (ys : List B) → map f xs ≡ ys → length xs ≡ length ys
mapped_length {A = A} f xs ys e = sym (long xs) ∙ ap length e
  where
    long : (xs : List A) → length (map f xs) ≡ length xs
    long [] = refl
    long (x ∷ xs) = ap suc (long xs)

pub map_twice : {A B C : Type 0} (g : B → C) (f : A → B) (xs : List A) → map g (map f xs) ≡ map (λ a. g (f a)) xs
map_twice g f [] = refl
map_twice g f (a ∷ xs) = ap (λ cs. g (f a) ∷ cs) (map_twice g f xs)

-- ---- first places
pub index_of_map : {A B : Type 0} (f : A → B) (p : B → Bool) (i : ℕ) (xs : List A) → index_from i p (map f xs) ≡ index_from i (λ a. p (f a)) xs
index_of_map f p i [] = refl
index_of_map f p i (a ∷ xs) = ap (λ o. cond (p (f a)) (Some i) o) (index_of_map f p (suc i) xs)

module _ {A : Type 0} (p : A → Bool) where
  -- what is found is there
  pub index_found : (i : ℕ) (xs : List A) (k : ℕ) (d : A) → index_from i p xs ≡ Some k → (j : ℕ) × (k ≡ i + j) × (j < length xs) × (p (slice_index_or xs j d) ≡ true)
  index_found i [] k d e = absurd (none_some k e)
  index_found i (a ∷ xs) k d e =
      elim (p a) as (λ b. p a ≡ b → cond b (Some i) (index_from (suc i) p xs) ≡ Some k → (j : ℕ) × (k ≡ i + j) × (j < suc (length xs)) × (p (slice_index_or (a ∷ xs) j d) ≡ true)) [
        | true ↦ λ is e. let same : i ≡ k = same_Some i k e in (0, omega (arith, same), omega arith, is)
        | false ↦ λ _ e. let q = index_found (suc i) xs k d e in (suc q.0, omega (arith, q.1), omega (arith, q.2), q.3)
      ] refl e

  -- where none is found there is none
  pub index_none : (i : ℕ) (xs : List A) → index_from i p xs ≡ None → (a : A) → Member a xs → p a ≡ true → ⊥
  index_none i [] e a m is = m
  index_none i (b ∷ xs) e a m is =
      elim (p b) as (λ c. p b ≡ c → cond c (Some i) (index_from (suc i) p xs) ≡ None → ⊥) [
        | true ↦ λ _ e. some_none i e
        | false ↦ λ off e. elim m as (λ _. ⊥) [ inl same ↦ true≢false (sym is ∙ ap p (sym same) ∙ off) | inr m ↦ index_none (suc i) xs e a m is ]
      ] refl e

-- ---- names that are apart
-- each is found at its own place
pub index_apart : (i : ℕ) (ns : List Name) (k : ℕ) (d : Name) → Apart ns → k < length ns → index_from i (λ m. same_name m (slice_index_or ns k d)) ns ≡ Some (i + k)
index_apart i [] k d a h = absurd (omega (arith, h))
index_apart i (n ∷ ns) zero d a h = let e : i ≡ i + 0 = omega arith in ap (λ b. cond b (Some i) (index_from (suc i) (λ m. same_name m n) ns)) (itself n) ∙ ap (λ k. Some k) e
index_apart i (n ∷ ns) (suc k) d a h =
    let x = slice_index_or ns k d in
    let e : suc i + k ≡ i + suc k = omega arith in
    ap (λ b. cond b (Some i) (index_from (suc i) (λ m. same_name m x) ns)) (same_false n x (a.0 x (member_of_at ns k d (omega (arith, h)))))
    ∙ index_apart (suc i) ns k d a.1 (omega (arith, h)) ∙ ap (λ k. Some k) e

pub index_here : (ns : List Name) (k : ℕ) (d : Name) → Apart ns → k < length ns → index_from 0 (λ m. same_name m (slice_index_or ns k d)) ns ≡ Some k
index_here ns k d a h = let e : 0 + k ≡ k = omega arith in index_apart 0 ns k d a h ∙ ap (λ k. Some k) e

pub apart_kept : {A : Type 0} (name : A → Name) (p : A → Bool) (xs : List A) → Apart (map name xs) → Apart (map name (filter p xs))
apart_kept name p [] a = tt
apart_kept name p (x ∷ xs) a = elim (p x) as (λ b. Apart (map name (cond b (x ∷ filter p xs) (filter p xs)))) [
  | true ↦ ((λ n m e. let q = from_map name n (filter p xs) m in a.0 n (subst (λ n. Member n (map name xs)) q.2 (in_map name q.0 xs (from_filter p q.0 xs q.1).0)) e), apart_kept name p xs a.1)
  | false ↦ apart_kept name p xs a.1
]
