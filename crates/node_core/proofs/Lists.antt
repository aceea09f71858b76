-- What holds of each of a list, where one of them changes or some are written anew.
use Rattle.std.specs.Prelude.{◌≡◌, ◌<◌, ℕ, zero, suc, List, [], ◌∷◌, ◌++◌, length}
use Rattle.std.specs.List.{AllByRecursion, slice_index_or}
use Rattle.std.proofs.Common.{set, take, drop, arith}
use Rattle.std.proofs.lemmas.List.{take_at}

pub all-at : {X : Type 0} (P : X → Type 0) (xs : List X) (i : ℕ) (d : X) → AllByRecursion P xs → i < length xs
    → P (slice_index_or xs i d)
all-at P [] i d all h = absurd (omega (arith, h))
all-at P (x ∷ xs) zero d all h = all.0
all-at P (x ∷ xs) (suc i) d all h = all-at P xs i d all.1 (omega (arith, h))

pub all-set : {X : Type 0} (P : X → Type 0) (xs : List X) (i : ℕ) (x : X) → AllByRecursion P xs → P x
    → AllByRecursion P (set xs i x)
all-set P [] i x all h = all
all-set P (y ∷ xs) zero x all h = (h, all.1)
all-set P (y ∷ xs) (suc i) x all h = (all.0, all-set P xs i x all.1 h)

-- a vector that was lent as a slice, and written
pub written : {X : Type 0} (n : ℕ) (new old : List X) → length new ≡ n → take n (new ++ drop (length new) old) ≡ new
written n new old e = take_at new (drop (length new) old) n e
