-- Octets that are a message are read as it.
use Rattle.std.proofs.Common.{◌≡◌, Option, Some, None, Result, Ok, Err}
use Rattle.std.specs.Prelude.{IsOkAnd, IsSomeAnd}

pub never_err : {A E : Type 0} (P : A → Type 0) (r : Result A E) (e : E) → IsOkAnd r P → r ≡ Err e → ⊥
never_err P (Ok x) e h is = absurd cc
never_err P (Err f) e h is = h

pub never_none : {A E : Type 0} (P : A → Type 0) (r : Result (Option A) E) (found : Option A) → IsOkAnd r (λ o. IsSomeAnd o P) → r ≡ Ok found
    → found ≡ None → ⊥
never_none P (Ok (Some x)) (Some y) h is none = absurd cc
never_none P (Ok (Some x)) None h is none = absurd cc
never_none P (Ok None) found h is none = h
never_none P (Err f) found h is none = absurd cc
