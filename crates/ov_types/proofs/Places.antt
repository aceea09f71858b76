-- A target in its place keeps the order.
use Rattle.std.proofs.Common.{ℕ, ◌<◌, List, [], ◌∷◌, inl, inr, arith}
use Rattle.std.proofs.lemmas.Bool.{cases_order, lt-ltb, le-ltb, eq-eqb, ne_eqb}
use Rattle.ov_types.specs.declared.targets.Target.{Target}
use Rattle.ov_types.specs.Targets.{with_target, AscendFrom, IsAscending}

AscendFrom-with : (t : Target) (n : ℕ) (xs : List Target) → n < t.0 → AscendFrom n xs → AscendFrom n (with_target t xs)
AscendFrom-with t n [] lt h = (lt, tt)
AscendFrom-with t n (x ∷ xs) lt h =
    elim (cases_order t.0 x.0) [
      | inl e ↦ rw (le-ltb t.0 x.0 (omega arith), eq-eqb t.0 x.0 e) h
      | inr (inl below) ↦ rw (lt-ltb t.0 x.0 below) (lt, (below, h.1))
      | inr (inr above) ↦ rw (le-ltb t.0 x.0 (omega arith), ne_eqb t.0 x.0 (λ e. absurd (omega arith))) (h.0, AscendFrom-with t x.0 xs above h.1)
    ]

pub IsAscending-with : (t : Target) (xs : List Target) → IsAscending xs → IsAscending (with_target t xs)
IsAscending-with t [] h = tt
IsAscending-with t (x ∷ xs) h =
    elim (cases_order t.0 x.0) [
      | inl e ↦ rw (le-ltb t.0 x.0 (omega arith), eq-eqb t.0 x.0 e) h
      | inr (inl below) ↦ rw (lt-ltb t.0 x.0 below) (below, h)
      | inr (inr above) ↦ rw (le-ltb t.0 x.0 (omega arith), ne_eqb t.0 x.0 (λ e. absurd (omega arith))) (AscendFrom-with t x.0 xs above h)
    ]
