-- Breaks stay distinct.
use Rattle.std.proofs.Common.{◌≡◌, ℕ, ◌+◌, ◌-◌, ◌<◌, ◌≤◌, List, [], ◌∷◌, ◌++◌, Bool, true, false, ◌||◌, refl, sym, ap, ◌∙◌, subst, arith}
use Rattle.std.specs.Prelude.{IsTrue, not, nat_le, ◌==◌, if◌then◌else◌}
use Rattle.ov_link.specs.Breaks.{is_break, counted, with_break, IsDistinct}

or_last : (a b c d : Bool) → b ≡ (c || d) → (a || b) ≡ ((a || c) || d)
or_last true b c d e = refl
or_last false b c d e = e

is_break-append : (ms : List ℕ) (m n : ℕ) → is_break (ms ++ m ∷ []) n ≡ (is_break ms n || m == n)
is_break-append [] m n = elim (m == n) as (λ b. (b || false) ≡ b) [ true ↦ refl | false ↦ refl ]
is_break-append (l ∷ ms) m n = or_last (l == n) (is_break (ms ++ m ∷ []) n) (is_break ms n) (m == n) (is_break-append ms m n)

same_turned : (m n : ℕ) → (m == n) ≡ (n == m)
same_turned m n = grind (arith)

first_of_or : (a b : Bool) → (a || b) ≡ false → a ≡ false
first_of_or true b e = e
first_of_or false b e = refl

second_of_or : (a b : Bool) → (a || b) ≡ false → b ≡ false
second_of_or true b e = cc
second_of_or false b e = e

neither : (a b c : Bool) → IsTrue (not a) → b ≡ false → c ≡ (a || b) → IsTrue (not c)
neither a b c h e is = ap not (is ∙ ap (λ x. a || x) e) ∙ (elim a as (λ x. IsTrue (not x) → not (x || false) ≡ true) [ true ↦ λ p. p | false ↦ λ p. p ] h)

pub distinct_push : (ms : List ℕ) (n : ℕ) → IsDistinct ms → is_break ms n ≡ false → IsDistinct (ms ++ n ∷ [])
distinct_push [] n h e = (refl, tt)
distinct_push (m ∷ ms) n h e = (
  neither (is_break ms m) (n == m) (is_break (ms ++ n ∷ []) m) h.0 (same_turned n m ∙ first_of_or (m == n) (is_break ms n) e) (is_break-append ms n m),
  distinct_push ms n h.1 (second_of_or (m == n) (is_break ms n) e),
)

apart : (m n : ℕ) → nat_le m 1 ≡ true → 1 < n → (m == n) ≡ false
apart m n e h = grind (arith)

one_less : (m n : ℕ) → nat_le m 1 ≡ false → 1 < n → (m - 1 == n - 1) ≡ (m == n)
one_less m n e h = grind (arith)

-- a break that is left stood one send later
is_break-counted : (ms : List ℕ) (n : ℕ) → 1 < n → is_break (counted ms) (n - 1) ≡ is_break ms n
is_break-counted [] n h = refl
is_break-counted (m ∷ ms) n h =
    elim (nat_le m 1) as (λ b. nat_le m 1 ≡ b → is_break (if b then counted ms else (m - 1) ∷ counted ms) (n - 1) ≡ (m == n || is_break ms n)) [
      | true ↦ λ e. is_break-counted ms n h ∙ ap (λ b. b || is_break ms n) (sym (apart m n e h))
      | false ↦ λ e. λ i. one_less m n e h i || is_break-counted ms n h i
    ] refl

above_one : (m : ℕ) → nat_le m 1 ≡ false → 1 < m
above_one m e = grind (arith)

pub distinct_counted : (ms : List ℕ) → IsDistinct ms → IsDistinct (counted ms)
distinct_counted [] h = tt
distinct_counted (m ∷ ms) h =
    elim (nat_le m 1) as (λ b. nat_le m 1 ≡ b → IsDistinct (if b then counted ms else (m - 1) ∷ counted ms)) [
      | true ↦ λ e. distinct_counted ms h.1
      | false ↦ λ e. (ap not (is_break-counted ms m (above_one m e)) ∙ h.0, distinct_counted ms h.1)
    ] refl

pub is_break-later : (breaks : List ℕ) (n : ℕ) → 1 ≤ n → is_break (counted breaks) n ≡ is_break breaks (n + 1)
is_break-later breaks n h =
    let later : n ≡ (n + 1) - 1 = omega arith in
    ap (is_break (counted breaks)) later ∙ is_break-counted breaks (n + 1) (omega arith)

same_at : (breaks : List ℕ) (n m : ℕ) → (n == m) ≡ true → is_break breaks n ≡ true → is_break breaks m ≡ true
same_at breaks n m e h = let is : n ≡ m = grind (arith) in subst (λ k. is_break breaks k ≡ true) is h

joined : (b c : Bool) → (c ≡ true → b ≡ true) → b ≡ (b || c)
joined true c h = refl
joined false true h = h refl
joined false false h = refl

pub is_break-with_break : (breaks : List ℕ) (n m : ℕ) → is_break (with_break n breaks) m ≡ (is_break breaks m || n == m)
is_break-with_break breaks n m =
    elim (is_break breaks n) as (λ b. is_break breaks n ≡ b → is_break (if b then breaks else breaks ++ n ∷ []) m ≡ (is_break breaks m || n == m)) [
      | true ↦ λ h. joined (is_break breaks m) (n == m) (λ e. same_at breaks n m e h)
      | false ↦ λ _. is_break-append breaks n m
    ] refl
