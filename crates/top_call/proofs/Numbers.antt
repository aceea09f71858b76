-- The words that are read as a number are its decimal text.
use Rattle.std.specs.Prelude.{◌≡◌, ◌≤◌, ◌<◌, ◌&&◌, ◌+◌, ◌-◌, ◌*◌, ◌/◌, ◌%◌, ◌++◌, ℕ, nat_le, nat_lt, decimal}
use Rattle.std.specs.Prelude.{List, [], ◌∷◌, Bool, true, false, Some, None, if◌then◌else◌}
use Rattle.std.specs.Option.{unwrap_or}
use Rattle.std.proofs.Common.{refl, sym, ap, ◌∙◌, arith, inl, inr}
use Rattle.std.proofs.lemmas.Bool.{cases_Bool, and_parts, and_from, le-leb, leb-true, ltb-false, ltb-true}
use Rattle.std.proofs.lemmas.Fmt.{decimal_digit, decimal_step}
use Rattle.top_call.specs.Commands.{IsInDecimal, is_digit, is_first_digit, scenario_number}

two_digits : (x y : ℕ) → 1 ≤ x → x ≤ 9 → y ≤ 9 → decimal (10 * x + y) ≡ (48 + x) ∷ (48 + y) ∷ []
two_digits x y least most small =
    let tens : (10 * x + y) / 10 ≡ x = omega (arith, small) in
    let ones : (10 * x + y) % 10 ≡ y = omega (arith, small) in
    decimal_step (10 * x + y) (omega (arith, least)) (omega (arith, most, small))
    ∙ ap (λ (n : ℕ). decimal n ++ (48 + (10 * x + y) % 10) ∷ []) tens
    ∙ ap (λ ds. ds ++ (48 + (10 * x + y) % 10) ∷ []) (decimal_digit x (omega (arith, most)))
    ∙ ap (λ (n : ℕ). (48 + x) ∷ (48 + n) ∷ []) ones

three_digits : (x y z : ℕ) → 1 ≤ x → x ≤ 9 → y ≤ 9 → z ≤ 9
    → decimal (100 * x + (10 * y + z)) ≡ (48 + x) ∷ (48 + y) ∷ (48 + z) ∷ []
three_digits x y z least most small smallest =
    let n = 100 * x + (10 * y + z) in
    let tens : n / 10 ≡ 10 * x + y = omega (arith, small, smallest) in
    let ones : n % 10 ≡ z = omega (arith, small, smallest) in
    decimal_step n (omega (arith, least)) (omega (arith, most, small, smallest))
    ∙ ap (λ (m : ℕ). decimal m ++ (48 + n % 10) ∷ []) tens
    ∙ ap (λ ds. ds ++ (48 + n % 10) ∷ []) (two_digits x y least most small)
    ∙ ap (λ (m : ℕ). (48 + x) ∷ (48 + y) ∷ (48 + m) ∷ []) ones

first : (a : ℕ) → is_first_digit a ≡ true → (49 ≤ a) × (a ≤ 57)
first a h = let parts = and_parts (nat_le 49 a) (nat_le a 57) h in (leb-true 49 a parts.0, leb-true a 57 parts.1)

digit : (a : ℕ) → is_digit a ≡ true → (48 ≤ a) × (a ≤ 57)
digit a h = let parts = and_parts (nat_le 48 a) (nat_le a 57) h in (leb-true 48 a parts.0, leb-true a 57 parts.1)

is_first : (x : ℕ) → 1 ≤ x → x ≤ 9 → is_first_digit (48 + x) ≡ true
is_first x least most =
    and_from (nat_le 49 (48 + x)) (nat_le (48 + x) 57) (le-leb 49 (48 + x) (omega (arith, least)))
    (le-leb (48 + x) 57 (omega (arith, most)))

is_next : (x : ℕ) → x ≤ 9 → is_digit (48 + x) ≡ true
is_next x most =
    and_from (nat_le 48 (48 + x)) (nat_le (48 + x) 57) (le-leb 48 (48 + x) (omega arith))
    (le-leb (48 + x) 57 (omega (arith, most)))

back : (a : ℕ) → 48 ≤ a → 48 + (a - 48) ≡ a
back a h = omega (arith, h)

chosen : (b : Bool) (v n : ℕ) → (if b then Some v else None) ≡ Some n → (b ≡ true) × (v ≡ n)
chosen true v n h = (refl, ap (λ o. unwrap_or o v) h)
chosen false v n h = absurd cc

-- ---- what is read as a number is its text
one_read : (a n : ℕ) → scenario_number (a ∷ []) ≡ Some n → IsInDecimal n (a ∷ [])
unfolding scenario_number
one_read a n h =
    let is = chosen (is_first_digit a) (a - 48) n h in
    let x = first a is.0 in
    let text : a ∷ [] ≡ decimal n =
    sym (ap decimal (sym is.1) ∙ decimal_digit (a - 48) (omega (arith, x.0, x.1))
    ∙ ap (λ (b : ℕ). b ∷ []) (back a (omega (arith, x.0)))) in
    record { first = omega (arith, x.0, is.1); last = omega (arith, x.1, is.1); is = text }

two_read : (a b n : ℕ) → scenario_number (a ∷ b ∷ []) ≡ Some n → IsInDecimal n (a ∷ b ∷ [])
unfolding scenario_number
two_read a b n h =
    let is = chosen (is_first_digit a && is_digit b) (10 * (a - 48) + (b - 48)) n h in
    let digits = and_parts (is_first_digit a) (is_digit b) is.0 in
    let x = first a digits.0 in
    let y = digit b digits.1 in
    let text : a ∷ b ∷ [] ≡ decimal n =
    sym (ap decimal (sym is.1)
    ∙ two_digits (a - 48) (b - 48) (omega (arith, x.0)) (omega (arith, x.1)) (omega (arith, y.1))
    ∙ ap (λ (c : ℕ). c ∷ (48 + (b - 48)) ∷ []) (back a (omega (arith, x.0)))
    ∙ ap (λ (c : ℕ). a ∷ c ∷ []) (back b y.0)) in
    record { first = omega (arith, x.0, is.1); last = omega (arith, x.1, y.1, is.1); is = text }

three_read : (a b c n : ℕ) → scenario_number (a ∷ b ∷ c ∷ []) ≡ Some n → IsInDecimal n (a ∷ b ∷ c ∷ [])
unfolding scenario_number
three_read a b c n h =
    let is = chosen (is_first_digit a && (is_digit b && is_digit c)) (100 * (a - 48) + (10 * (b - 48) + (c - 48))) n h in
    let digits = and_parts (is_first_digit a) (is_digit b && is_digit c) is.0 in
    let later = and_parts (is_digit b) (is_digit c) digits.1 in
    let x = first a digits.0 in
    let y = digit b later.0 in
    let z = digit c later.1 in
    let text : a ∷ b ∷ c ∷ [] ≡ decimal n =
    sym (ap decimal (sym is.1)
    ∙ three_digits (a - 48) (b - 48) (c - 48) (omega (arith, x.0)) (omega (arith, x.1)) (omega (arith, y.1))
    (omega (arith, z.1))
    ∙ ap (λ (d : ℕ). d ∷ (48 + (b - 48)) ∷ (48 + (c - 48)) ∷ []) (back a (omega (arith, x.0)))
    ∙ ap (λ (d : ℕ). a ∷ d ∷ (48 + (c - 48)) ∷ []) (back b y.0)
    ∙ ap (λ (d : ℕ). a ∷ b ∷ d ∷ []) (back c z.0)) in
    record { first = omega (arith, x.0, is.1); last = omega (arith, x.1, y.1, z.1, is.1); is = text }

pub read : (text : List ℕ) (n : ℕ) → scenario_number text ≡ Some n → IsInDecimal n text
unfolding scenario_number
read [] n h = absurd cc
read (a ∷ []) n h = one_read a n h
read (a ∷ b ∷ []) n h = two_read a b n h
read (a ∷ b ∷ c ∷ []) n h = three_read a b c n h
read (a ∷ b ∷ c ∷ d ∷ ds) n h = absurd cc

-- ---- the text of a number is read as it
one_is_read : (n : ℕ) → 1 ≤ n → n < 10 → scenario_number (decimal n) ≡ Some n
unfolding scenario_number
one_is_read n least small =
    ap scenario_number (decimal_digit n small)
    ∙ rw (is_first n least (omega (arith, small))) (ap (λ (k : ℕ). Some k) (omega arith))

two_are_read : (n : ℕ) → 10 ≤ n → n < 100 → scenario_number (decimal n) ≡ Some n
unfolding scenario_number
two_are_read n least small =
    let x = n / 10 in
    let y = n % 10 in
    let all : 10 * x + y ≡ n = omega arith in
    let a : is_first_digit (48 + x) ≡ true = is_first x (omega (arith, least)) (omega (arith, small)) in
    let b : is_digit (48 + y) ≡ true = is_next y (omega arith) in
    ap scenario_number (ap decimal (sym all)
    ∙ two_digits x y (omega (arith, least)) (omega (arith, small)) (omega arith))
    ∙ rw (a, b) (ap (λ (k : ℕ). Some k) (omega (arith, all)))

three_are_read : (n : ℕ) → 100 ≤ n → n < 1000 → scenario_number (decimal n) ≡ Some n
unfolding scenario_number
three_are_read n least small =
    let x = n / 100 in
    let y = n / 10 % 10 in
    let z = n % 10 in
    let all : 100 * x + (10 * y + z) ≡ n = omega arith in
    let a : is_first_digit (48 + x) ≡ true = is_first x (omega (arith, least)) (omega (arith, small)) in
    let b : is_digit (48 + y) ≡ true = is_next y (omega arith) in
    let c : is_digit (48 + z) ≡ true = is_next z (omega arith) in
    ap scenario_number (ap decimal (sym all)
    ∙ three_digits x y z (omega (arith, least)) (omega (arith, small)) (omega arith) (omega arith))
    ∙ rw (a, b, c) (ap (λ (k : ℕ). Some k) (omega (arith, all)))

number_is_read : (n : ℕ) → 1 ≤ n → n ≤ 999 → scenario_number (decimal n) ≡ Some n
number_is_read n least most =
    elim (cases_Bool (nat_lt n 10)) [
      | inl few ↦ one_is_read n least (ltb-true n 10 few)
      | inr more ↦ elim (cases_Bool (nat_lt n 100)) [
        | inl few ↦ two_are_read n (ltb-false n 10 more) (ltb-true n 100 few)
        | inr many ↦ three_are_read n (ltb-false n 100 many) (omega (arith, most))
      ]
    ]

pub is_read : (text : List ℕ) (n : ℕ) → IsInDecimal n text → scenario_number text ≡ Some n
is_read text n is = ap scenario_number is.is ∙ number_is_read n is.first is.last
