-- What a text of a distinguisher or of a target says.
use Rattle.std.proofs.Common.{◌≡◌, ◌⊎◌, ℕ, zero, suc, ◌%◌, ◌/◌, ◌<◌, ◌≤◌, ◌^◌, false, eqb, List, [], ◌∷◌, ◌++◌, refl, sym, ap, ◌∙◌, arith, append_assoc, inl, inr, Some}
use Rattle.std.specs.Prelude.{codes, decimal, if◌then◌else◌, ◌==◌}
use Rattle.std.specs.Str.Parse.{AllDigits}
use Rattle.std.proofs.lemmas.Bool.{ne_eqb}
use Rattle.std.proofs.lemmas.Fmt.{decimal_injective, decimal_is_IsNumeral}
use Rattle.std.proofs.lemmas.Str.Parse.{digit_from_value}
use Rattle.ov_types.specs.Texts.{address_text, hex_text, kinded_text}
use Rattle.ov_types.specs.Written.{address_of}
use Rattle.ov_types.proofs.OneText.{address_has_one_text}
use Rattle.ov_types.proofs.Cutting.{cut, decimal_before, address_before}
use Rattle.ov_types.proofs.Hexadecimal.{hex_injective}

-- the kind that a text tells, 3 of one without a form of its own: by a letter at its front, or by what ends its first number
abbrev told : List ℕ → ℕ
told [] = 0
told (c ∷ cs) = if c == 76 then 2 else (if c == 120 then 3 else (if c == 46 then 1 else (if c == 58 then 0 else told cs)))

told_behind : (ds rest : List ℕ) → AllDigits 10 ds → told (ds ++ rest) ≡ told rest
told_behind [] rest h = refl
told_behind (c ∷ ds) rest h =
    let range = digit_from_value c h.0 in
    let no_l : eqb c 76 ≡ false = ne_eqb c 76 (λ e. absurd (omega (arith, range, e))) in
    let no_x : eqb c 120 ≡ false = ne_eqb c 120 (λ e. absurd (omega (arith, range, e))) in
    let no_point : eqb c 46 ≡ false = ne_eqb c 46 (λ e. absurd (omega (arith, range, e))) in
    let no_colon : eqb c 58 ≡ false = ne_eqb c 58 (λ e. absurd (omega (arith, range, e))) in
    rw (no_l, no_x, no_point, no_colon) (told_behind ds rest h.1)

told_behind_decimal : (n : ℕ) (rest : List ℕ) → n < 2 ^ 64 → told (decimal n ++ rest) ≡ told rest
told_behind_decimal n rest small = told_behind (decimal n) rest (decimal_is_IsNumeral n small).0.1

-- the text of each kind
short_is : (n : ℕ) → kinded_text 0 n ≡ decimal (n / 2 ^ 32 % 2 ^ 16) ++ (codes ":" ++ decimal (n % 2 ^ 32))
unfolding kinded_text
short_is n = refl

addressed_is : (n : ℕ) → kinded_text 1 n ≡ address_text (n / 2 ^ 16 % 2 ^ 32) ++ (codes ":" ++ decimal (n % 2 ^ 16))
unfolding kinded_text
addressed_is n = refl

long_is : (n : ℕ) → kinded_text 2 n ≡ codes "L" ++ (decimal (n / 2 ^ 16 % 2 ^ 32) ++ (codes ":" ++ decimal (n % 2 ^ 16)))
unfolding kinded_text
long_is n = refl

plain_is : (kind n : ℕ) → 2 < kind → kinded_text kind n ≡ codes "x" ++ hex_text n
unfolding kinded_text
plain_is kind n h =
    let a : eqb kind 0 ≡ false = ne_eqb kind 0 (λ e. absurd (omega (arith, h, e))) in
    let b : eqb kind 1 ≡ false = ne_eqb kind 1 (λ e. absurd (omega (arith, h, e))) in
    let c : eqb kind 2 ≡ false = ne_eqb kind 2 (λ e. absurd (omega (arith, h, e))) in
    rw (a, b, c) refl

-- what each kind tells
short_told : (n : ℕ) → told (kinded_text 0 n) ≡ 0
short_told n = ap told (short_is n) ∙ told_behind_decimal (n / 2 ^ 32 % 2 ^ 16) (codes ":" ++ decimal (n % 2 ^ 32)) (omega arith)

told_joined : (n : ℕ) (xs rest : List ℕ) → n < 2 ^ 64 → told ((decimal n ++ xs) ++ rest) ≡ told (xs ++ rest)
told_joined n xs rest small = ap told (append_assoc (decimal n) xs rest) ∙ told_behind_decimal n (xs ++ rest) small

told_address : (n : ℕ) (rest : List ℕ) → told (address_text n ++ rest) ≡ 1
told_address n rest =
    told_joined (n / 16777216 % 256)
    (codes "." ++ (decimal (n / 65536 % 256) ++ (codes "." ++ (decimal (n / 256 % 256) ++ (codes "." ++ decimal (n % 256))))))
    rest (omega arith)

addressed_told : (n : ℕ) → told (kinded_text 1 n) ≡ 1
addressed_told n = ap told (addressed_is n) ∙ told_address (n / 2 ^ 16 % 2 ^ 32) (codes ":" ++ decimal (n % 2 ^ 16))

long_told : (n : ℕ) → told (kinded_text 2 n) ≡ 2
long_told n = ap told (long_is n)

plain_told : (kind n : ℕ) → 2 < kind → told (kinded_text kind n) ≡ 3
plain_told kind n h = ap told (plain_is kind n h)

-- what two texts of one kind say
short_says : (m n : ℕ) → kinded_text 0 m ≡ kinded_text 0 n → m % 2 ^ 48 ≡ n % 2 ^ 48
short_says m n e =
    let joined : decimal (m / 2 ^ 32 % 2 ^ 16) ++ 58 ∷ decimal (m % 2 ^ 32) ≡ decimal (n / 2 ^ 32 % 2 ^ 16) ++ 58 ∷ decimal (n % 2 ^ 32)
    = sym (short_is m) ∙ e ∙ short_is n in
    let c = cut (decimal (m / 2 ^ 32 % 2 ^ 16)) (decimal (n / 2 ^ 32 % 2 ^ 16)) (decimal (m % 2 ^ 32)) (decimal (n % 2 ^ 32))
    (decimal_before (m / 2 ^ 32 % 2 ^ 16) (omega arith)) (decimal_before (n / 2 ^ 32 % 2 ^ 16) (omega arith)) joined in
    let front = decimal_injective (m / 2 ^ 32 % 2 ^ 16) (n / 2 ^ 32 % 2 ^ 16) (omega arith) (omega arith) c.front in
    let back = decimal_injective (m % 2 ^ 32) (n % 2 ^ 32) (omega arith) (omega arith) c.back in
    omega (arith, front, back)

address_injective : (m n : ℕ) → m < 2 ^ 32 → n < 2 ^ 32 → address_text m ≡ address_text n → m ≡ n
address_injective m n sm sn e =
    let one : address_of (address_text m) ≡ Some m = (address_has_one_text (address_text m) m).1 (sm, refl) in
    let two : address_of (address_text m) ≡ Some n = (address_has_one_text (address_text m) n).1 (sn, e) in
    cc

addressed_says : (m n : ℕ) → kinded_text 1 m ≡ kinded_text 1 n → m % 2 ^ 48 ≡ n % 2 ^ 48
addressed_says m n e =
    let joined : address_text (m / 2 ^ 16 % 2 ^ 32) ++ 58 ∷ decimal (m % 2 ^ 16) ≡ address_text (n / 2 ^ 16 % 2 ^ 32) ++ 58 ∷ decimal (n % 2 ^ 16)
    = sym (addressed_is m) ∙ e ∙ addressed_is n in
    let c = cut (address_text (m / 2 ^ 16 % 2 ^ 32)) (address_text (n / 2 ^ 16 % 2 ^ 32)) (decimal (m % 2 ^ 16)) (decimal (n % 2 ^ 16))
    (address_before (m / 2 ^ 16 % 2 ^ 32)) (address_before (n / 2 ^ 16 % 2 ^ 32)) joined in
    let front = address_injective (m / 2 ^ 16 % 2 ^ 32) (n / 2 ^ 16 % 2 ^ 32) (omega arith) (omega arith) c.front in
    let back = decimal_injective (m % 2 ^ 16) (n % 2 ^ 16) (omega arith) (omega arith) c.back in
    omega (arith, front, back)

behind : (x y : ℕ) (xs ys : List ℕ) → x ∷ xs ≡ y ∷ ys → xs ≡ ys
behind x y xs ys e = cc

long_says : (m n : ℕ) → kinded_text 2 m ≡ kinded_text 2 n → m % 2 ^ 48 ≡ n % 2 ^ 48
long_says m n e =
    let joined : decimal (m / 2 ^ 16 % 2 ^ 32) ++ 58 ∷ decimal (m % 2 ^ 16) ≡ decimal (n / 2 ^ 16 % 2 ^ 32) ++ 58 ∷ decimal (n % 2 ^ 16)
    = behind 76 76 _ _ (sym (long_is m) ∙ e ∙ long_is n) in
    let c = cut (decimal (m / 2 ^ 16 % 2 ^ 32)) (decimal (n / 2 ^ 16 % 2 ^ 32)) (decimal (m % 2 ^ 16)) (decimal (n % 2 ^ 16))
    (decimal_before (m / 2 ^ 16 % 2 ^ 32) (omega arith)) (decimal_before (n / 2 ^ 16 % 2 ^ 32) (omega arith)) joined in
    let front = decimal_injective (m / 2 ^ 16 % 2 ^ 32) (n / 2 ^ 16 % 2 ^ 32) (omega arith) (omega arith) c.front in
    let back = decimal_injective (m % 2 ^ 16) (n % 2 ^ 16) (omega arith) (omega arith) c.back in
    omega (arith, front, back)

plain_says : (j k m n : ℕ) → m < 2 ^ 64 → n < 2 ^ 64 → 2 < j → 2 < k → kinded_text j m ≡ kinded_text k n → m ≡ n
plain_says j k m n sm sn hj hk e = hex_injective m n sm sn (behind 120 120 (hex_text m) (hex_text n) (sym (plain_is j m hj) ∙ e ∙ plain_is k n hk))

-- a kind with a form of its own, or another one
class : ℕ → ℕ
class zero = 0
class (suc zero) = 1
class (suc (suc zero)) = 2
class (suc (suc (suc k))) = 3

told_class : (k n : ℕ) → told (kinded_text k n) ≡ class k
unfolding class
told_class zero n = short_told n
told_class (suc zero) n = addressed_told n
told_class (suc (suc zero)) n = long_told n
told_class (suc (suc (suc k))) n = plain_told (suc (suc (suc k))) n (omega arith)

-- two texts say one kind and the same behind it, or all
abbrev pub SayAlike : ℕ → ℕ → ℕ → ℕ → Type 0
SayAlike j k m n = ((j ≤ 2) × ((j ≡ k) × (m % 2 ^ 48 ≡ n % 2 ^ 48))) ⊎ (m ≡ n)

classed_alike : (j k m n : ℕ) → m < 2 ^ 64 → n < 2 ^ 64 → class j ≡ class k → kinded_text j m ≡ kinded_text k n → SayAlike j k m n
unfolding class
classed_alike zero zero m n sm sn h e = inl (omega arith, (refl, short_says m n e))
classed_alike zero (suc zero) m n sm sn h e = cc
classed_alike zero (suc (suc zero)) m n sm sn h e = cc
classed_alike zero (suc (suc (suc k))) m n sm sn h e = cc
classed_alike (suc zero) zero m n sm sn h e = cc
classed_alike (suc zero) (suc zero) m n sm sn h e = inl (omega arith, (refl, addressed_says m n e))
classed_alike (suc zero) (suc (suc zero)) m n sm sn h e = cc
classed_alike (suc zero) (suc (suc (suc k))) m n sm sn h e = cc
classed_alike (suc (suc zero)) zero m n sm sn h e = cc
classed_alike (suc (suc zero)) (suc zero) m n sm sn h e = cc
classed_alike (suc (suc zero)) (suc (suc zero)) m n sm sn h e = inl (omega arith, (refl, long_says m n e))
classed_alike (suc (suc zero)) (suc (suc (suc k))) m n sm sn h e = cc
classed_alike (suc (suc (suc j))) zero m n sm sn h e = cc
classed_alike (suc (suc (suc j))) (suc zero) m n sm sn h e = cc
classed_alike (suc (suc (suc j))) (suc (suc zero)) m n sm sn h e = cc
classed_alike (suc (suc (suc j))) (suc (suc (suc k))) m n sm sn h e = inr (plain_says (suc (suc (suc j))) (suc (suc (suc k))) m n sm sn (omega arith) (omega arith) e)

pub say_alike : (j k m n : ℕ) → m < 2 ^ 64 → n < 2 ^ 64 → kinded_text j m ≡ kinded_text k n → SayAlike j k m n
say_alike j k m n sm sn e = classed_alike j k m n sm sn (sym (told_class j m) ∙ ap told e ∙ told_class k n) e

-- of a kind with a form of its own a text says no more than 48 bits
short_shared : (m n : ℕ) → m % 2 ^ 48 ≡ n % 2 ^ 48 → kinded_text 0 m ≡ kinded_text 0 n
short_shared m n h =
    let front : m / 2 ^ 32 % 2 ^ 16 ≡ n / 2 ^ 32 % 2 ^ 16 = omega (arith, h) in
    let back : m % 2 ^ 32 ≡ n % 2 ^ 32 = omega (arith, h) in
    rw (short_is m, short_is n, front, back) refl

addressed_shared : (m n : ℕ) → m % 2 ^ 48 ≡ n % 2 ^ 48 → kinded_text 1 m ≡ kinded_text 1 n
addressed_shared m n h =
    let front : m / 2 ^ 16 % 2 ^ 32 ≡ n / 2 ^ 16 % 2 ^ 32 = omega (arith, h) in
    let back : m % 2 ^ 16 ≡ n % 2 ^ 16 = omega (arith, h) in
    addressed_is m ∙ ap (λ (a : ℕ). address_text a ++ 58 ∷ decimal (m % 2 ^ 16)) front
    ∙ ap (λ (b : ℕ). address_text (n / 2 ^ 16 % 2 ^ 32) ++ 58 ∷ decimal b) back ∙ sym (addressed_is n)

long_shared : (m n : ℕ) → m % 2 ^ 48 ≡ n % 2 ^ 48 → kinded_text 2 m ≡ kinded_text 2 n
long_shared m n h =
    let front : m / 2 ^ 16 % 2 ^ 32 ≡ n / 2 ^ 16 % 2 ^ 32 = omega (arith, h) in
    let back : m % 2 ^ 16 ≡ n % 2 ^ 16 = omega (arith, h) in
    rw (long_is m, long_is n, front, back) refl

pub shared : (k m n : ℕ) → k ≤ 2 → m % 2 ^ 48 ≡ n % 2 ^ 48 → kinded_text k m ≡ kinded_text k n
shared zero m n le h = short_shared m n h
shared (suc zero) m n le h = addressed_shared m n h
shared (suc (suc zero)) m n le h = long_shared m n h
shared (suc (suc (suc k))) m n le h = absurd (omega (arith, le))
