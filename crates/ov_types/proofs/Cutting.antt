-- Texts that are cut at the first octet of a kind.
use Rattle.std.proofs.Common.{◌≡◌, ℕ, ◌%◌, ◌/◌, ◌<◌, ◌^◌, Bool, true, false, eqb, List, [], ◌∷◌, ◌++◌, refl, sym, ap, ◌∙◌, arith, not}
use Rattle.std.specs.Prelude.{decimal}
use Rattle.std.specs.List.{list_all}
use Rattle.std.specs.Str.Parse.{AllDigits}
use Rattle.std.proofs.lemmas.Bool.{and_parts, ne_eqb}
use Rattle.std.proofs.lemmas.Fmt.{decimal_is_IsNumeral}
use Rattle.std.proofs.lemmas.List.Folds.{list_all-append}
use Rattle.std.proofs.lemmas.Str.Parse.{digit_from_value}
use Rattle.ov_types.specs.Texts.{address_text}

-- what stands before a colon
abbrev pub is_before : ℕ → Bool
is_before c = not (eqb c 58)

-- two texts with the same octets behind a colon and before it
pub record CutAlike (xs ys us vs : List ℕ) : Type 0 where
  pub front : xs ≡ ys
  pub back : us ≡ vs

no_colon : {A : Type 0} → true ≡ is_before 58 → A
no_colon h = absurd (cc)

put_before : (x y : ℕ) (xs ys us vs : List ℕ) → x ≡ y → CutAlike xs ys us vs → CutAlike (x ∷ xs) (y ∷ ys) us vs
put_before x y xs ys us vs e c = record { front = rw (e, c.front) refl; back = c.back }

pub cut : (xs ys us vs : List ℕ) → list_all is_before xs ≡ true → list_all is_before ys ≡ true
    → xs ++ 58 ∷ us ≡ ys ++ 58 ∷ vs → CutAlike xs ys us vs
cut [] [] us vs h k e = record { front = refl; back = cc }
cut [] (y ∷ ys) us vs h k e =
    let same : y ≡ 58 = cc in
    no_colon (sym (and_parts (is_before y) (list_all is_before ys) k).0 ∙ ap is_before same)
cut (x ∷ xs) [] us vs h k e =
    let same : x ≡ 58 = cc in
    no_colon (sym (and_parts (is_before x) (list_all is_before xs) h).0 ∙ ap is_before same)
cut (x ∷ xs) (y ∷ ys) us vs h k e =
    let first : x ≡ y = cc in
    let rest : xs ++ 58 ∷ us ≡ ys ++ 58 ∷ vs = cc in
    put_before x y xs ys us vs first (cut xs ys us vs (and_parts (is_before x) (list_all is_before xs) h).1 (and_parts (is_before y) (list_all is_before ys) k).1 rest)

digits_before : (ds : List ℕ) → AllDigits 10 ds → list_all is_before ds ≡ true
digits_before [] h = refl
digits_before (c ∷ ds) h =
    let range = digit_from_value c h.0 in
    let plain : eqb c 58 ≡ false = ne_eqb c 58 (λ e. absurd (omega (arith, range, e))) in
    rw (plain, digits_before ds h.1) refl

pub decimal_before : (n : ℕ) → n < 2 ^ 64 → list_all is_before (decimal n) ≡ true
decimal_before n small = digits_before (decimal n) (decimal_is_IsNumeral n small).0.1

pub address_before : (n : ℕ) → list_all is_before (address_text n) ≡ true
address_before n =
    let a : list_all is_before (decimal (n / 16777216 % 256)) ≡ true = decimal_before (n / 16777216 % 256) (omega arith) in
    let b : list_all is_before (decimal (n / 65536 % 256)) ≡ true = decimal_before (n / 65536 % 256) (omega arith) in
    let c : list_all is_before (decimal (n / 256 % 256)) ≡ true = decimal_before (n / 256 % 256) (omega arith) in
    let d : list_all is_before (decimal (n % 256)) ≡ true = decimal_before (n % 256) (omega arith) in
    simp (list_all-append, a, b, c, d) refl
