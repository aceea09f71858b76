-- Lengths of prefixes in decimal.
use Rattle.std.proofs.Common.{◌≡◌, ℕ, zero, suc, ◌^◌, ◌<◌, ◌≤◌, ◌&&◌, true, false, List, [], ◌∷◌, length, get_or, Option, Some, None, Err, refl, sym, subst, ap, ◌∙◌, arith, inl, inr}
use Rattle.std.specs.Prelude.{decimal, bytes_eq, nat_le}
use Rattle.std.specs.List.{position_or_len, after_first}
use Rattle.std.specs.Str.Parse.{AllDigits, IsNumeral, digits_value, without_leading_plus, ParsesUnsigned}
use Rattle.std.proofs.Math.ListN.{drop_of_length-le}
use Rattle.std.proofs.lemmas.Bool.{cases_Bool, and_parts, leb-true, le-leb}
use Rattle.std.proofs.lemmas.Fmt.{decimal_is_IsNumeral, decimal-digits_value, first_decimal, decimal_digit}
use Rattle.std.proofs.lemmas.Slice.Eq.{bytes_eq-Decides}
use Rattle.std.proofs.lemmas.Str.Parse.{numerals_by_value, tells_digits, digit_from_value, without_leading_plus_none}
use Rattle.ov_types.specs.Written.{begins_plainly, length_of, is_slash, block_from}

-- the text of a number is read as it
value_of : (text : List ℕ) (n : ℕ) → n ≤ 32 → decimal n ≡ text → digits_value 10 text ≡ n
value_of text n small e = ap (digits_value 10) (sym e) ∙ (decimal_is_IsNumeral n (omega arith)).1

some_first : (text : List ℕ) → begins_plainly text ≡ true → 48 ≤ get_or text 0 0
some_first [] h = cc
some_first (c ∷ []) h = leb-true 48 c (and_parts (nat_le 48 c) (nat_le c 57) h).0
some_first (c ∷ d ∷ cs) h = let k = leb-true 49 c (and_parts (nat_le 49 c) (nat_le c 57) h).0 in omega arith

none_before : (text : List ℕ) → begins_plainly text ≡ true → 0 < length text
none_before [] h = cc
none_before (c ∷ cs) h = omega arith

lead : (text : List ℕ) → begins_plainly text ≡ true → get_or text 0 0 ≡ 48 → length text ≡ 1
lead [] h e = cc
lead (c ∷ []) h e = refl
lead (c ∷ d ∷ cs) h e = let k = leb-true 49 c (and_parts (nat_le 49 c) (nat_le c 57) h).0 in absurd (omega arith)

no_plus : (text : List ℕ) → begins_plainly text ≡ true → without_leading_plus text ≡ text
no_plus text h = without_leading_plus_none text (λ e. absurd (omega (arith, some_first text h, e)))

-- digits that begin as a number does are the text of their value
spelled : (text : List ℕ) → begins_plainly text ≡ true → AllDigits 10 text → digits_value 10 text < 2 ^ 64 → decimal (digits_value 10 text) ≡ text
spelled text h digits small = decimal-digits_value (numerals_by_value (AllDigits 10) tells_digits) text digits (none_before text h) (lead text h) small

begins_of : (text : List ℕ) → AllDigits 10 text → 0 < length text → (1 < length text → 48 < get_or text 0 0) → begins_plainly text ≡ true
begins_of [] digits some first = absurd (omega arith)
begins_of (c ∷ []) digits some first = let k = digit_from_value c digits.0 in rw (le-leb 48 c k.0, le-leb c 57 k.1) refl
begins_of (c ∷ d ∷ cs) digits some first = let k = digit_from_value c digits.0 in let l : 48 < c = first (omega arith) in rw (le-leb 49 c (omega arith), le-leb c 57 k.1) refl

decimal_begins : (n : ℕ) → n ≤ 32 → begins_plainly (decimal n) ≡ true
decimal_begins zero small = ap begins_plainly (decimal_digit 0 (omega arith))
decimal_begins (suc n) small =
    let d = (decimal_is_IsNumeral (suc n) (omega arith)).0 in
    begins_of (decimal (suc n)) d.1 d.0 (λ _. first_decimal (suc n) (omega arith) (omega arith))

pub found : (text : List ℕ) (n : ℕ) → n ≤ 32 → decimal n ≡ text → Some n ≡ length_of text
unfolding length_of
found text n small e =
    let v = value_of text n small e in
    let same : bytes_eq (decimal (digits_value 10 text)) text ≡ true = (bytes_eq-Decides _ _).1 (ap decimal v ∙ e) in
    let within : nat_le (digits_value 10 text) 32 ≡ true = le-leb _ _ (omega (arith, v)) in
    rw (same, within) (ap (λ (k : ℕ). Some k) (sym v))

not_found : (text : List ℕ) → ((n : ℕ) → n ≤ 32 → decimal n ≡ text → ⊥) → None ≡ length_of text
unfolding length_of
not_found text none =
    elim (cases_Bool (bytes_eq (decimal (digits_value 10 text)) text && nat_le (digits_value 10 text) 32)) [
      | inl e ↦ let p = and_parts (bytes_eq (decimal (digits_value 10 text)) text) (nat_le (digits_value 10 text) 32) e in
          absurd (none (digits_value 10 text) (leb-true _ _ p.1) ((bytes_eq-Decides _ _).0 p.0))
      | inr e ↦ rw e refl
    ]

pub not_plain : (text : List ℕ) → begins_plainly text ≡ false → None ≡ length_of text
not_plain text h = not_found text (λ n small e. let b : begins_plainly text ≡ true = ap begins_plainly (sym e) ∙ decimal_begins n small in cc)

-- what `parse` says where it reads a number
abbrev pub IsRead : List ℕ → ℕ → Type 0
IsRead text n = (IsNumeral 10 (without_leading_plus text) × (digits_value 10 (without_leading_plus text) < 2 ^ 8)) × (n ≡ digits_value 10 (without_leading_plus text))

parsed : (text : List ℕ) (n : ℕ) → begins_plainly text ≡ true → IsRead text n → decimal n ≡ text
parsed text n h p =
    let plain = no_plus text h in
    let q : (IsNumeral 10 text × (digits_value 10 text < 2 ^ 8)) × (n ≡ digits_value 10 text) = subst (λ (t : List ℕ). (IsNumeral 10 t × (digits_value 10 t < 2 ^ 8)) × (n ≡ digits_value 10 t)) plain p in
    ap decimal q.1 ∙ spelled text h q.0.0.1 (omega (arith, q.0.1))

pub reads_length : (text : List ℕ) (n : ℕ) → begins_plainly text ≡ true → n ≤ 32 → IsRead text n → Some n ≡ length_of text
reads_length text n h small p = found text n small (parsed text n h p)

pub too_long : (text : List ℕ) (n : ℕ) → begins_plainly text ≡ true → 32 < n → IsRead text n → None ≡ length_of text
too_long text n h large p =
    let plain = no_plus text h in
    let q : (IsNumeral 10 text × (digits_value 10 text < 2 ^ 8)) × (n ≡ digits_value 10 text) = subst (λ (t : List ℕ). (IsNumeral 10 t × (digits_value 10 t < 2 ^ 8)) × (n ≡ digits_value 10 t)) plain p in
    not_found text (λ k small e. absurd (omega (arith, value_of text k small e, q.1)))

pub not_parsed : {E : Type 0} (text : List ℕ) (e : E) → begins_plainly text ≡ true → ParsesUnsigned {E = E} 8 10 text (Err e) → None ≡ length_of text
not_parsed text e h p = not_found text (λ n small same.
    let d = decimal_is_IsNumeral n (omega arith) in
    let v = value_of text n small same in
    let w : IsNumeral 10 text × (digits_value 10 text < 2 ^ 8) = (subst (IsNumeral 10) same d.0, omega (arith, v)) in
    p (subst (λ (t : List ℕ). IsNumeral 10 t × (digits_value 10 t < 2 ^ 8)) (sym (no_plus text h)) w))

-- a text without a slash
pub empty_length : None ≡ length_of []
empty_length = not_plain [] refl

none_from : (o : Option ℕ) → None ≡ block_from o None
none_from None = refl
none_from (Some a) = refl

pub no_slash : (text : List ℕ) (o : Option ℕ) → position_or_len is_slash text ≡ length text → None ≡ block_from o (length_of (after_first is_slash text))
no_slash text o h =
    let past : after_first is_slash text ≡ [] = drop_of_length-le text (omega (arith, h)) in
    none_from o ∙ ap (block_from o) (empty_length ∙ ap length_of (sym past))
