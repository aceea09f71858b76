-- Two numbers have two texts of 16 hexadecimal digits.
use Rattle.std.proofs.Common.{◌≡◌, ℕ, zero, suc, ◌-◌, ◌<◌, ◌^◌, false, List, [], ◌++◌, length, refl, sym, ap, ◌∙◌, arith}
use Rattle.std.specs.Prelude.{replicate}
use Rattle.std.specs.Fmt.{digits, padded_integral, number_padding, format_spec}
use Rattle.std.specs.Str.Parse.{digits_value, digits_value_after}
use Rattle.std.proofs.lemmas.Fmt.{digits_is_IsNumeral}
use Rattle.std.proofs.lemmas.List.{append-nil}
use Rattle.ov_types.specs.Texts.{hex_text}

-- how many zeros stand before the digits
abbrev zeros : ℕ → ℕ
zeros n = number_padding (format_spec 32 0 4 16 (2 ^ 64 - 1)) false [] (length (digits 16 false n))

padded : (n : ℕ) → hex_text n ≡ replicate (zeros n) 48 ++ digits 16 false n
unfolding padded_integral
padded n = ap (λ (text : List ℕ). replicate (zeros n) 48 ++ text) (append-nil (digits 16 false n))

zeros_count_nothing : (k : ℕ) (ds : List ℕ) → digits_value_after 16 0 (replicate k 48 ++ ds) ≡ digits_value_after 16 0 ds
zeros_count_nothing zero ds = refl
zeros_count_nothing (suc k) ds = zeros_count_nothing k ds

value : (n : ℕ) → n < 2 ^ 64 → digits_value 16 (hex_text n) ≡ n
value n small =
    ap (digits_value 16) (padded n)
    ∙ zeros_count_nothing (zeros n) (digits 16 false n)
    ∙ (digits_is_IsNumeral 16 false (omega arith) (omega arith) n (omega (arith, small))).1

pub hex_injective : (m n : ℕ) → m < 2 ^ 64 → n < 2 ^ 64 → hex_text m ≡ hex_text n → m ≡ n
hex_injective m n sm sn e = sym (value m sm) ∙ ap (digits_value 16) e ∙ value n sn
