-- What places are, and what digits are at fault for, in plain words.
use Rattle.std.specs.Prelude.{◌≡◌, ℕ, ◌+◌, ◌-◌, ◌^◌, ◌<◌, ◌==◌, ◌||◌, not, Bool, true, List, [], ◌∷◌, ◌++◌, length, Some, None, false}
use Rattle.std.specs.Prelude.{if◌then◌else◌}
use Rattle.std.specs.List.{list_all}
use Rattle.explanations.specs.Digits.{is_blank, is_hex_digit, nothing_scanned, scanned}
use Rattle.explanations.specs.Places.{place_behind, start}
use Rattle.explanations.specs.declared.digits.DigitFault.TheVariants.{Stray, Unpaired}

-- how many line feeds there are
abbrev pub feeds : List ℕ → ℕ
feeds [] = 0
feeds (octet ∷ octets) = if octet == 10 then 1 + feeds octets else feeds octets

-- octets of one line
abbrev pub is_line : List ℕ → Bool
is_line octets = list_all (λ octet. not (octet == 10)) octets

-- a line is numbered by the line feeds before it
abbrev pub LinesAreCounted : Type 0
LinesAreCounted =
    (octets : List ℕ) → length octets < 2 ^ 64 - 2 → (place_behind start octets).line ≡ 1 + feeds octets

-- an octet is numbered by those before it in its line, be the line the first or not
pub record ColumnsAreCounted : Type 0 where
  pub first : (line : List ℕ) → is_line line ≡ true → length line < 2 ^ 64 - 2
      → (place_behind start line).column ≡ 1 + length line
  pub later : (before line : List ℕ) → is_line line ≡ true → length line < 2 ^ 64 - 2
      → (place_behind start (before ++ (10 ∷ line))).column ≡ 1 + length line

-- a digit or a blank
abbrev pub is_sound : ℕ → Bool
is_sound octet = is_hex_digit octet || is_blank octet

-- the digits are an even number
abbrev pub is_even : List ℕ → Bool
is_even [] = true
is_even (octet ∷ octets) = if is_hex_digit octet then not (is_even octets) else is_even octets

-- where digits are at fault, and only there
pub record DigitsAreScanned : Type 0 where
  pub sound : (text : List ℕ) → list_all is_sound text ≡ true → is_even text ≡ true
      → (scanned nothing_scanned text).fault ≡ None
  pub stray : (front back : List ℕ) (octet : ℕ) → list_all is_sound front ≡ true → is_sound octet ≡ false
      → (scanned nothing_scanned (front ++ (octet ∷ back))).fault ≡ Some (Stray (place_behind start front))
  pub unpaired : (front blanks : List ℕ) (digit : ℕ) → list_all is_sound front ≡ true → is_even front ≡ true
      → is_hex_digit digit ≡ true → list_all is_sound blanks ≡ true → list_all (λ octet. not (is_hex_digit octet)) blanks ≡ true
      → (scanned nothing_scanned (front ++ (digit ∷ blanks))).fault ≡ Some (Unpaired (place_behind start front))
