-- What stands at the front of a text of hexadecimal digits.
use Rattle.std.specs.Prelude.{◌≡◌, ◌<◌, ◌+◌, ◌*◌, ℕ, false, List, [], ◌∷◌, length, Option, Some, None}
use Rattle.std.specs.Option.{option_map}
use Rattle.hex.specs.Hex.{hex_digit_value}
use Rattle.decode_answers.specs.declared.digits.Front.{Front}
use Rattle.decode_answers.specs.declared.digits.Front.TheVariants.{Octet, Blank, NoPair}
use Rattle.decode_answers.specs.Decoding.{is_blank, spelled}

-- the octet of two values of digits
abbrev pub octet_of : Option ℕ → Option ℕ → Option ℕ
octet_of (Some high) (Some low) = Some (high * 16 + low)
octet_of (Some high) None = None
octet_of None low = None

-- the octet of two digits
abbrev pub pair_octet : ℕ → ℕ → Option ℕ
pair_octet high low = octet_of (hex_digit_value high) (hex_digit_value low)

-- a text that begins with no blank
abbrev pub BeginsPlainly : List ℕ → Type 0
BeginsPlainly [] = Unit {0}
BeginsPlainly (octet ∷ rest) = is_blank octet ≡ false

-- the first octet that a text spells, and the text behind its digits, which spells the others
pub record BeginsWithOctet (text : List ℕ) (octet : ℕ) (after : List ℕ) : Type 0 where
  pub spells : spelled text ≡ option_map (λ octets. octet ∷ octets) (spelled after)
  pub shorter : length after < length text

-- what was found at the front of a text
abbrev pub IsFront : List ℕ → Front → Type 0
IsFront text (Octet octet after) = BeginsWithOctet text octet after.now
IsFront text Blank = spelled text ≡ Some []
IsFront text NoPair = spelled text ≡ None
