-- Where hexadecimal digits are at fault.
use Rattle.std.specs.Prelude.{ℕ, ◌==◌, ◌&&◌, ◌||◌, ◌++◌, nat_le, Bool, List, [], ◌∷◌, codes, Option, Some, None}
use Rattle.std.specs.Prelude.{if◌then◌else◌}
use Rattle.explanations.specs.declared.digits.DigitFault.{DigitFault}
use Rattle.explanations.specs.declared.digits.DigitFault.TheVariants.{Stray, Unpaired}
use Rattle.explanations.specs.declared.digits.DigitScan.{DigitScan}
use Rattle.explanations.specs.declared.place.TextPlace.{TextPlace}
use Rattle.explanations.specs.Places.{place_after, place_text, start}

-- a space, a tab, a line feed or a carriage return
abbrev pub is_blank : ℕ → Bool
is_blank octet = octet == 32 || (octet == 9 || (octet == 10 || octet == 13))

-- 0 to 9, A to F, a to f
abbrev pub is_hex_digit : ℕ → Bool
is_hex_digit octet =
    (nat_le 48 octet && nat_le octet 57)
    || ((nat_le 65 octet && nat_le octet 70) || (nat_le 97 octet && nat_le octet 102))

abbrev pub nothing_scanned : DigitScan
nothing_scanned = record { next = start; fault = None }

-- a digit is the first of a pair, and has no other yet, or the second
abbrev pub first_or_second : Option DigitFault → TextPlace → Option DigitFault
first_or_second None place = Some (Unpaired place)
first_or_second (Some fault) place = None

-- what one octet more brings: nothing is looked at behind the first stray octet
abbrev pub fault_after : Option DigitFault → TextPlace → ℕ → Option DigitFault
fault_after (Some (Stray stray)) place octet = Some (Stray stray)
fault_after fault place octet =
    if is_hex_digit octet then first_or_second fault place
    else (if is_blank octet then fault else Some (Stray place))

abbrev pub scan_after : DigitScan → ℕ → DigitScan
scan_after s octet = record { next = place_after s.next octet; fault = fault_after s.fault s.next octet }

unfoldable pub scanned : DigitScan → List ℕ → DigitScan
scanned s [] = s
scanned s (octet ∷ octets) = scanned (scan_after s octet) octets

abbrev pub digit_sentence : DigitFault → List ℕ
digit_sentence (Stray place) = codes "neither a hexadecimal digit nor a blank stands at " ++ place_text place
digit_sentence (Unpaired place) =
    codes "hexadecimal digits stand in pairs, and that at " ++ (place_text place ++ codes " has no other")
