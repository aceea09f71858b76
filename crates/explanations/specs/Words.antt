-- The words of a line.
use Rattle.std.specs.Prelude.{ℕ, ◌-◌, ◌/◌, ◌%◌, ◌==◌, ◌&&◌, ◌++◌, [], ◌∷◌, Bool, false, not, List, codes, length, take, drop, flat_map, nat_eq, nat_le}
use Rattle.std.specs.Prelude.{if◌then◌else◌}
use Rattle.std.specs.Fmt.{digits}
use Rattle.std.specs.Cmp.Lexicographic.{pointwise}
use Rattle.std.specs.List.{before_first, after_first}
use Rattle.std.specs.Str.Lossy.{utf8_valid_len}

-- what stands before the first blank of a text, or all where there is none
abbrev pub first_word : List ℕ → List ℕ
first_word text = before_first (λ c. c == 32) text

-- what stands behind the first blank of a text, or nothing where there is none
abbrev pub behind_blank : List ℕ → List ℕ
behind_blank text = after_first (λ c. c == 32) text

-- a text begins with another
abbrev pub begins_so : List ℕ → List ℕ → Bool
begins_so front text = pointwise nat_eq (take (length front) text) front

-- a text ends with another
abbrev pub ends_so : List ℕ → List ℕ → Bool
ends_so end text = pointwise nat_eq (drop (length text - length end) text) end

-- a text without so many octets at its end as another has
abbrev pub without_end : List ℕ → List ℕ → List ℕ
without_end end text = take (length text - length end) text

-- the longest front that is UTF-8
abbrev pub utf8_front : List ℕ → List ℕ
utf8_front octets = take (utf8_valid_len octets) octets

-- printable US-ASCII, but for the backslash
abbrev pub is_printable : ℕ → Bool
is_printable octet = nat_le 32 octet && (nat_le octet 126 && not (octet == 92))

-- an octet as it is shown: in hexadecimal where it is not printable
abbrev pub shown_octet : ℕ → List ℕ
shown_octet octet =
    if is_printable octet then octet ∷ []
    else codes "\\x" ++ (digits 16 false (octet / 16) ++ digits 16 false (octet % 16))

-- octets as they are shown
abbrev pub shown : List ℕ → List ℕ
shown octets = flat_map shown_octet octets
