-- Places in octets.
use Rattle.std.specs.Prelude.{ℕ, ◌+◌, ◌-◌, ◌^◌, ◌==◌, ◌++◌, min, List, [], ◌∷◌, codes, decimal, if◌then◌else◌}
use Rattle.explanations.specs.declared.place.TextPlace.{TextPlace}

-- the place of the first octet
abbrev pub start : TextPlace
start = record { line = 1; column = 1 }

-- a count with one more, which stops at the last value of a usize
abbrev one_more : ℕ → ℕ
one_more n = min (n + 1) (2 ^ 64 - 1)

-- the place that follows that of an octet: behind a line feed a line begins
abbrev pub place_after : TextPlace → ℕ → TextPlace
place_after p octet =
    if octet == 10 then record { line = one_more p.line; column = 1 }
    else record { line = p.line; column = one_more p.column }

-- the place behind octets that begin at a place
unfoldable pub place_behind : TextPlace → List ℕ → TextPlace
place_behind p [] = p
place_behind p (octet ∷ octets) = place_behind (place_after p octet) octets

abbrev pub place_text : TextPlace → List ℕ
place_text p = codes "line " ++ (decimal p.line ++ (codes ", column " ++ decimal p.column))
