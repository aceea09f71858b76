-- Octets that are pieces, one after the other, each of which says by its first octets how long it is.
use Rattle.std.specs.Prelude.{ℕ, zero, suc, ◌+◌, ◌*◌, ◌/◌, ◌==◌, ◌&&◌, ◌||◌, nat_lt, nat_le, List, [], ◌∷◌, slice_index}
use Rattle.std.specs.Prelude.{Bool, true, false, if◌then◌else◌}

-- octets that are n octets of a piece and then pieces: good says whether a piece may begin with an octet and those
-- behind it, and len how many octets it has behind its first
abbrev pub are_pieces_behind : (ℕ → List ℕ → Bool) → (ℕ → List ℕ → ℕ) → ℕ → List ℕ → Bool
are_pieces_behind good len zero [] = true
are_pieces_behind good len (suc n) [] = false
are_pieces_behind good len zero (x ∷ xs) = good x xs && are_pieces_behind good len (len x xs) xs
are_pieces_behind good len (suc n) (x ∷ xs) = are_pieces_behind good len n xs

-- how many octets hold so many bits
abbrev pub octets_for : ℕ → ℕ
octets_for bits = (bits + 7) / 8

-- routes: each a length in bits between these bounds, and as many octets as hold the bits (RFC 4271, section 4.3)
abbrev pub are_prefixes : ℕ → ℕ → List ℕ → Bool
are_prefixes least greatest =
    are_pieces_behind (λ bits behind. nat_le least bits && nat_le bits greatest) (λ bits behind. octets_for bits) 0

-- how many octets the number of an autonomous system has, by whether it is read wide (RFC 6793, section 4.1)
abbrev pub number_size : Bool → ℕ
number_size wide = if wide then 4 else 2

-- segments of an AS_PATH: each a type, AS_SET or AS_SEQUENCE, a count of at least one, and as many numbers of so many
-- octets (RFC 4271, section 4.3)
abbrev pub are_segments : ℕ → List ℕ → Bool
are_segments size =
    are_pieces_behind (λ kind behind. (kind == 1 || kind == 2) && nat_lt 0 (slice_index behind 0))
    (λ kind behind. 1 + size * slice_index behind 0) 0
