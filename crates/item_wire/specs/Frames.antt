-- Records on a link: the length of the JSON in four octets, big-endian, and the octets of the JSON.
use Rattle.std.specs.Prelude.{ℕ, nat_lt, nat_le, List, ◌++◌, length, take, drop, Option, Some, None, Result, Ok, Err}
use Rattle.std.specs.Prelude.{if◌then◌else◌, option_map}
use Rattle.std.specs.Borrow.{Bor}
use Rattle.byteorder.specs.Endian.{big_bytes, big_number}
use Rattle.item_wire.specs.declared.framing.TooLong.{TooLong}

-- a record on a link
abbrev pub framed : List ℕ → List ℕ
framed json = big_bytes 4 (length json) ++ json

-- the first octets, where there are so many
abbrev pub first_octets : ℕ → List ℕ → Option (List ℕ)
first_octets size octets = if nat_lt (length octets) size then None else Some (take size octets)

-- the first so many octets, which are at most 65,536
abbrev pub limited : ℕ → List ℕ → Result (Option (List ℕ)) TooLong
limited size octets = if nat_le size 65536 then Ok (first_octets size octets) else Err (record { length = size })

-- the octets of JSON of the first record; none where more octets are needed
abbrev pub frame_of : List ℕ → Result (Option (List ℕ)) TooLong
frame_of octets = if nat_lt (length octets) 4 then Ok None else limited (big_number 4 octets) (drop 4 octets)

-- what is lent, as it reads
abbrev pub octets_seen : Result (Option (Bor (List ℕ))) TooLong → Result (Option (List ℕ)) TooLong
octets_seen (Ok lent) = Ok (option_map (λ octets. octets.now) lent)
octets_seen (Err e) = Err e
