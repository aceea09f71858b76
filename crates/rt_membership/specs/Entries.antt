-- Entries: what is asked, as it is spelled (RFC 4684, section 4).
use Rattle.std.specs.Prelude.{◌≡◌, ℕ, ◌-◌, ◌*◌, ◌/◌, ◌^◌, List, ◌++◌, length, take, drop, Bool, IsTrue}
use Rattle.std.specs.List.{flat_map, AllByRecursion}
use Rattle.byteorder.specs.Endian.{big_bytes, big_number}
use Rattle.bgp_vpn.specs.Pieces.{are_pieces_behind, octets_for}
use Rattle.bgp_vpn.specs.Routes.{RouteFields, route_octets}
use Rattle.rt_membership.specs.declared.asked.Asked.{Asked}
use Rattle.rt_membership.specs.Asked.{is_length}

-- a length in bits, and as many octets as hold the bits (RFC 4271, section 4.3)
pub record IsEntry (r : RouteFields) : Type 0 where
  pub bits : IsTrue (is_length r.bits)
  pub whole : length r.octets ≡ octets_for r.bits

-- the octets are these, one after the other
pub record AreEntries (octets : List ℕ) (entries : List RouteFields) : Type 0 where
  pub spelled : octets ≡ flat_map route_octets entries
  pub each : AllByRecursion IsEntry entries

-- the test of octets that are entries
abbrev pub are_entries : List ℕ → Bool
are_entries = are_pieces_behind (λ bits behind. is_length bits) (λ bits behind. octets_for bits) 0

-- the octets begin with this entry, and these stand after it
pub record BeginsWithEntry (octets : List ℕ) (r : RouteFields) (after : List ℕ) : Type 0 where
  pub spelled : octets ≡ route_octets r ++ after
  pub is : IsEntry r

-- the first bits of a target that a prefix of so many bits has: the others are 0
abbrev pub first_bits : ℕ → ℕ → ℕ
first_bits length target = target / 2 ^ (96 - length) * 2 ^ (96 - length)

-- what an entry asks: octets that it does not have are 0, and so are bits past its length
abbrev pub asked_of : RouteFields → Asked
asked_of r = record {
  length = r.bits;
  origin = big_number 4 r.octets;
  target = record { 0 = first_bits r.bits (big_number 8 (drop 4 r.octets)) };
}

-- the octets of two entries of so many bits agree in these
pub record AgreeIn (bits : ℕ) (p q : List ℕ) : Type 0 where
  pub origin : big_number 4 p ≡ big_number 4 q
  pub target : big_number 8 (drop 4 p) / 2 ^ (96 - bits) ≡ big_number 8 (drop 4 q) / 2 ^ (96 - bits)

-- the entry of what is asked
abbrev pub entry_of : Asked → RouteFields
entry_of a = record {
  bits = a.length;
  octets = take (octets_for a.length) (big_bytes 4 a.origin ++ big_bytes 8 a.target.0);
}
