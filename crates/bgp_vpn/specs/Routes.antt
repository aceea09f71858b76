-- VPN-IPv4 routes (RFC 4364, section 4.3.4; RFC 8277, section 2).
use Rattle.std.specs.Prelude.{◌≡◌, ◌≤◌, nat_le, ◌&&◌, ℕ, zero, suc, ◌-◌, ◌*◌, ◌/◌, ◌^◌, List, [], ◌∷◌, ◌++◌, length}
use Rattle.std.specs.Prelude.{take, drop, Bool, if◌then◌else◌}
use Rattle.std.specs.List.{flat_map, AllByRecursion}
use Rattle.byteorder.specs.Endian.{big_number}
use Rattle.ov_types.specs.Prefix.{Block}
use Rattle.ov_types.specs.declared.prefix.Addr.{Addr}
use Rattle.ov_types.specs.declared.numbers.Rd.{Rd}
use Rattle.ov_types.specs.declared.numbers.Label.{Label}
use Rattle.ov_types.specs.declared.targets.Target.{Target}
use Rattle.ov_types.specs.declared.vpn.VpnKey.{VpnKey}
use Rattle.ov_types.specs.declared.vpn.VpnRoute.{VpnRoute}
use Rattle.ov_sync.specs.declared.Delta.{Delta}
use Rattle.ov_sync.specs.declared.Delta.TheVariants.{Put, Drop}
use Rattle.bgp_vpn.specs.Pieces.{octets_for}

-- a route as it is spelled: its length in bits, and its octets, which are a label field of three octets, a
-- distinguisher of eight, and the prefix
pub record RouteFields : Type 0 where
  pub bits : ℕ
  pub octets : List ℕ

abbrev pub route_octets : RouteFields → List ℕ
route_octets r = r.bits ∷ r.octets

-- a length in bits between these bounds, and as many octets as hold the bits (RFC 4271, section 4.3)
pub record IsPrefix (least greatest : ℕ) (r : RouteFields) : Type 0 where
  pub low : least ≤ r.bits
  pub high : r.bits ≤ greatest
  pub whole : length r.octets ≡ octets_for r.bits

-- the octets are these, one after the other
pub record ArePrefixes (least greatest : ℕ) (octets : List ℕ) (prefixes : List RouteFields) : Type 0 where
  pub spelled : octets ≡ flat_map route_octets prefixes
  pub each : AllByRecursion (IsPrefix least greatest) prefixes

-- a label field and a distinguisher have 88 bits, and a prefix at most 32
abbrev pub IsRoute : RouteFields → Type 0
IsRoute = IsPrefix 88 120

abbrev pub AreRoutes : List ℕ → List RouteFields → Type 0
AreRoutes = ArePrefixes 88 120

-- the octets begin with this route, and these stand after it
pub record BeginsWithRoute (octets : List ℕ) (r : RouteFields) (after : List ℕ) : Type 0 where
  pub spelled : octets ≡ route_octets r ++ after
  pub is : IsRoute r

-- behind its length a route is whole
abbrev pub is_whole_route : ℕ → List ℕ → Bool
is_whole_route bits rest = nat_le 88 bits && (nat_le bits 120 && nat_le (octets_for bits) (length rest))

-- the first whole routes that octets hold, no more than so many
abbrev pub routes_below : ℕ → List ℕ → List RouteFields
routes_below zero octets = []
routes_below (suc most) [] = []
routes_below (suc most) (bits ∷ rest) =
    if is_whole_route bits rest
    then record { bits = bits; octets = take (octets_for bits) rest } ∷ routes_below most (drop (octets_for bits) rest)
    else []

-- the whole routes that octets hold, as a list; it ends before octets that begin with none
unfoldable pub routes_in : List ℕ → List RouteFields
routes_in octets = routes_below (length octets) octets

-- the first bits of an address: the others are 0
abbrev pub first_bits : ℕ → ℕ → Block
first_bits len address = record { addr = address / 2 ^ (32 - len) * 2 ^ (32 - len); len = len }

-- the label is the upper 20 bits of its field (RFC 3032, section 2.1)
abbrev pub label_of : RouteFields → Label
label_of r = record { 0 = big_number 3 r.octets / 16 }

abbrev pub distinguisher_of : RouteFields → Rd
distinguisher_of r = record { 0 = big_number 8 (drop 3 r.octets) }

-- octets that the prefix does not have are 0
abbrev pub prefix_of : RouteFields → Block
prefix_of r = first_bits (r.bits - 88) (big_number 4 (drop 11 r.octets))

abbrev pub key_of : RouteFields → VpnKey
key_of r = record { rd = distinguisher_of r; prefix = prefix_of r }

-- what a route leads to, with the next hop and the targets of its UPDATE
abbrev pub value_of : Addr → List Target → RouteFields → VpnRoute
value_of next_hop targets r = record { next_hop = next_hop; label = label_of r; targets = targets }

abbrev pub drop_of : RouteFields → Delta VpnKey VpnRoute
drop_of r = Drop (key_of r)

abbrev pub put_of : Addr → List Target → RouteFields → Delta VpnKey VpnRoute
put_of next_hop targets r = Put (key_of r) (value_of next_hop targets r)
