-- Spellings that a reader passes over.
use Rattle.std.specs.Prelude.{◌≡◌, ℕ, ◌-◌, ◌/◌, ◌^◌, List, ◌∷◌, ◌++◌}
use Rattle.byteorder.specs.Endian.{big_bytes, big_number}
use Rattle.bgp_vpn.specs.Routes.{RouteFields}

-- a route of so many bits, by its label field, its distinguisher and the octets of its prefix
abbrev pub spelled_route : ℕ → ℕ → ℕ → List ℕ → RouteFields
spelled_route bits field rd prefix = record { bits = bits; octets = big_bytes 3 field ++ (big_bytes 8 rd ++ prefix) }

-- the octets of two prefixes agree in their first bits
abbrev pub AgreeIn : ℕ → List ℕ → List ℕ → Type 0
AgreeIn len p q = big_number 4 p / 2 ^ (32 - len) ≡ big_number 4 q / 2 ^ (32 - len)

-- a value of MP_REACH_NLRI for VPN-IPv4 routes, by the first octets of its next hop, the next hop, the reserved octet
-- and the octets of its routes
abbrev pub reach_value : List ℕ → ℕ → ℕ → List ℕ → List ℕ
reach_value first hop reserved routes = 0 ∷ 1 ∷ 128 ∷ 12 ∷ (first ++ (big_bytes 4 hop ++ reserved ∷ routes))
