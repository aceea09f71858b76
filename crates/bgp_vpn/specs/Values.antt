-- What the values of attributes say.
use Rattle.std.specs.Prelude.{ℕ, ◌==◌, ◌&&◌, nat_le, List, [], ◌∷◌, drop, length, slice_index, Bool, Option, Some, None}
use Rattle.std.specs.Prelude.{if◌then◌else◌, unwrap_or, find}
use Rattle.std.specs.Option.{option_map}
use Rattle.std.specs.List.{fold}
use Rattle.byteorder.specs.Endian.{big_number}
use Rattle.ov_types.specs.declared.prefix.Addr.{Addr}
use Rattle.ov_types.specs.declared.targets.Target.{Target}
use Rattle.ov_types.specs.Targets.{with_target, is_target}
use Rattle.bgp_wire.specs.Attributes.{AttributeFields}
use Rattle.bgp_vpn.specs.Pieces.{are_prefixes}

-- the value of the attribute of a type
abbrev pub value_at : ℕ → List AttributeFields → Option (List ℕ)
value_at kind attributes = option_map (λ a. a.value) (find (λ a. a.kind == kind) attributes)

-- the family of a value of MP_REACH_NLRI or MP_UNREACH_NLRI is that of VPN-IPv4 routes: AFI 1 in two octets, and SAFI
-- 128 (RFC 4364, section 4.3.4)
abbrev pub is_vpn : List ℕ → Bool
is_vpn value = slice_index value 0 == 0 && (slice_index value 1 == 1 && slice_index value 2 == 128)

abbrev pub are_routes : List ℕ → Bool
are_routes = are_prefixes 88 120

-- a value of MP_REACH_NLRI for VPN-IPv4 routes: behind the family the length of the next hop, which is 12, the next
-- hop, a reserved octet and routes (RFC 4760, section 3)
abbrev pub is_reach : List ℕ → Bool
is_reach value = slice_index value 3 == 12 && (nat_le 17 (length value) && are_routes (drop 17 value))

-- the octets of VPN-IPv4 routes that stand behind so many of a value
abbrev pub routes_behind : ℕ → Option (List ℕ) → List ℕ
routes_behind n None = []
routes_behind n (Some value) = if is_vpn value then drop n value else []

-- the octets of the routes that MP_UNREACH_NLRI withdraws
abbrev pub withdrawn_octets : List AttributeFields → List ℕ
withdrawn_octets attributes = routes_behind 3 (value_at 15 attributes)

-- the octets of the routes that MP_REACH_NLRI announces
abbrev pub reached_octets : List AttributeFields → List ℕ
reached_octets attributes = routes_behind 17 (value_at 14 attributes)

-- the next hop is a VPN-IPv4 address: a distinguisher, which is passed over, and an IPv4 address (RFC 4364, section
-- 4.3.2)
abbrev pub next_hop_of : Option (List ℕ) → Addr
next_hop_of reach = record { 0 = big_number 4 (drop 12 (unwrap_or reach [])) }

abbrev pub next_hop_in : List AttributeFields → Addr
next_hop_in attributes = next_hop_of (value_at 14 attributes)

-- extended communities, each eight octets as a number
abbrev pub communities : List ℕ → List ℕ
communities (a ∷ b ∷ c ∷ d ∷ e ∷ f ∷ g ∷ h ∷ rest) =
    big_number 8 (a ∷ b ∷ c ∷ d ∷ e ∷ f ∷ g ∷ h ∷ []) ∷ communities rest
communities _ = []

-- a community among these targets, where it is one
abbrev pub with_community : List Target → ℕ → List Target
with_community targets community =
    if is_target community then with_target (record { 0 = community }) targets else targets

-- the targets among extended communities, ascending and distinct
abbrev pub targets_among : List ℕ → List Target
targets_among value = fold with_community [] (communities value)

abbrev pub targets_in : List AttributeFields → List Target
targets_in attributes = targets_among (unwrap_or (value_at 16 attributes) [])
