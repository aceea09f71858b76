-- What is written of a change: an UPDATE of one route.
use Rattle.std.specs.Prelude.{ℕ, Bool, ◌<◌, ◌+◌, ◌*◌, ◌^◌, IsTrue, List, [], ◌∷◌, take, replicate}
use Rattle.std.specs.List.{flat_map}
use Rattle.byteorder.specs.Endian.{big_bytes}
use Rattle.ov_types.specs.Prefix.{Block, is_prefix}
use Rattle.ov_types.specs.declared.numbers.Label.{Label}
use Rattle.ov_types.specs.declared.targets.Target.{Target}
use Rattle.ov_types.specs.declared.vpn.VpnKey.{VpnKey}
use Rattle.ov_types.specs.declared.vpn.VpnRoute.{VpnRoute}
use Rattle.ov_sync.specs.declared.Delta.{Delta}
use Rattle.ov_sync.specs.declared.Delta.TheVariants.{Put, Drop}
use Rattle.bgp_wire.specs.Attributes.{AttributeFields, attribute_octets}
use Rattle.bgp_wire.specs.Content.{UpdateFields, Content, Updates}
use Rattle.bgp_wire.specs.Spelling.{attributes_alone}
use Rattle.bgp_vpn.specs.Pieces.{octets_for}
use Rattle.bgp_vpn.specs.Routes.{RouteFields, route_octets}
use Rattle.bgp_vpn.specs.Spellings.{spelled_route, reach_value}
use Rattle.bgp_vpn.specs.Updates.{Changes}

-- what a change says of the value that it puts, where it puts one
abbrev pub IfPut : Delta VpnKey VpnRoute → (VpnRoute → Type 0) → Type 0
IfPut (Put key route) P = P route
IfPut (Drop key) P = Unit {0}

-- what holds of the numbers of a key
pub record FitsItsTypes (key : VpnKey) : Type 0 where
  pub distinguisher : key.rd.0 < 2 ^ 64
  pub address : key.prefix.addr < 2 ^ 32
  pub prefix : IsTrue (is_prefix key.prefix.addr key.prefix.len)

-- as many octets of an address as hold the bits of a prefix (RFC 4271, section 4.3)
abbrev pub prefix_octets : Block → List ℕ
prefix_octets p = take (octets_for p.len) (big_bytes 4 p.addr)

-- the route of a key, with this label field
abbrev pub route_of : VpnKey → ℕ → RouteFields
route_of key field = spelled_route (88 + key.prefix.len) field key.rd.0 (prefix_octets key.prefix)

-- a label, three bits that are 0, and the bottom of the stack, which is 1 (RFC 8277, section 2.2)
abbrev pub label_field : Label → ℕ
label_field label = label.0 * 16 + 1

-- the label field of a route that is withdrawn (RFC 8277, section 2.4)
abbrev pub withdrawn_field : ℕ
withdrawn_field = 0x800000

-- an attribute of these flags, this type and this value
abbrev pub attribute : ℕ → ℕ → List ℕ → AttributeFields
attribute flags kind value = record { flags = flags; kind = kind; value = value }

-- ORIGIN: the route comes from the speaker's own network
abbrev pub origin : AttributeFields
origin = attribute 0x40 1 (0 ∷ [])

-- AS_PATH: no autonomous system was passed
abbrev pub as_path : AttributeFields
as_path = attribute 0x40 2 []

-- LOCAL_PREF
abbrev pub local_preference : AttributeFields
local_preference = attribute 0x40 5 (big_bytes 4 100)

-- the value of MP_REACH_NLRI: the distinguisher of the next hop and the reserved octet are 0
abbrev pub written_reach : VpnKey → VpnRoute → List ℕ
written_reach key route =
    reach_value (replicate 8 0) route.next_hop.0 0 (route_octets (route_of key (label_field route.label)))

-- the value of MP_UNREACH_NLRI
abbrev pub written_unreach : VpnKey → List ℕ
written_unreach key = 0 ∷ 1 ∷ 128 ∷ route_octets (route_of key withdrawn_field)

abbrev pub target_octets : Target → List ℕ
target_octets t = big_bytes 8 t.0

-- EXTENDED COMMUNITIES: the targets, where there are some
abbrev pub communities_of : List Target → List AttributeFields
communities_of [] = []
communities_of (t ∷ targets) = attribute 0xC0 16 (flat_map target_octets (t ∷ targets)) ∷ []

-- the attributes of a change, each with the flags of its type
abbrev pub attributes_of : Delta VpnKey VpnRoute → List AttributeFields
attributes_of (Put key route) =
    origin ∷ as_path ∷ local_preference ∷ attribute 0x80 14 (written_reach key route) ∷ communities_of route.targets
attributes_of (Drop key) = attribute 0x80 15 (written_unreach key) ∷ []

-- the parts of the UPDATE of a change
abbrev pub written_parts : Delta VpnKey VpnRoute → UpdateFields
written_parts delta = attributes_alone (flat_map attribute_octets (attributes_of delta))

-- the UPDATE of a change makes that change, whether it is read wide or not
pub record MakesIt (delta : Delta VpnKey VpnRoute) : Type 0 where
  pub change : (wide : Bool) → Changes wide (written_parts delta) (delta ∷ [])

-- what the message of a change says
abbrev pub written : Delta VpnKey VpnRoute → Content
written delta = Updates (written_parts delta)
