-- What is written of a change of what is asked: an UPDATE of one entry.
use Rattle.std.specs.Prelude.{Bool, ℕ, ◌<◌, ◌^◌, List, [], ◌∷◌, ◌++◌}
use Rattle.std.specs.List.{flat_map}
use Rattle.byteorder.specs.Endian.{big_bytes}
use Rattle.ov_types.specs.declared.prefix.Addr.{Addr}
use Rattle.ov_sync.specs.declared.Delta.{Delta}
use Rattle.ov_sync.specs.declared.Delta.TheVariants.{Put, Drop}
use Rattle.bgp_wire.specs.Attributes.{AttributeFields, attribute_octets}
use Rattle.bgp_wire.specs.Content.{UpdateFields, Content, Updates}
use Rattle.bgp_wire.specs.Spelling.{attributes_alone}
use Rattle.bgp_vpn.specs.Routes.{route_octets}
use Rattle.bgp_vpn.specs.Written.{attribute, origin, as_path, local_preference}
use Rattle.rt_membership.specs.declared.asked.Asked.{Asked}
use Rattle.rt_membership.specs.Entries.{entry_of}
use Rattle.rt_membership.specs.Memberships.{Asks}

-- a value of MP_REACH_NLRI for memberships, by its next hop, the reserved octet and the octets of its entries (RFC 4760,
-- section 3)
abbrev pub reach_value : ℕ → List ℕ → ℕ → List ℕ → List ℕ
reach_value size next_hop reserved entries = 0 ∷ 1 ∷ 132 ∷ size ∷ (next_hop ++ reserved ∷ entries)

-- the value of MP_REACH_NLRI: the next hop has four octets
abbrev pub written_reach : Asked → Addr → List ℕ
written_reach asked next_hop = reach_value 4 (big_bytes 4 next_hop.0) 0 (route_octets (entry_of asked))

-- the value of MP_UNREACH_NLRI
abbrev pub written_unreach : Asked → List ℕ
written_unreach asked = 0 ∷ 1 ∷ 132 ∷ route_octets (entry_of asked)

-- the attributes of a change, each with the flags of its type
abbrev pub attributes_of : Delta Asked Unit → Addr → List AttributeFields
attributes_of (Put asked _) next_hop =
    origin ∷ as_path ∷ local_preference ∷ attribute 0x80 14 (written_reach asked next_hop) ∷ []
attributes_of (Drop asked) next_hop = attribute 0x80 15 (written_unreach asked) ∷ []

-- the parts of the UPDATE of a change
abbrev pub written_parts : Delta Asked Unit → Addr → UpdateFields
written_parts delta next_hop = attributes_alone (flat_map attribute_octets (attributes_of delta next_hop))

-- what the message of a change says
abbrev pub written : Delta Asked Unit → Addr → Content
written delta next_hop = Updates (written_parts delta next_hop)

-- what holds of the numbers of what is asked
pub record FitsItsTypes (asked : Asked) : Type 0 where
  pub origin : asked.origin < 2 ^ 32
  pub target : asked.target.0 < 2 ^ 64

-- the UPDATE of a change makes that change, whether it is read wide or not
pub record MakesIt (delta : Delta Asked Unit) (next_hop : Addr) : Type 0 where
  pub change : (wide : Bool) → Asks wide (written_parts delta next_hop) (delta ∷ [])
