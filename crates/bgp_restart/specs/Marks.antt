-- What a peer says of restarting: the capability Graceful Restart, and the mark of the end of its first routes (RFC
-- 4724, sections 2 and 3).
use Rattle.std.specs.Prelude.{◌≡◌, ℕ, ◌==◌, ◌&&◌, ◌%◌, ◌+◌, ◌*◌, not, List, [], ◌∷◌, length, drop, bit_and}
use Rattle.std.specs.Prelude.{Bool, Option, Some, None, if◌then◌else◌, option_map, unwrap_or}
use Rattle.std.specs.List.{list_any}
use Rattle.std.specs.Option.{option_or}
use Rattle.bgp_wire.specs.Content.{OpenFields, UpdateFields}
use Rattle.bgp_wire.specs.Parts.{Part}
use Rattle.bgp_wire.specs.Opens.{capabilities_of}
use Rattle.bgp_wire.specs.Attributes.{AttributeFields, AreAttributes}

-- the value of the last capability of this kind
abbrev pub last_value : ℕ → List Part → Option (List ℕ)
last_value kind [] = None
last_value kind (c ∷ later) = option_or (last_value kind later) (if c.kind == kind then Some c.value else None)

-- a family of addresses, and its flags
pub record Family : Type 0 where
  pub afi : ℕ
  pub safi : ℕ
  pub flags : ℕ

-- one after the other, each AFI in two octets, SAFI and flags; fewer than four octets at the end are none
abbrev pub families : List ℕ → List Family
families (high ∷ low ∷ safi ∷ flags ∷ rest) =
    record { afi = 256 * high + low; safi = safi; flags = flags } ∷ families rest
families _ = []

-- the families of a value of Graceful Restart, which has two octets, flags and time, and then four for each family; a
-- value of another length says nothing
abbrev pub families_of : List ℕ → List Family
families_of value = if length value % 4 == 2 then families (drop 2 value) else []

-- the families that an OPEN names: those of its last capability 64, where there is one
abbrev pub named_in : OpenFields → List Family
named_in o = unwrap_or (option_map families_of (last_value 64 (capabilities_of o))) []

-- VPN-IPv4 routes
abbrev pub is_vpn : Family → Bool
is_vpn f = f.afi == 1 && f.safi == 128

-- the flag Forwarding State
abbrev pub is_preserved : Family → Bool
is_preserved f = not (bit_and f.flags 0x80 == 0)

abbrev pub is_kept : Family → Bool
is_kept f = is_vpn f && is_preserved f

abbrev pub named : OpenFields → Bool
named o = list_any is_vpn (named_in o)

abbrev pub kept : OpenFields → Bool
kept o = list_any is_kept (named_in o)

-- an UPDATE that marks the end of the first VPN-IPv4 routes: it says nothing but that no such route is withdrawn
pub record IsEnd (parts : UpdateFields) : Type 0 where
  pub no_withdrawn : parts.withdrawn ≡ []
  pub no_routes : parts.routes ≡ []
  pub only : AttributeFields
  pub alone : AreAttributes parts.attributes (only ∷ []) []
  pub kind : only.kind ≡ 15
  pub nothing : only.value ≡ 0 ∷ 1 ∷ 128 ∷ []
