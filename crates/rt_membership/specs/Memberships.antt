-- What an UPDATE says of memberships, and what is wrong with one, by whether it is read wide.
use Rattle.std.specs.Prelude.{◌≡◌, ℕ, ◌+◌, ◌==◌, ◌&&◌, ◌||◌, not, nat_le, List, [], ◌++◌, map, length, drop, slice_index}
use Rattle.std.specs.Prelude.{Bool, false, Option, Some, None, if◌then◌else◌}
use Rattle.ov_sync.specs.declared.Delta.{Delta}
use Rattle.ov_sync.specs.declared.Delta.TheVariants.{Put, Drop}
use Rattle.bgp_wire.specs.declared.fault.WireFault.{WireFault}
use Rattle.bgp_wire.specs.Content.{UpdateFields}
use Rattle.bgp_wire.specs.Attributes.{AttributeFields, AreAttributes}
use Rattle.bgp_wire.specs.Faults.{fault_if, ◌then_check◌}
use Rattle.bgp_vpn.specs.Routes.{RouteFields}
use Rattle.bgp_vpn.specs.Values.{value_at}
use Rattle.bgp_vpn.specs.Checks.{update_fault, optional_attribute}
use Rattle.rt_membership.specs.declared.asked.Asked.{Asked}
use Rattle.rt_membership.specs.Entries.{AreEntries, are_entries, asked_of}

-- the family of a value of MP_REACH_NLRI or MP_UNREACH_NLRI is that of memberships: AFI 1 in two octets, and SAFI 132
-- (RFC 4684, section 4)
abbrev pub is_membership : List ℕ → Bool
is_membership value = slice_index value 0 == 0 && (slice_index value 1 == 1 && slice_index value 2 == 132)

-- how many octets stand before the entries of MP_REACH_NLRI: the family, the length of the next hop, the next hop, and a
-- reserved octet (RFC 4760, section 3)
abbrev pub before_reached : List ℕ → ℕ
before_reached value = 5 + slice_index value 3

-- how many octets stand before the entries of MP_UNREACH_NLRI: the family (RFC 4760, section 4)
abbrev pub before_withdrawn : List ℕ → ℕ
before_withdrawn value = 3

-- a value that has these octets, and entries behind them
abbrev pub is_whole : (List ℕ → ℕ) → List ℕ → Bool
is_whole before value = nat_le (before value) (length value) && are_entries (drop (before value) value)

-- a value of this family that is cut, or has an entry of another length
abbrev pub is_cut_value : (List ℕ → ℕ) → Option (List ℕ) → Bool
is_cut_value before None = false
is_cut_value before (Some value) = is_membership value && not (is_whole before value)

-- the octets of the entries of a value of this family
abbrev pub entries_behind : (List ℕ → ℕ) → Option (List ℕ) → List ℕ
entries_behind before None = []
entries_behind before (Some value) = if is_membership value then drop (before value) value else []

-- the octets of the entries that MP_UNREACH_NLRI withdraws
abbrev pub withdrawn_octets : List AttributeFields → List ℕ
withdrawn_octets attributes = entries_behind before_withdrawn (value_at 15 attributes)

-- the octets of the entries that MP_REACH_NLRI announces
abbrev pub announced_octets : List AttributeFields → List ℕ
announced_octets attributes = entries_behind before_reached (value_at 14 attributes)

-- one of the two values is cut
abbrev pub has_cut_value : List AttributeFields → Bool
has_cut_value attributes =
    is_cut_value before_withdrawn (value_at 15 attributes) || is_cut_value before_reached (value_at 14 attributes)

-- the checks on every UPDATE, and then that on memberships (RFC 4760, section 7)
abbrev pub membership_fault : Bool → UpdateFields → List AttributeFields → List ℕ → Option WireFault
membership_fault wide parts attributes tail =
    update_fault wide parts attributes tail then_check fault_if (has_cut_value attributes) optional_attribute

abbrev pub dropped : RouteFields → Delta Asked Unit
dropped r = Drop (asked_of r)

abbrev pub put : RouteFields → Delta Asked Unit
put r = Put (asked_of r) tt

-- an UPDATE that passes all checks makes these changes: what is withdrawn is no longer asked, and then what is announced
-- is, in order
pub record Asks (wide : Bool) (parts : UpdateFields) (deltas : List (Delta Asked Unit)) : Type 0 where
  pub attributes : List AttributeFields
  pub withdrawn : List RouteFields
  pub announced : List RouteFields
  pub are : AreAttributes parts.attributes attributes []
  pub passes : membership_fault wide parts attributes [] ≡ None
  pub withdrawn_are : AreEntries (withdrawn_octets attributes) withdrawn
  pub announced_are : AreEntries (announced_octets attributes) announced
  pub made : deltas ≡ map dropped withdrawn ++ map put announced

-- the first check that fails on an UPDATE gives this fault
pub record HasMembershipFault (wide : Bool) (parts : UpdateFields) (f : WireFault) : Type 0 where
  pub attributes : List AttributeFields
  pub tail : List ℕ
  pub are : AreAttributes parts.attributes attributes tail
  pub fails : membership_fault wide parts attributes tail ≡ Some f
