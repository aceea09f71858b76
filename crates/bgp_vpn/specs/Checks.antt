-- The checks on an UPDATE (RFC 4271, section 6.3; RFC 4760, section 7), in the order in which they are made.
use Rattle.std.specs.Prelude.{ℕ, ◌==◌, ◌&&◌, ◌||◌, ◌%◌, not, nat_lt, List, [], ◌∷◌, ◌++◌, length, slice_index, drop}
use Rattle.std.specs.Prelude.{Bool, Option, Some, None, if◌then◌else◌, is_some, bit_and}
use Rattle.std.specs.List.{list_any}
use Rattle.byteorder.specs.Endian.{big_number}
use Rattle.bgp_wire.specs.declared.fault.WireFault.{WireFault}
use Rattle.bgp_wire.specs.Content.{UpdateFields}
use Rattle.bgp_wire.specs.Faults.{fault, fault_if, ◌then_check◌, malformed_attributes}
use Rattle.bgp_wire.specs.Attributes.{AttributeFields}
use Rattle.bgp_vpn.specs.declared.reading.Reading.{Reading}
use Rattle.bgp_vpn.specs.Pieces.{are_prefixes, number_size, are_segments}
use Rattle.bgp_vpn.specs.Profile.{row_of, flags_in, least_in, greatest_in, subcode_in}
use Rattle.bgp_vpn.specs.Values.{value_at, is_vpn, are_routes, is_reach}

-- the UPDATE message errors besides a malformed list of attributes
abbrev pub unrecognized_well_known : WireFault
unrecognized_well_known = fault 3 2

abbrev pub missing_well_known : WireFault
missing_well_known = fault 3 3

abbrev pub attribute_flags : WireFault
attribute_flags = fault 3 4

abbrev pub invalid_origin : WireFault
invalid_origin = fault 3 6

abbrev pub invalid_next_hop : WireFault
invalid_next_hop = fault 3 8

abbrev pub optional_attribute : WireFault
optional_attribute = fault 3 9

abbrev pub invalid_network : WireFault
invalid_network = fault 3 10

abbrev pub malformed_as_path : WireFault
malformed_as_path = fault 3 11

-- 1.0.0.0 to 223.255.255.255
abbrev pub is_host : ℕ → Bool
is_host address = not (nat_lt address 0x0100_0000 || nat_lt 0xDFFF_FFFF address)

-- the check on the value of an attribute; a NEXT_HOP is looked at only where plain routes follow
abbrev pub value_fault : Reading → ℕ → List ℕ → Option WireFault
value_fault reading kind value =
    if kind == 1 then fault_if (nat_lt 2 (slice_index value 0)) invalid_origin
    else (if kind == 2 then fault_if (not (are_segments (number_size reading.wide) value)) malformed_as_path
    else (if kind == 3 then fault_if (reading.routes_follow && not (is_host (big_number 4 value))) invalid_next_hop
    else (if kind == 14 then fault_if (is_vpn value && not (is_reach value)) optional_attribute
    else (if kind == 15 then fault_if (is_vpn value && not (are_routes (drop 3 value))) optional_attribute
    else None))))

-- a length that the attribute's row does not have; extended communities have eight octets each
abbrev pub is_wrong_length : ℕ → ℕ → ℕ → Bool
is_wrong_length row kind len =
    nat_lt len (least_in row) || (nat_lt (greatest_in row) len || (kind == 16 && not (len % 8 == 0)))

-- the checks on an attribute of a row: the flags Optional and Transitive, the length, the value
abbrev pub known_fault : Reading → ℕ → AttributeFields → Option WireFault
known_fault reading row a =
    fault_if (not (bit_and a.flags 0xC0 == flags_in row)) attribute_flags
    then_check (fault_if (is_wrong_length row a.kind (length a.value)) (fault 3 (subcode_in row))
    then_check value_fault reading a.kind a.value)

-- the check on an attribute of no row: only an optional one is passed over
abbrev pub unknown_fault : AttributeFields → Option WireFault
unknown_fault a = fault_if (bit_and a.flags 0x80 == 0) unrecognized_well_known

abbrev pub fault_in_row : Reading → Option ℕ → AttributeFields → Option WireFault
fault_in_row reading None a = unknown_fault a
fault_in_row reading (Some row) a = known_fault reading row a

-- the checks on an attribute alone
abbrev pub own_fault : Reading → AttributeFields → Option WireFault
own_fault reading a = fault_in_row reading (row_of a.kind) a

-- an attribute of a type is among these
abbrev pub has_kind : List AttributeFields → ℕ → Bool
has_kind attributes kind = list_any (λ a. a.kind == kind) attributes

-- the checks on an attribute that stands behind others
abbrev pub attribute_fault : Reading → List AttributeFields → AttributeFields → Option WireFault
attribute_fault reading others a =
    fault_if (has_kind others a.kind) malformed_attributes then_check own_fault reading a

-- the first check that fails on attributes that stand behind others
abbrev pub attributes_fault : Reading → List AttributeFields → List AttributeFields → Option WireFault
attributes_fault reading others [] = None
attributes_fault reading others (a ∷ attributes) =
    attribute_fault reading others a then_check attributes_fault reading (others ++ a ∷ []) attributes

-- plain routes stand after the attributes
abbrev pub routes_follow_in : UpdateFields → Bool
routes_follow_in parts = not (length parts.routes == 0)

abbrev pub reading_of : Bool → UpdateFields → Reading
reading_of wide parts = record { wide = wide; routes_follow = routes_follow_in parts }

-- an attribute that is lacking, by whether plain routes follow and by which attributes are there: ORIGIN and AS_PATH go
-- with each route, and NEXT_HOP with each plain one
abbrev pub lacking_fault : (routes_follow reach origin as_path next_hop : Bool) → Option WireFault
lacking_fault routes_follow reach origin as_path next_hop =
    fault_if ((reach || routes_follow) && not (origin && as_path)) missing_well_known
    then_check fault_if (routes_follow && not next_hop) missing_well_known

-- an attribute that the message lacks
abbrev pub missing_fault : Bool → List AttributeFields → Option WireFault
missing_fault routes_follow attributes =
    lacking_fault routes_follow (is_some (value_at 14 attributes)) (is_some (value_at 1 attributes))
    (is_some (value_at 2 attributes)) (is_some (value_at 3 attributes))

-- the first check that fails on an UPDATE, which is read wide or not, and whose attributes are these and then a tail,
-- which is nothing or a cut attribute
abbrev pub update_fault : Bool → UpdateFields → List AttributeFields → List ℕ → Option WireFault
update_fault wide parts attributes tail =
    attributes_fault (reading_of wide parts) [] attributes
    then_check (fault_if (not (length tail == 0)) malformed_attributes
    then_check (fault_if (not (are_prefixes 0 32 parts.withdrawn)) invalid_network
    then_check (fault_if (not (are_prefixes 0 32 parts.routes)) invalid_network
    then_check missing_fault (routes_follow_in parts) attributes)))
