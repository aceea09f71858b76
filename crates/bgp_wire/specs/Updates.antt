-- The body of an UPDATE (RFC 4271, sections 4.3 and 6.3), up to its attributes.
use Rattle.std.specs.Prelude.{◌≡◌, ◌<◌, ◌^◌, ◌+◌, nat_lt, ℕ, List, ◌++◌, length, drop, Option}
use Rattle.byteorder.specs.Endian.{big_bytes, big_number}
use Rattle.bgp_wire.specs.declared.fault.WireFault.{WireFault}
use Rattle.bgp_wire.specs.Content.{UpdateFields}
use Rattle.bgp_wire.specs.Faults.{fault_if, ◌then_check◌, malformed_attributes}

-- the withdrawn routes behind their length, the attributes behind theirs, and the routes
abbrev pub update_octets : UpdateFields → List ℕ
update_octets parts =
    big_bytes 2 (length parts.withdrawn) ++ parts.withdrawn
    ++ (big_bytes 2 (length parts.attributes) ++ parts.attributes ++ parts.routes)

-- the body of an UPDATE, by its parts
pub record IsUpdate (body : List ℕ) (parts : UpdateFields) : Type 0 where
  pub spelled : body ≡ update_octets parts
  pub withdrawn_length : length parts.withdrawn < 2 ^ 16
  pub attributes_length : length parts.attributes < 2 ^ 16

abbrev pub withdrawn_length_at : List ℕ → ℕ
withdrawn_length_at body = big_number 2 body

-- the length of the attributes stands behind the withdrawn routes
abbrev pub attributes_length_at : List ℕ → ℕ
attributes_length_at body = big_number 2 (drop (2 + withdrawn_length_at body) body)

-- lengths that do not fit into the body
abbrev pub update_fault : List ℕ → Option WireFault
update_fault body =
    fault_if (nat_lt (length body) (4 + withdrawn_length_at body)) malformed_attributes
    then_check
    fault_if (nat_lt (length body) (4 + withdrawn_length_at body + attributes_length_at body)) malformed_attributes
