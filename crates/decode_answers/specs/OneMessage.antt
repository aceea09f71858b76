-- Octets that are exactly one message.
use Rattle.std.specs.Prelude.{ℕ, ◌+◌, ◌==◌, ◌&&◌, ◌||◌, not, nat_eq, nat_le, List, length, take, drop}
use Rattle.std.specs.Prelude.{Bool, true, false}
use Rattle.std.specs.List.{list_all}
use Rattle.std.specs.Cmp.Lexicographic.{pointwise}
use Rattle.bgp_wire.specs.Content.{OpenFields, UpdateFields, Content, Opens, Updates, Notifies, KeepsAlive}
use Rattle.bgp_wire.specs.Parts.{Part}
use Rattle.bgp_wire.specs.Capabilities.{parameters_in}
use Rattle.bgp_wire.specs.Opens.{my_as_at, hold_at, id_at}
use Rattle.bgp_wire.specs.Updates.{withdrawn_length_at, attributes_length_at}
use Rattle.bgp_wire.specs.Messages.{BeginsWith}
use Rattle.bgp_wire.specs.Spelling.{spelling}

-- the octets are one OPEN of these fields, and nothing else
abbrev pub IsOneOpen : List ℕ → OpenFields → Type 0
IsOneOpen octets fields = BeginsWith octets (Opens fields) (length octets)

-- the octets are one UPDATE of these parts, and nothing else
abbrev pub IsOneUpdate : List ℕ → UpdateFields → Type 0
IsOneUpdate octets parts = BeginsWith octets (Updates parts) (length octets)

abbrev pub is_open : Content → Bool
is_open (Opens fields) = true
is_open (Updates parts) = false
is_open (Notifies code subcode) = false
is_open KeepsAlive = false

abbrev pub is_update : Content → Bool
is_update (Opens fields) = false
is_update (Updates parts) = true
is_update (Notifies code subcode) = false
is_update KeepsAlive = false

-- the octets are what this spells, and no more than a message may have (RFC 4271, section 4.1)
abbrev pub is_spelled_by : Content → List ℕ → Bool
is_spelled_by content octets = nat_le (length octets) 4096 && pointwise nat_eq (spelling content) octets

-- what stands in the body of an OPEN
abbrev pub open_in : List ℕ → OpenFields
open_in body = record {
  my_as = my_as_at body;
  hold = hold_at body;
  id = id_at body;
  parameters = parameters_in (drop 10 body);
}

-- capabilities 1 and 65 have four octets (RFC 4760, section 8; RFC 6793, section 3)
abbrev pub is_capability : Part → Bool
is_capability c = not (c.kind == 1 || c.kind == 65) || length c.value == 4

-- the Hold Time is neither 1 nor 2, the identifier is not 0, and the capabilities are good (RFC 4271, section 6.2)
abbrev pub is_acceptable : OpenFields → Bool
is_acceptable o =
    not (o.hold == 1 || o.hold == 2) && (not (o.id == 0) && list_all (λ ps. list_all is_capability ps) o.parameters)

-- the octets are exactly one OPEN: that of what stands in them
unfoldable pub is_one_open : List ℕ → Bool
is_one_open octets =
    is_spelled_by (Opens (open_in (drop 19 octets))) octets && is_acceptable (open_in (drop 19 octets))

-- what stands in the body of an UPDATE
abbrev pub update_in : List ℕ → UpdateFields
update_in body = record {
  withdrawn = take (withdrawn_length_at body) (drop 2 body);
  attributes = take (attributes_length_at body) (drop (4 + withdrawn_length_at body) body);
  routes = drop (4 + withdrawn_length_at body + attributes_length_at body) body;
}

-- the octets are exactly one UPDATE: that of what stands in them
unfoldable pub is_one_update : List ℕ → Bool
is_one_update octets = is_spelled_by (Updates (update_in (drop 19 octets))) octets
