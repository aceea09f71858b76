-- The path attributes of an UPDATE lie one after the other, each flags, a type, the length of a value, and the value
-- (RFC 4271, section 4.3).
use Rattle.std.specs.Prelude.{◌≡◌, ◌<◌, ◌+◌, ◌^◌, ◌==◌, not, ℕ, List, [], ◌∷◌, ◌++◌, length, Bool, if◌then◌else◌}
use Rattle.std.specs.Prelude.{bit_and, Option, Some, None, Ok, Err, Result, ◌⊎◌}
use Rattle.std.specs.List.{flat_map, AllByRecursion}
use Rattle.byteorder.specs.Endian.{big_bytes, big_number}
use Rattle.bgp_wire.specs.declared.fault.WireFault.{WireFault}
use Rattle.bgp_wire.specs.declared.attribute.Attribute.{Attribute}
use Rattle.bgp_wire.specs.Faults.{malformed_attributes}

-- what an attribute says
pub record AttributeFields : Type 0 where
  pub flags : ℕ
  pub kind : ℕ
  pub value : List ℕ

abbrev pub fields_of : Attribute → AttributeFields
fields_of a = record { flags = a.flags; kind = a.kind; value = a.value.now }

-- the flag Extended Length
abbrev pub is_extended : ℕ → Bool
is_extended flags = not (bit_and flags 0x10 == 0)

-- how many octets the length of the value has
abbrev pub length_size : ℕ → ℕ
length_size flags = if is_extended flags then 2 else 1

-- a value, and its length in so many octets before it
abbrev pub sized_value : ℕ → List ℕ → List ℕ
sized_value size value = big_bytes size (length value) ++ value

abbrev pub attribute_octets : AttributeFields → List ℕ
attribute_octets a = a.flags ∷ a.kind ∷ sized_value (length_size a.flags) a.value

-- the length of the value has room in its octets
abbrev pub FitsItsLength : AttributeFields → Type 0
FitsItsLength a = length a.value < 256 ^ length_size a.flags

-- octets that hold a length of so many octets, and then fewer octets than it says; or not even the length
abbrev pub IsShort : ℕ → List ℕ → Type 0
IsShort size octets = length octets < size + big_number size octets

-- octets that begin with an attribute whose head is cut, or whose value they do not hold whole
abbrev pub IsCut : List ℕ → Type 0
IsCut [] = ⊥
IsCut (flags ∷ []) = Unit {0}
IsCut (flags ∷ kind ∷ rest) = IsShort (length_size flags) rest

-- the octets begin with this attribute, and these stand after it
pub record BeginsWithAttribute (octets : List ℕ) (a : AttributeFields) (after : List ℕ) : Type 0 where
  pub spelled : octets ≡ attribute_octets a ++ after
  pub fits : FitsItsLength a

-- the octets are these attributes and then the tail, which is nothing, or begins with an attribute that is cut
pub record AreAttributes (octets : List ℕ) (attributes : List AttributeFields) (tail : List ℕ) : Type 0 where
  pub spelled : octets ≡ flat_map attribute_octets attributes ++ tail
  pub fit : AllByRecursion FitsItsLength attributes
  pub ends : (tail ≡ []) ⊎ IsCut tail

-- one step over octets: nothing where there are none, the attribute that they begin with, or a fault, which is the last
abbrev pub NextAttribute : List ℕ → Option (Result Attribute WireFault) → List ℕ → Type 0
NextAttribute octets None after = (octets ≡ []) × (after ≡ [])
NextAttribute octets (Some (Ok a)) after = BeginsWithAttribute octets (fields_of a) after
NextAttribute octets (Some (Err f)) after = IsCut octets × (f ≡ malformed_attributes) × (after ≡ [])

-- items say these attributes, each once and in order, and then one fault exactly where the tail is a cut attribute
abbrev pub SaysAll : List (Result Attribute WireFault) → List AttributeFields → List ℕ → Type 0
SaysAll [] attributes tail = (attributes ≡ []) × (tail ≡ [])
SaysAll ((Ok item) ∷ items) attributes tail =
    (others : List AttributeFields) × (attributes ≡ fields_of item ∷ others) × SaysAll items others tail
SaysAll ((Err f) ∷ items) attributes tail = (attributes ≡ []) × IsCut tail × (f ≡ malformed_attributes) × (items ≡ [])
