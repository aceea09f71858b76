-- The body of an OPEN (RFC 4271, sections 4.2 and 6.2), with its capabilities (RFC 5492, section 4).
use Rattle.std.specs.Prelude.{◌≡◌, ◌≢◌, ◌<◌, ◌^◌, ◌+◌, ◌==◌, ◌||◌, not, ℕ, List, [], ◌∷◌, ◌++◌, length, drop}
use Rattle.std.specs.Prelude.{slice_index, Bool, Option, MatchOption, ◌⊎◌, find, is_some, unwrap_or}
use Rattle.std.specs.List.{flat_map, AllByRecursion}
use Rattle.std.specs.Option.{option_map}
use Rattle.byteorder.specs.Endian.{big_bytes, big_number}
use Rattle.bgp_wire.specs.declared.fault.WireFault.{WireFault}
use Rattle.bgp_wire.specs.Content.{OpenFields}
use Rattle.bgp_wire.specs.Faults.{fault_if, ◌then_check◌, unspecific_open, unsupported_version, bad_identifier}
use Rattle.bgp_wire.specs.Faults.{unsupported_parameter, unacceptable_hold_time}
use Rattle.bgp_wire.specs.Parts.{Part, octets_of, IsOverrun, BeginsWithPart, PartsThen, AreParts}

-- capability 1, of an address family, and 65, of a number of four octets, have four octets (RFC 4760, section 8; RFC
-- 6793, section 3)
abbrev pub HasFourOctets : Part → Type 0
HasFourOctets c = (c.kind ≡ 1) ⊎ (c.kind ≡ 65)

-- others are passed over
abbrev pub IsCapability : Part → Type 0
IsCapability c = HasFourOctets c → length c.value ≡ 4

abbrev pub IsMalformedCapability : Part → Type 0
IsMalformedCapability c = HasFourOctets c × (length c.value ≢ 4)

abbrev pub AreCapabilities : List ℕ → Type 0
AreCapabilities = AreParts IsCapability

-- the capabilities end before one that overruns or is malformed
abbrev pub AreBrokenCapabilities : List ℕ → Type 0
AreBrokenCapabilities = PartsThen IsCapability (λ rest. IsOverrun rest ⊎ BeginsWithPart IsMalformedCapability rest)

-- the only parameter is 2, capabilities
abbrev pub IsParameter : Part → Type 0
IsParameter p = (p.kind ≡ 2) × AreCapabilities p.value

abbrev pub AreParameters : List ℕ → Type 0
AreParameters = AreParts IsParameter

-- the octets begin with a parameter of this fault
pub data IsFaultyParameter (rest : List ℕ) (f : WireFault) : Type 0 where
  overruns : IsOverrun rest → f ≡ unspecific_open → IsFaultyParameter rest f
  has_another_type : BeginsWithPart (λ p. p.kind ≢ 2) rest → f ≡ unsupported_parameter → IsFaultyParameter rest f
  has_broken_capabilities : BeginsWithPart (λ p. (p.kind ≡ 2) × AreBrokenCapabilities p.value) rest
      → f ≡ unspecific_open → IsFaultyParameter rest f

-- the first parameter that is no good has this fault
abbrev pub HasFaultyParameter : List ℕ → WireFault → Type 0
HasFaultyParameter octets f = PartsThen IsParameter (λ rest. IsFaultyParameter rest f) octets

-- a parameter of these capabilities
abbrev pub parameter_of : List Part → Part
parameter_of capabilities = record { kind = 2; value = flat_map octets_of capabilities }

-- parameters, by the capabilities of each
abbrev pub parameters_octets : List (List Part) → List ℕ
parameters_octets parameters = flat_map (λ capabilities. octets_of (parameter_of capabilities)) parameters

-- the version, which is 4, My Autonomous System, the Hold Time, the identifier, and the parameters behind their length
abbrev pub open_octets : OpenFields → List ℕ
open_octets fields =
    4 ∷ [] ++ big_bytes 2 fields.my_as ++ big_bytes 2 fields.hold ++ big_bytes 4 fields.id
    ++ length (parameters_octets fields.parameters) ∷ [] ++ parameters_octets fields.parameters

-- the capabilities of an OPEN, those of each parameter behind those of the ones before it
abbrev pub capabilities_of : OpenFields → List Part
capabilities_of fields = flat_map (λ capabilities. capabilities) fields.parameters

-- the number in the first capability 65, where there is one
abbrev pub four_octet_number : List Part → Option ℕ
four_octet_number capabilities = option_map (λ c. big_number 4 c.value) (find (λ c. c.kind == 65) capabilities)

-- the speaker says that it has numbers of autonomous systems of four octets
abbrev pub is_wide : OpenFields → Bool
is_wide fields = is_some (four_octet_number (capabilities_of fields))

-- the number of the speaker's autonomous system: that of the first capability 65, or My Autonomous System where there is
-- none (RFC 6793, section 4.1)
abbrev pub asn_of : OpenFields → ℕ
asn_of fields = unwrap_or (four_octet_number (capabilities_of fields)) fields.my_as

-- the body of an OPEN, by its fields
pub record IsOpen (body : List ℕ) (fields : OpenFields) : Type 0 where
  pub spelled : body ≡ open_octets fields
  pub my_as : fields.my_as < 2 ^ 16
  pub hold : fields.hold < 2 ^ 16
  pub id : fields.id < 2 ^ 32
  pub hold_time : (fields.hold ≢ 1) × (fields.hold ≢ 2)
  pub identifier : fields.id ≢ 0
  pub parameters : AllByRecursion (AllByRecursion IsCapability) fields.parameters

-- the fields that stand at fixed places of the body
abbrev pub version_at : List ℕ → ℕ
version_at body = slice_index body 0

abbrev pub my_as_at : List ℕ → ℕ
my_as_at body = big_number 2 (drop 1 body)

abbrev pub hold_at : List ℕ → ℕ
hold_at body = big_number 2 (drop 3 body)

abbrev pub id_at : List ℕ → ℕ
id_at body = big_number 4 (drop 5 body)

abbrev pub parameters_length_at : List ℕ → ℕ
parameters_length_at body = slice_index body 9

-- the first check that fails of those before the parameters
abbrev pub open_fault : List ℕ → Option WireFault
open_fault body =
    fault_if (not (version_at body == 4)) unsupported_version
    then_check (fault_if (hold_at body == 1 || hold_at body == 2) unacceptable_hold_time
    then_check (fault_if (id_at body == 0) bad_identifier
    then_check fault_if (not (10 + parameters_length_at body == length body)) unspecific_open))

-- the first check that fails on the body of an OPEN
abbrev pub HasOpenFault : List ℕ → WireFault → Type 0
HasOpenFault body f = MatchOption (open_fault body) (HasFaultyParameter (drop 10 body) f) (λ first. first ≡ f)
