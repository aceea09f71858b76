-- The capabilities of an OPEN where they lie.
use Rattle.std.specs.Prelude.{◌≡◌, ℕ, List, [], ◌∷◌, map, Option, Some, None}
use Rattle.std.specs.List.{flat_map}
use Rattle.bgp_wire.specs.declared.capability.Capability.{Capability}
use Rattle.bgp_wire.specs.Parts.{Part, parts_in}

abbrev pub part_of : Capability → Part
part_of c = record { kind = c.kind; value = c.value.now }

-- the parameters that lie in octets, by the capabilities of each
abbrev pub parameters_in : List ℕ → List (List Part)
parameters_in octets = map (λ p. parts_in p.value) (parts_in octets)

-- the capabilities of each, one parameter after the other
abbrev pub capabilities_in : List ℕ → List Part
capabilities_in octets = flat_map (λ capabilities. capabilities) (parameters_in octets)

-- one step over capabilities: the first, and those behind it; nothing where there are none
abbrev pub NextCapability : List Part → Option Capability → List Part → Type 0
NextCapability capabilities None after = (capabilities ≡ []) × (after ≡ [])
NextCapability capabilities (Some c) after = capabilities ≡ part_of c ∷ after
