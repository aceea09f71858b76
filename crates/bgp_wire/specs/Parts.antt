-- The parameters of an OPEN and the capabilities in them lie one after the other, each a type, the length of a value in
-- one octet, and the value (RFC 4271, section 4.2; RFC 5492, section 4).
use Rattle.std.specs.Prelude.{◌≡◌, ◌<◌, ℕ, zero, suc, List, [], ◌∷◌, ◌++◌, length, take, drop, nat_le, if◌then◌else◌}
use Rattle.std.specs.List.{flat_map, AllByRecursion}

-- a parameter or a capability
pub record Part : Type 0 where
  pub kind : ℕ
  pub value : List ℕ

abbrev pub octets_of : Part → List ℕ
octets_of p = p.kind ∷ length p.value ∷ p.value

-- octets that begin with a part which they do not hold whole
abbrev pub IsOverrun : List ℕ → Type 0
IsOverrun [] = ⊥
IsOverrun (kind ∷ []) = Unit {0}
IsOverrun (kind ∷ len ∷ rest) = length rest < len

-- octets that begin with a whole part of which P holds
pub record BeginsWithPart (P : Part → Type 0) (octets : List ℕ) : Type 0 where
  pub first : Part
  pub after : List ℕ
  pub spelled : octets ≡ octets_of first ++ after
  pub holds : P first

-- octets that are whole parts of which P holds, and then octets of which Q holds
pub record PartsThen (P : Part → Type 0) (Q : List ℕ → Type 0) (octets : List ℕ) : Type 0 where
  pub parts : List Part
  pub each : AllByRecursion P parts
  pub rest : List ℕ
  pub spelled : octets ≡ flat_map octets_of parts ++ rest
  pub ends : Q rest

-- octets that are whole parts of which P holds, and nothing else
abbrev pub AreParts : (Part → Type 0) → List ℕ → Type 0
AreParts P = PartsThen P (λ rest. rest ≡ [])

-- the first whole parts that octets hold, no more than so many
abbrev pub parts_below : ℕ → List ℕ → List Part
parts_below zero octets = []
parts_below (suc most) [] = []
parts_below (suc most) (kind ∷ []) = []
parts_below (suc most) (kind ∷ len ∷ rest) =
    if nat_le len (length rest)
    then record { kind = kind; value = take len rest } ∷ parts_below most (drop len rest) else []

-- the whole parts that octets hold, as a list; it ends before a part that overruns
unfoldable pub parts_in : List ℕ → List Part
parts_in octets = parts_below (length octets) octets
