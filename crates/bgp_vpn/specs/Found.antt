-- The values of the attributes that were walked over.
use Rattle.std.specs.Prelude.{◌≡◌, ℕ, ◌==◌, List, Option, Some, option_copied, if◌then◌else◌}
use Rattle.bgp_wire.specs.Attributes.{AttributeFields}
use Rattle.bgp_vpn.specs.declared.found.Found.{Found}
use Rattle.bgp_vpn.specs.Values.{value_at}

-- the value of an attribute that has this type, or what was found before
abbrev pub value_or : ℕ → AttributeFields → Option (List ℕ) → Option (List ℕ)
value_or kind a before = if a.kind == kind then Some a.value else before

-- what was found are the values of these attributes
pub record IsFound (found : Found) (attributes : List AttributeFields) : Type 0 where
  pub origin : option_copied found.origin ≡ value_at 1 attributes
  pub as_path : option_copied found.as_path ≡ value_at 2 attributes
  pub next_hop : option_copied found.next_hop ≡ value_at 3 attributes
  pub reach : option_copied found.reach ≡ value_at 14 attributes
  pub unreach : option_copied found.unreach ≡ value_at 15 attributes
  pub communities : option_copied found.communities ≡ value_at 16 attributes

-- one attribute was walked over
pub record Adds (before : Found) (a : AttributeFields) (now : Found) : Type 0 where
  pub origin : option_copied now.origin ≡ value_or 1 a (option_copied before.origin)
  pub as_path : option_copied now.as_path ≡ value_or 2 a (option_copied before.as_path)
  pub next_hop : option_copied now.next_hop ≡ value_or 3 a (option_copied before.next_hop)
  pub reach : option_copied now.reach ≡ value_or 14 a (option_copied before.reach)
  pub unreach : option_copied now.unreach ≡ value_or 15 a (option_copied before.unreach)
  pub communities : option_copied now.communities ≡ value_or 16 a (option_copied before.communities)
