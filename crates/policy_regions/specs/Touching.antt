-- When two regions make one box, and lists in which no two do.
use Rattle.std.specs.Prelude.{◌≡◌, ◌≤◌, ◌+◌, ◌⊎◌, List}
use Rattle.std.specs.List.{AllPairs}
use Rattle.ov_types.specs.declared.packet.Range16.{Range16}
use Rattle.policy_regions.specs.declared.region.DecidedRegion.{DecidedRegion}
use Rattle.policy_regions.specs.declared.region.Region.{Region}

-- two ranges hold numbers, and the second begins just above the end of the first
pub record Follows (r s : Range16) : Type 0 where
  pub first : r.lo ≤ r.hi
  pub second : s.lo ≤ s.hi
  pub next : r.hi + 1 ≡ s.lo

-- one of two ranges begins just above the end of the other
abbrev pub Touch : Range16 → Range16 → Type 0
Touch r s = Follows r s ⊎ Follows s r

-- two regions touch along their protocols, and have the same ports
abbrev pub TouchByProtocols : Region → Region → Type 0
TouchByProtocols r s =
    Touch r.protocols s.protocols × (r.source_ports ≡ s.source_ports) × (r.destination_ports ≡ s.destination_ports)

-- two regions touch along their source ports, and are alike otherwise
abbrev pub TouchBySourcePorts : Region → Region → Type 0
TouchBySourcePorts r s =
    Touch r.source_ports s.source_ports × (r.protocols ≡ s.protocols) × (r.destination_ports ≡ s.destination_ports)

-- two regions touch along their destination ports, and are alike otherwise
abbrev pub TouchByDestinationPorts : Region → Region → Type 0
TouchByDestinationPorts r s =
    Touch r.destination_ports s.destination_ports × (r.protocols ≡ s.protocols) × (r.source_ports ≡ s.source_ports)

-- two regions touch and make one box
abbrev pub MakeOneBox : Region → Region → Type 0
MakeOneBox r s = TouchByProtocols r s ⊎ (TouchBySourcePorts r s ⊎ TouchByDestinationPorts r s)

-- no two regions of a list say the same and make one box
abbrev pub IsJoined : List DecidedRegion → Type 0
IsJoined list = AllPairs (λ r s. r.decision ≡ s.decision → r.effect ≡ s.effect → ¬ MakeOneBox r.region s.region) list
