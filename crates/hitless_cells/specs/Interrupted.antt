-- Which packets a change interrupts, and what lines say of them.
use Rattle.std.specs.Prelude.{◌≡◌, ◌≢◌, ◌⊎◌, ℕ, IsTrue, List, [], ◌∷◌, map}
use Rattle.std.specs.List.{Contains}
use Rattle.ov_types.specs.declared.numbers.PortNo.{PortNo}
use Rattle.ov_types.specs.declared.numbers.ServiceNo.{ServiceNo}
use Rattle.ov_types.specs.declared.packet.Packet.{Packet}
use Rattle.ov_types.specs.declared.prefix.Addr.{Addr}
use Rattle.config_types.specs.declared.topology.Node.{Node}
use Rattle.config_check.specs.Checked.{Checked}
use Rattle.policy_regions.specs.Parts.{IsTuple}
use Rattle.hitless_cells.specs.Keeping.{Delivers, Keep}
use Rattle.hitless_cells.specs.Ways.{LeadsTo, Offers, Track, Way}
use Rattle.hitless_cells.specs.Courses.{way_of}
use Rattle.hitless_cells.specs.Lines.{comes_first}
use Rattle.hitless_cells.specs.declared.lines.Difference.{Difference}
use Rattle.hitless_cells.specs.declared.lines.Difference.TheVariants as Is
use Rattle.hitless_cells.specs.declared.lines.Interruption.{Interruption}

-- both configurations keep a packet to a port, by some ways
abbrev pub IsKept : Checked → Checked → Packet → PortNo → Type 0
IsKept x y p number = (ways : List Way) × Keep (x ∷ y ∷ []) p number ways

-- a packet that is delivered to a port before, and to one after, is not kept: they are two ports, or one to which it is not
abbrev pub IsNotKept : Checked → Checked → Packet → PortNo → PortNo → Type 0
IsNotKept x y p number other = (other ≢ number) ⊎ ((other ≡ number) × ¬ IsKept x y p number)

-- ---- what differs
-- a configuration offers no such way for a packet to a port
abbrev pub IsNotOffered : Checked → Packet → PortNo → Way → Type 0
IsNotOffered x p number way = (track : Track) → ¬ Offers x p number way track

-- both configurations offer a way, with tracks of which this is so
pub record OffersOtherwise (x y : Checked) (p : Packet) (number : PortNo) (way : Way) (AreOther : Track → Track → Type 0) : Type 0 where
  pub before : Track
  pub after : Track
  pub offers_before : Offers x p number way before
  pub offers_after : Offers y p number way after
  pub are_other : AreOther before after

-- the name and the address of a compute node
abbrev pub place_of : Node → List ℕ × Addr
place_of n = (n.name, n.address)

-- services, each with the place of its compute node
abbrev pub places_of : List (ServiceNo × Node) → List (ServiceNo × (List ℕ × Addr))
places_of stops = map (λ s. (s.0, place_of s.1)) stops

abbrev pub AreOtherNetworks : Track → Track → Type 0
AreOtherNetworks k l = (k.from ≢ l.from) ⊎ (k.to ≢ l.to)

abbrev pub AreOtherPlaces : Track → Track → Type 0
AreOtherPlaces k l = (place_of k.source_node ≢ place_of l.source_node) ⊎ (place_of k.arrival_node ≢ place_of l.arrival_node)

abbrev pub AreOtherServices : Track → Track → Type 0
AreOtherServices k l = places_of k.stops ≢ places_of l.stops

abbrev pub AreOtherSubnets : Track → Track → Type 0
AreOtherSubnets k l = k.subnet ≢ l.subnet

abbrev pub AreOtherTracks : Track → Track → Type 0
AreOtherTracks k l = k ≢ l

-- what a difference says of the ways before and after of a packet that both configurations deliver to one port
abbrev pub SaysOfWays : Checked → Checked → Packet → PortNo → Way → Way → Difference → Type 0
SaysOfWays x y p number was becomes Is.NotOfferedBefore = IsNotOffered x p number becomes
SaysOfWays x y p number was becomes Is.NotOfferedAfter = IsNotOffered y p number was
SaysOfWays x y p number was becomes Is.Network = OffersOtherwise x y p number was AreOtherNetworks
SaysOfWays x y p number was becomes Is.Node = OffersOtherwise x y p number was AreOtherPlaces
SaysOfWays x y p number was becomes Is.Services =
    OffersOtherwise x y p number was AreOtherServices ⊎ OffersOtherwise x y p number becomes AreOtherServices
SaysOfWays x y p number was becomes Is.Subnet =
    OffersOtherwise x y p number was AreOtherSubnets ⊎ OffersOtherwise x y p number becomes AreOtherSubnets
SaysOfWays x y p number was becomes Is.ControlNodes =
    OffersOtherwise x y p number was AreOtherTracks ⊎ OffersOtherwise x y p number becomes AreOtherTracks
SaysOfWays x y p number was becomes (Is.AnotherPort after) = ⊥

-- what a difference says of a packet that is delivered to a port before, and to one after
abbrev pub Says : Checked → Checked → Packet → PortNo → PortNo → Way → Way → Difference → Type 0
Says x y p number other was becomes (Is.AnotherPort after) = (other ≡ after) × (other ≢ number)
Says x y p number other was becomes d = (other ≡ number) × SaysOfWays x y p number was becomes d

-- a line says of a packet that it is delivered before, by the way before, and after, by the way after, that it is not kept, and
-- what differs
pub record IsInterrupted (x y : Checked) (l : Interruption) : Type 0 where
  pub packet : Packet
  pub other : PortNo
  pub source : packet.source ≡ l.from
  pub tuple : packet.tuple ≡ l.tuple
  pub before : LeadsTo x.config packet l.to (way_of l.was)
  pub after : LeadsTo y.config packet other (way_of l.becomes)
  pub not_kept : IsNotKept x y packet l.to other
  pub says : Says x y packet l.to other (way_of l.was) (way_of l.becomes) l.difference

-- a packet has a line: of the port that it leaves and of the port that it is delivered to before, and of no tuple that comes
-- after its own
pub record HasLine (lines : List Interruption) (p : Packet) (number : PortNo) : Type 0 where
  pub line : Interruption
  pub stands : Contains lines line
  pub from : line.from ≡ p.source
  pub to : line.to ≡ number
  pub least : IsTuple p.tuple → ¬ IsTrue (comes_first p.tuple line.tuple)

-- each packet that is delivered before and after, and is not kept, has a line
abbrev pub EachHasLine : Checked → Checked → List Interruption → Type 0
EachHasLine x y lines =
    (p : Packet) (number other : PortNo) → Delivers x p number → Delivers y p other → IsNotKept x y p number other
    → HasLine lines p number
