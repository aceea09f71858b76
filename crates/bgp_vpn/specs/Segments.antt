-- The segments of an AS_PATH, as a list.
use Rattle.std.specs.Prelude.{◌≡◌, ◌<◌, ◌*◌, ℕ, List, ◌∷◌, length, ◌⊎◌}
use Rattle.std.specs.List.{flat_map, AllByRecursion}
use Rattle.bgp_wire.specs.Attributes.{AttributeFields}
use Rattle.bgp_vpn.specs.Pieces.{are_segments}

-- a segment of an AS_PATH: its type, how many numbers it has, and their octets
pub record SegmentFields : Type 0 where
  pub kind : ℕ
  pub count : ℕ
  pub numbers : List ℕ

abbrev pub segment_octets : SegmentFields → List ℕ
segment_octets s = s.kind ∷ s.count ∷ s.numbers

-- an AS_SET or an AS_SEQUENCE of at least one number, each of so many octets (RFC 4271, section 4.3)
pub record IsSegment (size : ℕ) (s : SegmentFields) : Type 0 where
  pub kind : (s.kind ≡ 1) ⊎ (s.kind ≡ 2)
  pub some : 0 < s.count
  pub whole : length s.numbers ≡ size * s.count

pub record AreSegments (size : ℕ) (octets : List ℕ) (segments : List SegmentFields) : Type 0 where
  pub spelled : octets ≡ flat_map segment_octets segments
  pub each : AllByRecursion (IsSegment size) segments

-- an attribute that is no AS_PATH, or whose value is segments of numbers of four octets exactly where it is segments of
-- numbers of two
abbrev pub ReadsAlike : AttributeFields → Type 0
ReadsAlike a = a.kind ≡ 2 → are_segments 4 a.value ≡ are_segments 2 a.value
