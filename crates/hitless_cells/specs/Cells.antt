-- Cells: tuples that both configurations let through, on each of which their rules decide alike.
use Rattle.std.specs.Prelude.{◌&&◌, ◌||◌, min, Bool, List, [], ◌∷◌, flat_map, Option, Some, None}
use Rattle.ov_types.specs.First.{same_name}
use Rattle.ov_types.specs.declared.packet.Tuple.{Tuple}
use Rattle.config_types.specs.declared.config.Config.{Config}
use Rattle.config_types.specs.declared.config.Network.{Network}
use Rattle.policy_rules.specs.Related.{are_related}
use Rattle.policy_regions.specs.Joined.{regions_between}
use Rattle.policy_regions.specs.Overlay.{overlay}
use Rattle.policy_regions.specs.declared.overlays.Compared.{Compared}
use Rattle.policy_regions.specs.declared.region.Region.{Region}
use Rattle.config_check.specs.Checked.{Checked}
use Rattle.hitless_cells.specs.Courses.{course_on}
use Rattle.hitless_cells.specs.Openings.{opening_of}
use Rattle.hitless_cells.specs.declared.cells.Cell.{Cell}
use Rattle.hitless_cells.specs.declared.course.Course.{Course}

-- packets from one network may be for another: for itself, or for a related one
abbrev pub is_near : Config → Network → Network → Bool
is_near c own target = same_name target.name own.name || are_related c own target

-- the least tuple of a region
abbrev pub corner : Region → Tuple
corner r = record { proto = min r.protocols.lo 255; sport = r.source_ports.lo; dport = r.destination_ports.lo }

-- two networks are near in one configuration, and two others in another
abbrev pub are_near : Checked → Network → Network → Checked → Network → Network → Bool
are_near x a b y c d = is_near x.config a b && is_near y.config c d

-- the cell of a tuple that goes by two ways, if it goes by both
abbrev pub cell_at : Checked → Network → Network → Checked → Network → Network → Tuple → Option Course → Option Course → List Cell
cell_at x a b y c d t None becomes = []
cell_at x a b y c d t (Some was) None = []
cell_at x a b y c d t (Some was) (Some becomes) =
    record { tuple = t; was = was; becomes = becomes; opening = opening_of x a b y c d was becomes } ∷ []

-- the cell of a tuple
abbrev pub cells_with : Checked → Network → Network → Checked → Network → Network → Tuple → List Cell
cells_with x a b y c d t = cell_at x a b y c d t (course_on x.config a b t) (course_on y.config c d t)

-- the cell of a region
abbrev pub cells_on : Checked → Network → Network → Checked → Network → Network → Compared → List Cell
cells_on x a b y c d r = cells_with x a b y c d (corner r.region)

-- the cells of tuples from one network to another
abbrev pub cells_of : Checked → Network → Network → Checked → Network → Network → List Cell
cells_of x a b y c d =
    flat_map (cells_on x a b y c d) (overlay (regions_between x.config a b) (regions_between y.config c d))
