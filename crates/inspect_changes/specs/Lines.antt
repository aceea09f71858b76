-- The lines of ways.
use Rattle.std.specs.Prelude.{ℕ, ◌==◌, ◌&&◌, List, [], ◌∷◌, ◌++◌, codes, decimal, flat_map, not, if◌then◌else◌, Bool}
use Rattle.ov_types.specs.First.{same_name}
use Rattle.ov_types.specs.Rows.{rule_text}
use Rattle.ov_types.specs.declared.packet.Range16.{Range16}
use Rattle.ov_types.specs.declared.packet.RuleNo.{RuleNo}
use Rattle.config_types.specs.declared.config.Config.{Config}
use Rattle.config_types.specs.declared.config.Network.{Network}
use Rattle.policy_regions.specs.declared.region.Region.{Region}
use Rattle.report.specs.Objects.{range_text}
use Rattle.report.specs.Outcomes.{services_text}
use Rattle.inspect_changes.specs.Ways.{ways_between}
use Rattle.inspect_changes.specs.declared.pairs.Pairs.{Pairs}
use Rattle.inspect_changes.specs.declared.pairs.Pairs.TheVariants.{All, Between}
use Rattle.inspect_changes.specs.declared.way.Passage.{Passage}
use Rattle.inspect_changes.specs.declared.way.Passage.TheVariants as Goes
use Rattle.inspect_changes.specs.declared.way.Way.{Way}

-- protocols: one by its number, all as `any`, and others from one to another
abbrev pub protocols_text : Range16 → List ℕ
protocols_text r =
    if r.lo == r.hi then decimal r.lo
    else (if (r.lo == 0) && (r.hi == 255) then codes "any" else range_text r)

abbrev pub region_text : Region → List ℕ
region_text r =
    codes "protocol " ++ (protocols_text r.protocols ++ (codes " source " ++ (range_text r.source_ports
    ++ (codes " destination " ++ range_text r.destination_ports))))

-- which rule lets through, and through which services
abbrev pub passage_text : RuleNo → Passage → List ℕ
passage_text rule Goes.Straight = codes "passed " ++ (rule_text rule ++ codes " services -")
passage_text rule (Goes.Through services) =
    codes "through " ++ (rule_text rule ++ (codes " services " ++ services_text services))

-- a way, behind the names of the network that it is from and of the one that it is to
unfoldable pub way_line : List ℕ → List ℕ → Way → List ℕ
way_line from to w =
    from ++ (codes " > " ++ (to ++ (codes " " ++ (region_text w.region ++ (codes " "
    ++ (passage_text w.decision.rule w.passage ++ (10 ∷ [])))))))

-- two networks are asked for: each two that differ, or the two of these names
abbrev pub is_asked : Pairs → Network → Network → Bool
is_asked All a b = not (same_name a.name b.name)
is_asked (Between from to) a b = same_name a.name from && same_name b.name to

-- the ways from one network to another
abbrev pub between_text : Config → Network → Network → List ℕ
between_text c a b = flat_map (way_line a.name b.name) (ways_between c a b)

abbrev pub pair_text : Pairs → Config → Network → Network → List ℕ
pair_text pairs c a b = if is_asked pairs a b then between_text c a b else []

-- the ways from one network to each, in the document's order
abbrev pub network_text : Pairs → Config → Network → List ℕ
network_text pairs c a = flat_map (pair_text pairs c a) c.networks

-- what `inspect ways` writes of a valid configuration
unfoldable pub ways_text : Pairs → Config → List ℕ
ways_text pairs c = flat_map (network_text pairs c) c.networks
