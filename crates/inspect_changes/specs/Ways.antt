-- Ways: what is let through from one network to another, by which rule, and through which services.
use Rattle.std.specs.Prelude.{◌≡◌, ◌≤◌, IsTrue, Bool, true, false, List, [], ◌∷◌, Option, Some, None, flat_map, count_by, reverse}
use Rattle.std.specs.List.{Contains}
use Rattle.ov_types.specs.declared.packet.Tuple.{Tuple}
use Rattle.config_types.specs.declared.config.Action.{Action}
use Rattle.config_types.specs.declared.config.Action.TheVariants.{Pass, Deny, Through}
use Rattle.config_types.specs.declared.config.Config.{Config}
use Rattle.config_types.specs.declared.config.Network.{Network}
use Rattle.policy_rules.specs.Matching.{decision_by}
use Rattle.policy_rules.specs.Taking.{IsDeciding}
use Rattle.policy_rules.specs.declared.matching.Decision.{Decision}
use Rattle.policy_rules.specs.declared.matching.Match.{Match}
use Rattle.policy_regions.specs.Joined.{regions_between}
use Rattle.policy_regions.specs.Regions.{holds}
use Rattle.policy_regions.specs.declared.region.DecidedRegion.{DecidedRegion}
use Rattle.policy_regions.specs.declared.region.Effect.{Effect}
use Rattle.policy_regions.specs.declared.region.Effect.TheVariants.{Passes, Drops, Leads}
use Rattle.policy_regions.specs.declared.region.Region.{Region}
use Rattle.reach_plain.specs.Outcomes.{numbers_of}
use Rattle.reach_plain.specs.Reachability.{services_through}
use Rattle.inspect_changes.specs.declared.way.Passage.{Passage}
use Rattle.inspect_changes.specs.declared.way.Passage.TheVariants as Goes
use Rattle.inspect_changes.specs.declared.way.Way.{Way}

-- the ways of a region: one where packets are let through, and none where they are dropped
abbrev pub ways_by : Config → Region → Option Decision → Effect → List Way
ways_by c r None effect = []
ways_by c r (Some d) Passes = record { region = r; decision = d; passage = Goes.Straight } ∷ []
ways_by c r (Some d) Drops = []
ways_by c r (Some d) (Leads chain) =
    record { region = r; decision = d; passage = Goes.Through (services_through c chain d.mirrored) } ∷ []

abbrev pub ways_of : Config → DecidedRegion → List Way
ways_of c r = ways_by c r.region r.decision r.effect

-- the ways from one network to another: those of the regions between them, in order
abbrev pub ways_between : Config → Network → Network → List Way
ways_between c a b = flat_map (ways_of c) (regions_between c a b)

-- how an action lets packets through: a pass rule straight, and a chain rule through its services, in order where it is
-- matched forwards, and reversed where mirrored
abbrev pub LetsThrough : Config → Bool → Action → Passage → Type 0
LetsThrough c mirrored Pass passage = passage ≡ Goes.Straight
LetsThrough c mirrored Deny passage = ⊥
LetsThrough c false (Through chain use_no) passage = passage ≡ Goes.Through (numbers_of c chain)
LetsThrough c true (Through chain use_no) passage = passage ≡ Goes.Through (reverse (numbers_of c chain))

-- the rule that decides on a tuple, and how it is matched, lets it through in this way
pub record IsLetThrough (c : Config) (a b : Network) (t : Tuple) (d : Decision) (passage : Passage) : Type 0 where
  pub decider : Match
  pub decides : IsDeciding c a b t decider
  pub decision : decision_by decider ≡ d
  pub lets : LetsThrough c decider.mirrored decider.rule.rule.action passage

-- a way among others holds a tuple, with this decision and in this way
pub record IsOnOneOf (ways : List Way) (t : Tuple) (d : Decision) (passage : Passage) : Type 0 where
  pub way : Way
  pub stands : Contains ways way
  pub on : IsTrue (holds way.region t)
  pub decided : way.decision ≡ d
  pub goes : way.passage ≡ passage

-- no two ways hold one tuple
abbrev pub IsOnOneAtMost : List Way → Tuple → Type 0
IsOnOneAtMost ways t = count_by (λ w. holds w.region t) ways ≤ 1
