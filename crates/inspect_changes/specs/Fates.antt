-- What becomes of packets between two networks in one configuration and in another, and where that differs.
use Rattle.std.specs.Prelude.{ℕ, ◌≡◌, ◌≢◌, ◌≤◌, ◌==◌, ◌&&◌, IsTrue, Bool, true, false, List, [], ◌∷◌, length, Option, Some, None, flat_map, count_by, if◌then◌else◌}
use Rattle.std.specs.List.{Contains, list_all, zip}
use Rattle.ov_types.specs.First.{same_name}
use Rattle.ov_types.specs.declared.numbers.ServiceNo.{ServiceNo}
use Rattle.ov_types.specs.declared.packet.Tuple.{Tuple}
use Rattle.config_types.specs.declared.config.Config.{Config}
use Rattle.config_types.specs.declared.config.Network.{Network}
use Rattle.config_check.specs.Finding.{network_named}
use Rattle.policy_rules.specs.Matching.{deciding, decision}
use Rattle.policy_rules.specs.declared.matching.Decision.{Decision}
use Rattle.policy_regions.specs.Claims.{effect_by}
use Rattle.policy_regions.specs.Joined.{regions_between}
use Rattle.policy_regions.specs.Overlay.{overlay}
use Rattle.policy_regions.specs.Regions.{holds}
use Rattle.policy_regions.specs.declared.overlays.Compared.{Compared}
use Rattle.policy_regions.specs.declared.region.Effect.{Effect}
use Rattle.policy_regions.specs.declared.region.Effect.TheVariants.{Passes, Drops, Leads}
use Rattle.reach_plain.specs.Reachability.{services_through}
use Rattle.inspect_changes.specs.declared.fate.Difference.{Difference}
use Rattle.inspect_changes.specs.declared.fate.Fate.{Fate}
use Rattle.inspect_changes.specs.declared.fate.Fate.TheVariants.{Passed, Through, Denied, Unmatched}

-- what becomes of packets by what is decided and done with them
abbrev pub fate_by : Config → Option Decision → Effect → Fate
fate_by c None effect = Unmatched
fate_by c (Some d) Passes = Passed d.rule
fate_by c (Some d) Drops = Denied d.rule
fate_by c (Some d) (Leads chain) = Through d.rule (services_through c chain d.mirrored)

-- what becomes of packets of a tuple from one network to another
abbrev pub fate_between : Config → Network → Network → Tuple → Fate
fate_between c a b t = fate_by c (decision c a b t) (effect_by (deciding c a b t))

-- the services that packets of this fate are let through by, if they are
abbrev pub passage : Fate → Option (List ServiceNo)
passage (Passed rule) = Some []
passage (Through rule services) = Some services
passage (Denied rule) = None
passage Unmatched = None

abbrev pub same_services : List ServiceNo → List ServiceNo → Bool
same_services xs ys = (length xs == length ys) && list_all (λ p. p.0.0 == p.1.0) (zip xs ys)

-- neither is let through, or both are by the same services
abbrev pub same_passage : Option (List ServiceNo) → Option (List ServiceNo) → Bool
same_passage None None = true
same_passage None (Some ys) = false
same_passage (Some xs) None = false
same_passage (Some xs) (Some ys) = same_services xs ys

-- the difference on a region, where packets are let through in one configuration and not in the other, or by other
-- services
abbrev pub differences_of : List ℕ → List ℕ → Config → Config → Compared → List Difference
differences_of from to c d r =
    if same_passage (passage (fate_by c r.before r.was)) (passage (fate_by d r.after r.becomes)) then []
    else record {
      from = from;
      to = to;
      region = r.region;
      was = fate_by c r.before r.was;
      becomes = fate_by d r.after r.becomes;
    } ∷ []

-- the differences between two networks of one configuration and two of another
abbrev pub differences_between : Config → Network → Network → Config → Network → Network → List Difference
differences_between c a b d a' b' =
    flat_map (differences_of a.name b.name c d) (overlay (regions_between c a b) (regions_between d a' b'))

-- the differences from a network to one of the document before, where that stands in the one after, and is another
abbrev pub differences_to : Config → Network → Config → Network → Network → Option Network → List Difference
differences_to c a d a' b None = []
differences_to c a d a' b (Some b') = if same_name a.name b.name then [] else differences_between c a b d a' b'

-- the differences from a network, where it stands in the configuration after, to each other
abbrev pub differences_from : Config → Network → Config → Option Network → List Difference
differences_from c a d None = []
differences_from c a d (Some a') = flat_map (λ b. differences_to c a d a' b (network_named d b.name)) c.networks

-- the differences between two configurations: those between each two networks that stand in both, in the order of the
-- document before
abbrev pub all_differences : Config → Config → List Difference
all_differences c d = flat_map (λ a. differences_from c a d (network_named d a.name)) c.networks

-- a difference among others holds a tuple, with what became of it and what becomes
pub record IsOnDifference (list : List Difference) (t : Tuple) (was becomes : Fate) : Type 0 where
  pub difference : Difference
  pub stands : Contains list difference
  pub on : IsTrue (holds difference.region t)
  pub before : difference.was ≡ was
  pub after : difference.becomes ≡ becomes

-- a tuple fares otherwise: these become of it in the two configurations, and it is let through in one and not in the
-- other, or by other services
pub record FaresOtherwise (c : Config) (a b : Network) (d : Config) (a' b' : Network) (t : Tuple) (was becomes : Fate) : Type 0 where
  pub before : fate_between c a b t ≡ was
  pub after : fate_between d a' b' t ≡ becomes
  pub differ : passage was ≢ passage becomes

-- no two differences hold one tuple
abbrev pub IsOnOneDifferenceAtMost : List Difference → Tuple → Type 0
IsOnOneDifferenceAtMost list t = count_by (λ x. holds x.region t) list ≤ 1
