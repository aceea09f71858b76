-- What two configurations share, so that nothing becomes of packets in one that does not in the other.
use Rattle.std.specs.Prelude.{◌==◌, ◌&&◌, ◌||◌, Bool, List, [], ◌∷◌, Option, Some, None, filter, flat_map, length, nat_eq, if◌then◌else◌}
use Rattle.std.specs.Cmp.Lexicographic.{pointwise}
use Rattle.std.specs.List.{list_all, zip}
use Rattle.ov_types.specs.First.{same_name}
use Rattle.config_types.specs.contracts.config.ChainPartialEq.TheImpl as chain
use Rattle.config_types.specs.contracts.config.PolicyPartialEq.TheImpl as policy
use Rattle.config_types.specs.contracts.config.ServicePartialEq.TheImpl as service
use Rattle.config_types.specs.declared.config.Config.{Config}
use Rattle.config_types.specs.declared.config.Network.{Network}
use Rattle.config_types.specs.declared.config.Policy.{Policy}
use Rattle.config_check.specs.Finding.{network_named}
use Rattle.policy_rules.specs.Related.{attaches}
use Rattle.policy_rules.specs.declared.matching.Decision.{Decision}
use Rattle.policy_regions.specs.Claims.{claims_between}
use Rattle.policy_regions.specs.Overlay.{laid_by}
use Rattle.policy_regions.specs.Sameness.{same_claims}
use Rattle.policy_regions.specs.declared.region.Claim.{Claim}
use Rattle.policy_regions.specs.declared.region.Effect.{Effect}
use Rattle.inspect_changes.specs.Fates.{differences_between, differences_of, fate_by, passage, same_passage}
use Rattle.inspect_changes.specs.declared.fate.Difference.{Difference}

-- chains and services are the same in two configurations, so that each chain leads through the same services
abbrev pub lead_alike : Config → Config → Bool
lead_alike c d = pointwise chain.ghosts.eq c.chains d.chains && pointwise service.ghosts.eq c.services d.services

-- packets of this decision and effect are let through by the same services in two configurations, or in neither
abbrev pub stays_by : Config → Config → Option Decision → Effect → Bool
stays_by c d decision effect = same_passage (passage (fate_by c decision effect)) (passage (fate_by d decision effect))

-- claims are the same in two configurations, and their packets fare alike
abbrev pub stay : Config → Config → List Claim → List Claim → Bool
stay c d ks ls =
    same_claims ks ls && (lead_alike c d || list_all (λ k. stays_by c d (Some k.decision) k.effect) ks)

-- the differences between two networks by what the rules between them claim before and after
abbrev pub differences_by : Config → Network → Network → Config → List Claim → List Claim → List Difference
differences_by c a b d ks ls = flat_map (differences_of a.name b.name c d) (laid_by ks ls)

-- the policies that a network attaches
abbrev pub attached : Config → Network → List Policy
attached c a = filter (attaches a) c.policies

abbrev pub same_policies : List Policy → List Policy → Bool
same_policies ps qs = (length ps == length qs) && list_all (λ p. policy.ghosts.eq p.0 p.1) (zip ps qs)

-- two networks of one name, in two configurations, attach the same policies, by their names and by what these say
abbrev pub attaches_alike : Config → Network → Config → Network → Bool
attaches_alike c a d a' =
    same_name a.name a'.name
    && (pointwise (pointwise nat_eq) a.policies a'.policies && same_policies (attached c a) (attached d a'))

-- a network that stands in two configurations, as it stands in each, and whether it is kept: chains lead through the
-- same services in both, and it attaches the same policies
pub record Stands : Type 0 where
  pub before : Network
  pub after : Network
  pub is_kept : Bool

abbrev pub is_kept : Config → Network → Config → Network → Bool
is_kept c a d a' = lead_alike c d && attaches_alike c a d a'

-- a network where it stands in the configuration after
abbrev pub standing_as : Config → Config → Network → Option Network → List Stands
standing_as c d a None = []
standing_as c d a (Some a') = record { before = a; after = a'; is_kept = is_kept c a d a' } ∷ []

-- the networks that stand in both configurations, in the order of the one before
abbrev pub standing : Config → Config → List Stands
standing c d = flat_map (λ a. standing_as c d a (network_named d a.name)) c.networks

-- the differences from one network to another, which are none where both are kept
abbrev pub differences_unless : Config → Config → Stands → Stands → List Difference
differences_unless c d s t =
    if same_name s.before.name t.before.name then []
    else (if s.is_kept && t.is_kept then [] else differences_between c s.before t.before d s.after t.after)

-- the differences by the claims of networks of configurations
abbrev pub differences_by_claims : Config → Config → Config × Network → Config × Network → Stands → List Difference
differences_by_claims c d o p t =
    differences_by c o.1 t.before d (claims_between o.0 o.1 t.before) (claims_between p.0 p.1 t.after)

-- the differences to a network from one whose claims are those of these networks, and which is kept or not
abbrev pub differences_towards : Config → Config → Bool → Config × Network → Config × Network → Stands → List Difference
differences_towards c d kept o p t =
    if same_name o.1.name t.before.name then [] else (if kept && t.is_kept then [] else differences_by_claims c d o p t)
