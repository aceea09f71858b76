-- What claims make of the region of all tuples.
use Rattle.std.specs.Prelude.{List, [], ◌∷◌, ◌++◌, map, flat_map, Some, None, if◌then◌else◌}
use Rattle.config_types.specs.declared.config.Config.{Config}
use Rattle.config_types.specs.declared.config.Network.{Network}
use Rattle.policy_regions.specs.Claims.{claims_between}
use Rattle.policy_regions.specs.Joining.{joined}
use Rattle.policy_regions.specs.Regions.{common, everything, left_by, meets}
use Rattle.policy_regions.specs.declared.region.Claim.{Claim}
use Rattle.policy_regions.specs.declared.region.DecidedRegion.{DecidedRegion}
use Rattle.policy_regions.specs.declared.region.Effect.TheVariants.{Drops}
use Rattle.policy_regions.specs.declared.region.Region.{Region}

-- what a claim takes of a region
abbrev pub taken_by : Claim → Region → List DecidedRegion
taken_by claim r =
    if meets r claim.region
    then record { region = common r claim.region; decision = Some claim.decision; effect = claim.effect } ∷ []
    else []

-- a region on which no rule decides
abbrev pub undecided : Region → DecidedRegion
undecided r = record { region = r; decision = None; effect = Drops }

-- each claim takes its part of what is left, and on what is left at the end no rule decides; each part is joined by
-- itself
abbrev pub carve : List Claim → List Region → List DecidedRegion
carve [] left = joined (map undecided left)
carve (c ∷ cs) left = joined (flat_map (taken_by c) left) ++ carve cs (flat_map (left_by c.region) left)

-- what claims leave of what is left, one after the other
abbrev pub left_after : List Claim → List Region → List Region
left_after [] left = left
left_after (c ∷ cs) left = left_after cs (flat_map (left_by c.region) left)

-- what the claims between two networks make of the region of all tuples
abbrev pub carved_between : Config → Network → Network → List DecidedRegion
carved_between c from to = carve (claims_between c from to) (everything ∷ [])
