-- The regions between two networks.
use Rattle.std.specs.Prelude.{List, [], ◌∷◌}
use Rattle.config_types.specs.declared.config.Config.{Config}
use Rattle.config_types.specs.declared.config.Network.{Network}
use Rattle.policy_regions.specs.Carved.{carve, carved_between}
use Rattle.policy_regions.specs.Joining.{joined}
use Rattle.policy_regions.specs.Regions.{everything}
use Rattle.policy_regions.specs.declared.region.Claim.{Claim}
use Rattle.policy_regions.specs.declared.region.DecidedRegion.{DecidedRegion}

-- the regions that claims make of all tuples
abbrev pub made_by : List Claim → List DecidedRegion
made_by claims = joined (carve claims (everything ∷ []))

-- the regions between two networks
abbrev pub regions_between : Config → Network → Network → List DecidedRegion
regions_between c from to = joined (carved_between c from to)
