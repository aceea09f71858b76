-- Appending while there is room.
use Rattle.std.specs.Prelude.{◌≡◌, ◌<◌, ℕ, List, [], ◌++◌, length, slice_index}
use Rattle.std.specs.List.{flat_map}
use Rattle.config_types.specs.declared.config.Config.{Config}
use Rattle.config_types.specs.declared.config.Service.{Service}
use Rattle.chain_expand.specs.declared.append.Room.{Room}
use Rattle.chain_expand.specs.declared.append.Room.TheVariants.{Fits, Full}
use Rattle.chain_expand.specs.Expansion.{services_within}
use Rattle.chain_expand.specs.Links.{hops_at}

-- services were appended, or they and those before are more than 15
abbrev pub IsAppended : List Service → List Service → List Service → Room → Type 0
IsAppended services before after Fits = after ≡ before ++ services
IsAppended services before after Full = 15 < length (before ++ services)

-- each chain has no service at the depths below its number
abbrev pub AreBarren : Config → List ℕ → Type 0
AreBarren c depths = (place depth : ℕ) → place < 128 → depth < slice_index depths place
    → flat_map (services_within depth c) (hops_at c place) ≡ []
