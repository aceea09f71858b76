-- The members of services.
use Rattle.std.specs.Prelude.{ℕ, ◌==◌, List, [], ◌∷◌, Option, find, option_and_then}
use Rattle.std.specs.Option.{option_map_or}
use Rattle.ov_types.specs.First.{same_name}
use Rattle.ov_types.specs.declared.numbers.ServiceNo.{ServiceNo}
use Rattle.config_types.specs.declared.config.Config.{Config}
use Rattle.config_types.specs.declared.config.Service.{Service}
use Rattle.scale_out.specs.declared.groups.Group.{Group}

-- the group that names a service
abbrev pub group_named : List Group → List ℕ → Option Group
group_named groups name = find (λ g. same_name g.service name) groups

-- the service of a number
abbrev pub service_numbered : Config → ServiceNo → Option Service
service_numbered c number = find (λ s. s.id.0 == number.0) c.services

-- the group of the service of a number
abbrev pub group_for : Config → List Group → ServiceNo → Option Group
group_for c groups number = option_and_then (λ s. group_named groups s.name) (service_numbered c number)

-- the members of the service of a number: without a group it has the one member 0
abbrev pub members_of : Config → List Group → ServiceNo → List ℕ
members_of c groups number = option_map_or (λ g. g.members) (group_for c groups number) (0 ∷ [])
