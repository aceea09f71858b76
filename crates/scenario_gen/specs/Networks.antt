-- The networks: four of each tenant, each with one subnet.
use Rattle.std.specs.Prelude.{ℕ, List, [], ◌∷◌, ◌+◌, ◌*◌}
use Rattle.std.specs.List.{flat_map}
use Rattle.ov_types.specs.Prefix.{Block}
use Rattle.config_types.specs.declared.config.Network.{Network}
use Rattle.scenario_gen.specs.Naming.{below, address}
use Rattle.scenario_gen.specs.Tenants.{tenants, web, application, database, management}
use Rattle.scenario_gen.specs.Tenants.{front_policy, back_policy, management_policy}

-- 10.place.0.0/24
abbrev pub subnet : ℕ → Block
subnet place = record { addr = (address 10 place 0 0).0; len = 24 }

-- the network of a name and a number, at its place among the four of its tenant
abbrev pub network_of : List ℕ → ℕ → ℕ → List (List ℕ) → Network
network_of name number place policies =
    record { name = name; id = record { 0 = number }; subnets = subnet place ∷ []; policies = policies }

-- each attaches its policies in the order of their sequences
abbrev pub web_network : ℕ → Network
web_network t = network_of (web t) (4 * t + 1) 0 (front_policy t ∷ management_policy t ∷ [])

abbrev pub application_network : ℕ → Network
application_network t =
    network_of (application t) (4 * t + 2) 1 (front_policy t ∷ back_policy t ∷ management_policy t ∷ [])

abbrev pub database_network : ℕ → Network
database_network t = network_of (database t) (4 * t + 3) 2 (back_policy t ∷ management_policy t ∷ [])

abbrev pub management_network : ℕ → Network
management_network t = network_of (management t) (4 * t + 4) 3 (management_policy t ∷ [])

unfoldable pub networks_of : ℕ → List Network
networks_of t = web_network t ∷ application_network t ∷ database_network t ∷ management_network t ∷ []

abbrev pub networks : ℕ → List Network
networks n = flat_map networks_of (below (tenants n))
