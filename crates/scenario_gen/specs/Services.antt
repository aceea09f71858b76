-- The services, two of each tenant, and the chains of them.
use Rattle.std.specs.Prelude.{ℕ, List, [], ◌∷◌, ◌+◌, ◌*◌, map}
use Rattle.std.specs.List.{flat_map}
use Rattle.config_types.specs.declared.config.Service.{Service}
use Rattle.config_types.specs.declared.config.Chain.{Chain}
use Rattle.scenario_gen.specs.Naming.{below}
use Rattle.scenario_gen.specs.Nodes.{node_at}
use Rattle.scenario_gen.specs.Tenants.{tenants, firewall, balancer, chain_name}

abbrev pub service_of : List ℕ → ℕ → List ℕ → Service
service_of name number node = record { name = name; id = record { 0 = number }; node = node }

unfoldable pub services_of : ℕ → ℕ → List Service
services_of n t =
    service_of (firewall t) (2 * t + 1) (node_at (3 * t + n))
    ∷ service_of (balancer t) (2 * t + 2) (node_at (3 * t + n + 1))
    ∷ []

unfoldable pub chain : ℕ → Chain
chain t = record { name = chain_name t; hops = firewall t ∷ balancer t ∷ [] }

abbrev pub services : ℕ → List Service
services n = flat_map (services_of n) (below (tenants n))

abbrev pub chains : ℕ → List Chain
chains n = map chain (below (tenants n))
