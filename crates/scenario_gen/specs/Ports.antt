-- The ports: sixteen of each network, dealt out to the networks in turn.
use Rattle.std.specs.Prelude.{ℕ, List, ◌+◌, ◌*◌, ◌/◌, ◌%◌, ◌==◌, map, codes, if◌then◌else◌}
use Rattle.config_types.specs.declared.config.Port.{Port}
use Rattle.scenario_gen.specs.Naming.{below, numbered, address}
use Rattle.scenario_gen.specs.Nodes.{node_at}
use Rattle.scenario_gen.specs.Tenants.{tenants, web, application, database, management}

-- how many networks, and how many ports, scenario n has
abbrev pub networks_count : ℕ → ℕ
networks_count n = 4 * tenants n

abbrev pub ports_count : ℕ → ℕ
ports_count n = 64 * tenants n

-- the name of the network at a place among the four of tenant t
abbrev pub network_at : ℕ → ℕ → List ℕ
network_at t place =
    if place == 0 then web t
    else (if place == 1 then application t
    else (if place == 2 then database t
    else management t))

-- the name of the network that is next after k others
abbrev pub network_after : ℕ → List ℕ
network_after k = network_at (k / 4) (k % 4)

unfoldable pub port : ℕ → ℕ → Port
port n x = record {
  name = numbered (codes "v") x;
  id = record { 0 = x };
  network = network_after (x % networks_count n);
  address = address 10 (x % 4) 0 (1 + x / networks_count n);
  node = node_at (7 * x + n);
}

abbrev pub ports : ℕ → List Port
ports n = map (port n) (below (ports_count n))
