-- What ports, services, events and packets name is there.
use Rattle.std.proofs.Common.{◌≡◌, ℕ, ◌<◌, ◌+◌, ◌*◌, ◌%◌, map, codes, refl, arith}
use Rattle.std.specs.List.{All, Contains, range_with_len}
use Rattle.std.proofs.lemmas.List.Elements.{All-from_recursion}
use Rattle.std.proofs.lemmas.Nat.{mod_below}
use Rattle.ov_types.specs.declared.numbers.PortNo.{PortNo}
use Rattle.scenario_gen.specs.Laws.{NamesWhatIs, controller_names, node_names, port_names}
use Rattle.scenario_gen.specs.Naming.{numbered}
use Rattle.scenario_gen.specs.Nodes.{controller, node, topology, node_at}
use Rattle.scenario_gen.specs.Ports.{port, ports_count}
use Rattle.scenario_gen.specs.Scenario.{config}
use Rattle.scenario_gen.specs.Schedule.{events, packet, packets}
use Rattle.scenario_gen.specs.Services.{services_of}
use Rattle.scenario_gen.specs.Tenants.{tenants}
use Rattle.scenario_gen.proofs.Ranges.{of_numbered, of_appended, has_numbered, map-map}

controllers_named : controller_names ≡ map (λ i. numbered (codes "c") i) (range_with_len 1 3)
unfolding topology controller
controllers_named = map-map (λ x. x.name) controller (range_with_len 1 3)

nodes_named : node_names ≡ map (λ i. numbered (codes "n") i) (range_with_len 1 20)
unfolding topology node
nodes_named = map-map (λ x. x.name) node (range_with_len 1 20)

ports_named : (n : ℕ) → port_names n ≡ map (λ x. numbered (codes "v") x) (range_with_len 0 (ports_count n))
unfolding config port
ports_named n = map-map (λ x. x.name) (port n) (range_with_len 0 (ports_count n))

controller_is_there : (i : ℕ) → i < 3 → Contains controller_names (numbered (codes "c") (1 + i))
controller_is_there i h = rw controllers_named (has_numbered (λ i. numbered (codes "c") i) 1 3 i (1 + i) refl h)

node_is_there : (count : ℕ) → Contains node_names (node_at count)
node_is_there count = rw nodes_named (has_numbered (λ i. numbered (codes "n") i) 1 20 (count % 20) (1 + count % 20) refl (omega arith))

port_is_there : (n x : ℕ) → x < ports_count n → Contains (port_names n) (numbered (codes "v") x)
port_is_there n x h = rw (ports_named n) (has_numbered (λ x. numbered (codes "v") x) 0 (ports_count n) x x (omega arith) h)

port_has_node : (n x : ℕ) → Contains node_names (port n x).node
unfolding port
port_has_node n x = node_is_there (7 * x + n)

pub ports_have_nodes : (n : ℕ) → All (λ p. Contains node_names p.node) (config n).ports
unfolding config
ports_have_nodes n = of_numbered (λ p. Contains node_names p.node) (port n) 0 (ports_count n) (λ x small. port_has_node n x)

services_of_tenant : (n t : ℕ) → All (λ s. Contains node_names s.node) (services_of n t)
unfolding services_of
services_of_tenant n t = All-from_recursion (λ s. Contains node_names s.node) (services_of n t) (node_is_there (3 * t + n), (node_is_there (3 * t + n + 1), tt))

pub services_have_nodes : (n : ℕ) → All (λ s. Contains node_names s.node) (config n).services
unfolding config
services_have_nodes n = of_appended (λ s. Contains node_names s.node) (services_of n) 0 (tenants n) (λ t small. services_of_tenant n t)

pub events_name_what_is : (n : ℕ) → All (NamesWhatIs n) (events n)
unfolding events
events_name_what_is n =
    All-from_recursion (NamesWhatIs n) (events n)
    (tt, ((controller_is_there 0 (omega arith), controller_is_there 1 (omega arith)), (node_is_there n, (port_is_there n 5 (omega arith), (tt, tt)))))

port_numbers : (n : ℕ) → map (λ p. p.id) (config n).ports ≡ map {A = ℕ} {B = PortNo} (λ x. record { 0 = x }) (range_with_len 0 (ports_count n))
unfolding config port
port_numbers n = map-map (λ p. p.id) (port n) (range_with_len 0 (ports_count n))

packet_leaves : (n q : ℕ) → Contains (map (λ p. p.id) (config n).ports) (packet n q).source
unfolding packet
packet_leaves n q =
    rw (port_numbers n) (has_numbered {X = PortNo} (λ x. record { 0 = x }) 0 (ports_count n) ((17 * q + n) % ports_count n) ((17 * q + n) % ports_count n) (omega arith) (mod_below (17 * q + n) (ports_count n) (omega arith)))

pub packets_leave_ports : (n : ℕ) → All (λ q. Contains (map (λ p. p.id) (config n).ports) q.source) (packets n)
packets_leave_ports n = of_numbered (λ q. Contains (map (λ p. p.id) (config n).ports) q.source) (packet n) 0 40 (λ q small. packet_leaves n q)
