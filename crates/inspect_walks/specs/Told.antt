-- What is told of a step: names beside numbers, where there are some.
use Rattle.std.specs.Prelude.{◌≡◌, ℕ, ◌==◌, List, map, find, Option, Some, None, option_map}
use Rattle.ov_types.specs.declared.numbers.InstanceId.{InstanceId}
use Rattle.ov_types.specs.declared.numbers.PortNo.{PortNo}
use Rattle.ov_types.specs.declared.numbers.ServiceNo.{ServiceNo}
use Rattle.ov_types.specs.declared.packet.Outcome.{Outcome}
use Rattle.ov_types.specs.declared.packet.Packet.{Packet}
use Rattle.ov_types.specs.declared.prefix.Addr.{Addr}
use Rattle.route_targets.specs.Numbers.{hop_of}
use Rattle.route_targets.specs.declared.numbers.UseHop.{UseHop}
use Rattle.packet_trace.specs.Lookups.{Leading, Arrives, Stops, Passes}
use Rattle.config_types.specs.declared.config.Config.{Config}
use Rattle.config_types.specs.declared.config.Network.{Network}
use Rattle.config_types.specs.declared.topology.Topology.{Topology}
use Rattle.config_check.specs.Checked.{Checked}
use Rattle.config_check.specs.Finding.{network_numbered, port_numbered}
use Rattle.inspect_walks.specs.Following.{IsWalk}
use Rattle.inspect_walks.specs.Walks.{Step, compiled_agents, compiled_walk}
use Rattle.inspect_walks.specs.declared.told_step.Owner.{Owner}
use Rattle.inspect_walks.specs.declared.told_step.Owner.TheVariants as Of
use Rattle.inspect_walks.specs.declared.told_step.LeadsTo.{LeadsTo}
use Rattle.inspect_walks.specs.declared.told_step.LeadsTo.TheVariants as To
use Rattle.inspect_walks.specs.declared.told_step.ToldStep.{ToldStep}

-- the name of the first compute node of an address
abbrev pub node_name : Topology → Addr → Option (List ℕ)
node_name t address = option_map (λ n. n.name) (find (λ n. n.address.0 == address.0) t.nodes)

abbrev pub port_name : Config → PortNo → Option (List ℕ)
port_name c port = option_map (λ p. p.name) (port_numbered c port.0)

abbrev pub service_name : Config → ServiceNo → Option (List ℕ)
service_name c service = option_map (λ s. s.name) (find (λ s. s.id.0 == service.0) c.services)

-- what an instance is of: a network, or a hop of a use
abbrev pub owner_by : Option Network → Option UseHop → Owner
owner_by (Some n) h = Of.Network n.name
owner_by None (Some h) = Of.Hop h
owner_by None None = Of.Nothing

abbrev pub owner_of : Config → InstanceId → Owner
owner_of c instance = owner_by (network_numbered c instance.0) (hop_of instance)

abbrev pub leads_to : Config → Leading → LeadsTo
leads_to c (Arrives port) = To.Port port (port_name c port)
leads_to c (Stops why) = To.Nothing
leads_to c (Passes service l) = To.Service service (service_name c service)

abbrev pub told : Checked → Step → ToldStep
told x s = record {
  agent = node_name x.topology s.lookup.agent.address;
  instance = s.lookup.instance;
  owner = owner_of x.config s.lookup.instance;
  row = s.row;
  leads = leads_to x.config s.leads;
}

-- what is told of the walk of a packet over compiled tables
unfoldable pub told_walk : Checked → Packet → List ToldStep
told_walk x p = map (told x) (compiled_walk x p)

-- what is told of the walk of a packet over compiled tables, which comes to an outcome: of each step in order
pub record TellsWalk (x : Checked) (p : Packet) (outcome : Outcome) (lines : List ToldStep) : Type 0 where
  pub steps : List Step
  pub walk : IsWalk (compiled_agents x) p outcome steps
  pub are : lines ≡ map (told x) steps
