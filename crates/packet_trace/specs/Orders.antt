-- Lists of the same agents, and agents that are told apart by their addresses and their ports.
use Rattle.std.specs.Prelude.{◌≡◌, ◌≢◌, ◌↔◌, List, Some}
use Rattle.std.specs.List.{AllPairs, Contains}
use Rattle.ov_types.specs.declared.numbers.InstanceId.{InstanceId}
use Rattle.ov_types.specs.declared.numbers.Label.{Label}
use Rattle.ov_types.specs.declared.numbers.PortNo.{PortNo}
use Rattle.ov_types.specs.declared.rows.Attached.TheVariants.{Port}
use Rattle.route_targets.specs.Forwarding.{Forwarder, attached}
use Rattle.route_targets.specs.Numbers.{port_label_of}

-- two lists have the same agents, in whatever order, and however often
abbrev pub HaveTheSameAgents : List Forwarder → List Forwarder → Type 0
HaveTheSameAgents agents others = (f : Forwarder) → Contains agents f ↔ Contains others f

-- no two agents have one address
abbrev pub HaveDistinctAddresses : List Forwarder → Type 0
HaveDistinctAddresses agents = AllPairs (λ f g. f.address ≢ g.address) agents

-- a label leads to a port at an agent
pub record LeadsToAPort (label : Label) (agent : Forwarder) : Type 0 where
  pub port : PortNo
  pub instance : InstanceId
  pub leads : attached agent.rows label ≡ Some (Port port instance)

-- a port is listed at no two agents: at no two does its label lead to a port
abbrev pub IsAtNoTwo : PortNo → List Forwarder → Type 0
IsAtNoTwo port agents =
    AllPairs (λ f g. ¬ (LeadsToAPort (port_label_of port) f × LeadsToAPort (port_label_of port) g)) agents
