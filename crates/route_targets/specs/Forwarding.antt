-- The walk of a packet over the rows of agents, each of its six reasons to be dropped in a line of its own.
use Rattle.std.specs.Prelude.{ℕ, zero, suc, ◌==◌, List, [], ◌∷◌, ◌++◌, find, Option, Some, None, option_map}
use Rattle.std.specs.Prelude.{if◌then◌else◌}
use Rattle.std.specs.List.{filter_map}
use Rattle.ov_types.specs.Access.{verdict}
use Rattle.ov_types.specs.First.{first_of}
use Rattle.ov_types.specs.Prefix.{Block}
use Rattle.ov_types.specs.Routing.{longest}
use Rattle.ov_types.specs.declared.numbers.InstanceId.{InstanceId}
use Rattle.ov_types.specs.declared.numbers.Label.{Label}
use Rattle.ov_types.specs.declared.numbers.ServiceNo.{ServiceNo}
use Rattle.ov_types.specs.declared.packet.Outcome.{Outcome}
use Rattle.ov_types.specs.declared.packet.Outcome.TheVariants.{Delivered, Dropped}
use Rattle.ov_types.specs.declared.packet.Packet.{Packet}
use Rattle.ov_types.specs.declared.packet.Why.TheVariants as Why
use Rattle.ov_types.specs.declared.prefix.Addr.{Addr}
use Rattle.ov_types.specs.declared.rows.AgentRows.{AgentRows}
use Rattle.ov_types.specs.declared.rows.Attached.{Attached}
use Rattle.ov_types.specs.declared.rows.Attached.TheVariants.{Port, Circuit}
use Rattle.ov_types.specs.declared.rows.Entry.{Entry}
use Rattle.ov_types.specs.declared.verdict.Verdict.{Verdict}
use Rattle.ov_types.specs.declared.verdict.Verdict.TheVariants as Says
use Rattle.route_targets.specs.Numbers.{port_label_of, circuit_instance_of, other_side_of}

-- what an agent forwards by: its address, and its rows
pub record Forwarder : Type 0 where
  pub address : Addr
  pub rows : AgentRows

-- a route, where it is of an instance
abbrev pub route_in : InstanceId → (InstanceId × Block) × Entry → Option (Block × Entry)
route_in i r = if r.0.0.0 == i.0 then Some (r.0.1, r.1) else None

-- where an agent's routes of an instance lead an address: by the longest prefix that contains it
abbrev pub looked_up : AgentRows → InstanceId → ℕ → Option Entry
looked_up rows i address = option_map (λ r. r.1) (longest address (filter_map (route_in i) rows.routes))

-- what an agent has under a label
abbrev pub attached : AgentRows → Label → Option Attached
attached rows label = option_map (λ e. e.1) (find (λ e. e.0.0 == label.0) rows.labels)

-- the first agent of an address
abbrev pub agent_at : List Forwarder → Addr → Option Forwarder
agent_at agents address = find (λ g. g.address.0 == address.0) agents

-- what is under a label: a port is delivered to, and a circuit's service is visited, behind which the packet is looked
-- up in the instance of the circuit's other side. `again` is the walk from there on
abbrev pub visited : (List ServiceNo → InstanceId → Outcome) → List ServiceNo → Option Attached → Outcome
visited again services None = Dropped Why.NoLabel
visited again services (Some (Port port instance)) = Delivered port services
visited again services (Some (Circuit circuit service)) =
    again (services ++ service ∷ []) (circuit_instance_of (other_side_of circuit))

-- the packet goes to the agent of the next hop, under the label
abbrev pub handed : (Forwarder → List ServiceNo → InstanceId → Outcome) → List ServiceNo → Label → Option Forwarder
    → Outcome
handed again services label None = Dropped Why.NoLabel
handed again services label (Some g) = visited (again g) services (attached g.rows label)

abbrev pub followed : (Forwarder → List ServiceNo → InstanceId → Outcome) → List Forwarder → List ServiceNo
    → Option Entry → Outcome
followed again agents services None = Dropped Why.NoRoute
followed again agents services (Some e) = handed again services e.label (agent_at agents e.next_hop)

-- the walk to an address with so many lookups left, from an agent, in an instance, behind these services
abbrev pub walk : List Forwarder → ℕ → ℕ → Forwarder → List ServiceNo → InstanceId → Outcome
walk agents address zero f services i = Dropped Why.TtlExpired
walk agents address (suc left) f services i =
    followed (walk agents address left) agents services (looked_up f.rows i address)

-- what the access lists of the first agent say is done
abbrev pub admitted : List Forwarder → ℕ → Forwarder → InstanceId → Verdict → Outcome
admitted agents address f network Says.Pass = walk agents address 64 f [] network
admitted agents address f network (Says.Enter instance) = walk agents address 64 f [] instance
admitted agents address f network (Says.Denied rule) = Dropped (Why.Denied rule)
admitted agents address f network Says.NoDestination = Dropped Why.NoDestination

-- the instance of a port's network, where the label of that port is a port's
abbrev pub as_port : Option Attached → Option InstanceId
as_port (Some (Port port instance)) = Some instance
as_port (Some (Circuit circuit service)) = None
as_port None = None

abbrev pub source_at : Packet → Forwarder → Option (Forwarder × InstanceId)
source_at p f = option_map (λ network. (f, network)) (as_port (attached f.rows (port_label_of p.source)))

abbrev pub departed : List Forwarder → Packet → Option (Forwarder × InstanceId) → Outcome
departed agents p None = Dropped Why.NoSourcePort
departed agents p (Some s) = admitted agents p.destination.0 s.0 s.1 (verdict s.0.rows.acls s.1.0 p)

-- what becomes of a packet: it starts at the first agent that has its source port
unfoldable pub forwarding : List Forwarder → Packet → Outcome
forwarding agents p = departed agents p (first_of (source_at p) agents)
