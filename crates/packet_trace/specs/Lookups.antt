-- The lookups of a packet, in order: a walk beside that of its outcome.
use Rattle.std.specs.Prelude.{ℕ, zero, suc, List, [], ◌∷◌, Option, Some, None, map}
use Rattle.ov_types.specs.Access.{verdict}
use Rattle.ov_types.specs.First.{first_of}
use Rattle.ov_types.specs.declared.numbers.InstanceId.{InstanceId}
use Rattle.ov_types.specs.declared.numbers.Label.{Label}
use Rattle.ov_types.specs.declared.numbers.PortNo.{PortNo}
use Rattle.ov_types.specs.declared.numbers.ServiceNo.{ServiceNo}
use Rattle.ov_types.specs.declared.packet.Packet.{Packet}
use Rattle.ov_types.specs.declared.packet.Why.{Why}
use Rattle.ov_types.specs.declared.packet.Why.TheVariants.{NoLabel, NoRoute}
use Rattle.ov_types.specs.declared.rows.Attached.{Attached}
use Rattle.ov_types.specs.declared.rows.Attached.TheVariants.{Port, Circuit}
use Rattle.ov_types.specs.declared.rows.Entry.{Entry}
use Rattle.ov_types.specs.declared.verdict.Verdict.{Verdict}
use Rattle.ov_types.specs.declared.verdict.Verdict.TheVariants as Says
use Rattle.route_targets.specs.Forwarding.{Forwarder, agent_at, attached, looked_up, source_at}
use Rattle.route_targets.specs.Numbers.{circuit_instance_of, other_side_of}
use Rattle.packet_trace.specs.declared.hops.Hop.{Hop}

-- a lookup: at an agent, in an instance
pub record Lookup : Type 0 where
  pub agent : Forwarder
  pub instance : InstanceId

-- what a lookup leads to: a port, a reason to drop the packet, or a service, behind which is the next lookup
pub data Leading : Type 0 where
  Arrives : PortNo → Leading
  Stops : Why → Leading
  Passes : ServiceNo → Lookup → Leading

-- by what is under the label at an agent
abbrev pub leading_at : Forwarder → Option Attached → Leading
leading_at g None = Stops NoLabel
leading_at g (Some (Port port instance)) = Arrives port
leading_at g (Some (Circuit circuit service)) =
    Passes service (record { agent = g; instance = circuit_instance_of (other_side_of circuit) })

abbrev pub leading_to : Label → Option Forwarder → Leading
leading_to label None = Stops NoLabel
leading_to label (Some g) = leading_at g (attached g.rows label)

abbrev pub leading_by : List Forwarder → Option Entry → Leading
leading_by agents None = Stops NoRoute
leading_by agents (Some e) = leading_to e.label (agent_at agents e.next_hop)

abbrev pub leading : List Forwarder → ℕ → Lookup → Leading
leading agents address l = leading_by agents (looked_up l.agent.rows l.instance address)

-- a lookup, and those behind the service that it leads to
abbrev pub on_from : (Lookup → List Lookup) → Leading → List Lookup
on_from again (Arrives port) = []
on_from again (Stops why) = []
on_from again (Passes service l) = again l

-- the lookups from one on, with so many left
abbrev pub lookups_from : List Forwarder → ℕ → ℕ → Lookup → List Lookup
lookups_from agents address zero l = []
lookups_from agents address (suc left) l = l ∷ on_from (lookups_from agents address left) (leading agents address l)

-- the service that a lookup leads to
abbrev pub service_of : Leading → Option ServiceNo
service_of (Arrives port) = None
service_of (Stops why) = None
service_of (Passes service l) = Some service

abbrev pub lookups_by : List Forwarder → ℕ → Forwarder → InstanceId → Verdict → List Lookup
lookups_by agents address f network Says.Pass =
    lookups_from agents address 64 (record { agent = f; instance = network })
lookups_by agents address f network (Says.Enter instance) =
    lookups_from agents address 64 (record { agent = f; instance = instance })
lookups_by agents address f network (Says.Denied rule) = []
lookups_by agents address f network Says.NoDestination = []

abbrev pub lookups_at : List Forwarder → Packet → Option (Forwarder × InstanceId) → List Lookup
lookups_at agents p None = []
lookups_at agents p (Some s) = lookups_by agents p.destination.0 s.0 s.1 (verdict s.0.rows.acls s.1.0 p)

-- the lookups of a packet
unfoldable pub lookups : List Forwarder → Packet → List Lookup
lookups agents p = lookups_at agents p (first_of (source_at p) agents)

abbrev pub hop_of : Lookup → Hop
hop_of l = record { node = l.agent.address; instance = l.instance }

-- the address and the instance of each lookup of a packet
abbrev pub hops_of : List Forwarder → Packet → List Hop
hops_of agents p = map hop_of (lookups agents p)
