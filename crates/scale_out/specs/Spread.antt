-- What becomes of a packet, with the members that it visits.
use Rattle.std.specs.Prelude.{ℕ, ◌+◌, List, [], map}
use Rattle.std.specs.Option.{option_map_or}
use Rattle.ov_types.specs.declared.numbers.PortNo.{PortNo}
use Rattle.ov_types.specs.declared.numbers.ServiceNo.{ServiceNo}
use Rattle.ov_types.specs.declared.packet.Outcome.{Outcome}
use Rattle.ov_types.specs.declared.packet.Outcome.TheVariants as Outcomes
use Rattle.ov_types.specs.declared.packet.Packet.{Packet}
use Rattle.config_types.specs.declared.config.Config.{Config}
use Rattle.policy_rules.specs.Answering.{answering}
use Rattle.config_check.specs.Finding.{port_numbered}
use Rattle.reach_plain.specs.Reachability.{reachability}
use Rattle.scale_out.specs.declared.groups.Group.{Group}
use Rattle.scale_out.specs.declared.visits.Spread.{Spread}
use Rattle.scale_out.specs.declared.visits.Spread.TheVariants.{Delivered, Dropped}
use Rattle.scale_out.specs.declared.visits.Visit.{Visit}
use Rattle.scale_out.specs.Choice.{chosen}
use Rattle.scale_out.specs.Groups.{members_of}

-- the address of the port that a packet leaves; without such a port, 0
abbrev pub source_address : Config → Packet → ℕ
source_address c p = option_map_or (λ q. q.address.0) (port_numbered c p.source.0) 0

-- the sum of the source port's address, the destination, both ports of the tuple and the protocol
abbrev pub key : Config → Packet → ℕ
key c p = source_address c p + p.destination.0 + p.tuple.sport + p.tuple.dport + p.tuple.proto

-- a visit of a service by a packet with a key, at the chosen member of its group
abbrev pub visit_by : Config → List Group → ℕ → ServiceNo → Visit
visit_by c groups k s = record { service = s; member = chosen (members_of c groups s) k }

-- an outcome with each service replaced by a visit of it
abbrev pub visiting : (ServiceNo → Visit) → Outcome → Spread
visiting visit (Outcomes.Delivered port services) = Delivered port (map visit services)
visiting visit (Outcomes.Dropped why) = Dropped why

unfoldable pub spread : Config → List Group → Packet → Spread
spread c groups p = visiting (visit_by c groups (key c p)) (reachability c p)

-- the outcome without the members
abbrev pub services_of : Spread → Outcome
services_of (Delivered port visits) = Outcomes.Delivered port (map (λ v. v.service) visits)
services_of (Dropped why) = Outcomes.Dropped why

-- the visits of a packet; a dropped one has none
abbrev pub visits_of : Spread → List Visit
visits_of (Delivered port visits) = visits
visits_of (Dropped why) = []

-- the packet from a port to the source of another packet, with the ports exchanged
abbrev pub reply : Config → Packet → PortNo → Packet
reply c p port = record {
  source = port;
  destination = record { 0 = source_address c p };
  tuple = answering p.tuple;
}
