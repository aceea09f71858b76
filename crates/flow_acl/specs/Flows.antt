-- Verdicts that are kept by their flows, the last used first.
use Rattle.std.specs.Prelude.{◌≡◌, Bool, List, ◌∷◌, take}
use Rattle.std.specs.List.{All}
use Rattle.std.specs.Map.{lookup_entry, remove_entry}
use Rattle.std.specs.Option.{option_map_or}
use Rattle.ov_types.specs.Access.{verdict}
use Rattle.ov_types.specs.declared.numbers.InstanceId.{InstanceId}
use Rattle.ov_types.specs.declared.numbers.PortNo.{PortNo}
use Rattle.ov_types.specs.declared.objects.LowKey.{LowKey}
use Rattle.ov_types.specs.declared.objects.LowValue.{LowValue}
use Rattle.ov_types.specs.declared.packet.Packet.{Packet}
use Rattle.ov_types.specs.declared.verdict.Verdict.{Verdict}
use Rattle.flow_acl.specs.declared.flow.FlowKey.{FlowKey}
use Rattle.flow_acl.specs.contracts.flow.FlowKeyPartialEq.TheImpl as flows

-- the flow of a packet that leaves a network
abbrev pub flow_of : InstanceId → Packet → FlowKey
flow_of network p = record { network = network; destination = p.destination; tuple = p.tuple }

-- two packets that leave networks agree in all that a flow is: the network, where they go, and their tuple. Which ports
-- they come from is no part of it
pub record GoAlike (left other : InstanceId) (p q : Packet) : Type 0 where
  pub network : left ≡ other
  pub destination : p.destination ≡ q.destination
  pub tuple : p.tuple ≡ q.tuple

-- a packet of a flow, from a port
abbrev pub packet_of : FlowKey → PortNo → Packet
packet_of f source = record { source = source; destination = f.destination; tuple = f.tuple }

-- two flows are one
abbrev pub is_flow : FlowKey → FlowKey → Bool
is_flow = flows.ghosts.eq

-- a kept verdict is what the lists say of the packets of its flow, whatever port they come from
abbrev pub IsOf : List (LowKey × LowValue) → FlowKey × Verdict → Type 0
IsOf lists e = (source : PortNo) → e.1 ≡ verdict lists e.0.network.0 (packet_of e.0 source)

-- each kept verdict is what the lists say of the packets of its flow
abbrev pub AreOf : List (LowKey × LowValue) → List (FlowKey × Verdict) → Type 0
AreOf lists kept = All (IsOf lists) kept

-- the entry of a flow first, and the others behind it as they were; where there is none nothing changes
abbrev pub used : FlowKey → List (FlowKey × Verdict) → List (FlowKey × Verdict)
used f kept = option_map_or (λ e. e ∷ remove_entry (is_flow f) kept) (lookup_entry (is_flow f) kept) kept

-- a new entry first, and behind it those that were there, where there were 1024 without the last
abbrev pub with_new : FlowKey → Verdict → List (FlowKey × Verdict) → List (FlowKey × Verdict)
with_new f v kept = (f, v) ∷ take 1023 kept
