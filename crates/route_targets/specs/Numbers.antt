-- The numbers that the configuration's own numbers determine. A network's instance has the network's number.
use Rattle.std.specs.Prelude.{ℕ, ◌+◌, ◌-◌, ◌*◌, ◌/◌, ◌%◌, ◌^◌, ◌==◌, Bool, true, false, nat_le, if◌then◌else◌, Option, Some, None}
use Rattle.ov_types.specs.declared.prefix.Addr.{Addr}
use Rattle.ov_types.specs.declared.numbers.InstanceId.{InstanceId}
use Rattle.ov_types.specs.declared.numbers.PortNo.{PortNo}
use Rattle.ov_types.specs.declared.numbers.Label.{Label}
use Rattle.ov_types.specs.declared.numbers.Rd.{Rd}
use Rattle.ov_types.specs.declared.targets.Target.{Target}
use Rattle.route_targets.specs.declared.numbers.UseHop.{UseHop}

-- the instance of a hop of a chain's use, where a use has 16 numbers: hop 0 is before the first service, hop j behind
-- service j
abbrev pub hop_instance_of : ℕ → ℕ → InstanceId
hop_instance_of use_no hop = record { 0 = 16384 + 16 * use_no + hop }

-- the hop that an instance is of: none where it is a network's
abbrev pub hop_of : InstanceId → Option UseHop
hop_of instance = if nat_le instance.0 16383 then None
    else Some (record { use_no = (instance.0 - 16384) / 16; place = (instance.0 - 16384) % 16 })

-- the target of an instance. Where the AS number is short: the octets 00 and 02, two octets of the AS number, and four of
-- 8000000 and the instance (RFC 4360). Else the octets 02 and 02, four of the AS number, and two of the instance (RFC 5668)
abbrev target_by : Bool → ℕ → InstanceId → Target
target_by true asn instance = record { 0 = 0x0002 * 2 ^ 48 + asn * 2 ^ 32 + (8000000 + instance.0) }
target_by false asn instance = record { 0 = 0x0202 * 2 ^ 48 + asn * 2 ^ 16 + instance.0 }

-- an AS number is short where it is at most the last of two octets that is not reserved
abbrev pub target_of : ℕ → InstanceId → Target
target_of asn instance = target_by (nat_le asn 65534) asn instance

-- the distinguisher of an instance's routes at a node: type 1, the node's address, the instance's number
abbrev pub distinguisher_of : Addr → InstanceId → Rd
distinguisher_of node instance = record { 0 = 2 ^ 48 + node.0 * 2 ^ 16 + instance.0 }

-- the label of a port: labels 0 to 15 are reserved
abbrev pub port_label_of : PortNo → Label
port_label_of port = record { 0 = 16 + port.0 }

-- the circuits of a use's services, which count from 1: the left one is in the instance of the hop before the service,
-- the right one in that behind it
abbrev pub left_circuit_of : ℕ → ℕ → ℕ
left_circuit_of use_no service = 2 * (hop_instance_of use_no (service - 1)).0 + 1

abbrev pub right_circuit_of : ℕ → ℕ → ℕ
right_circuit_of use_no service = 2 * (hop_instance_of use_no service).0

-- the instance, the label and the host address of a circuit
abbrev pub circuit_instance_of : ℕ → InstanceId
circuit_instance_of circuit = record { 0 = circuit / 2 }

abbrev pub circuit_label_of : ℕ → Label
circuit_label_of circuit = record { 0 = 2 ^ 19 + circuit }

abbrev pub circuit_address_of : ℕ → Addr
circuit_address_of circuit = record { 0 = 250 * 2 ^ 24 + circuit }

-- the circuit on the other side of the same service: left circuits are odd, right ones even
abbrev pub other_side_of : ℕ → ℕ
other_side_of circuit = if circuit % 2 == 0 then circuit - 1 else circuit + 1
