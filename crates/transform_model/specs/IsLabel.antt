-- What a label of an agent is.
use Rattle.std.specs.Prelude.{◌≡◌, ◌⊎◌, ℕ}
use Rattle.ov_types.specs.declared.numbers.InstanceId.{InstanceId}
use Rattle.ov_types.specs.declared.numbers.Label.{Label}
use Rattle.ov_types.specs.declared.prefix.Addr.{Addr}
use Rattle.ov_types.specs.declared.rows.Attached.{Attached}
use Rattle.ov_types.specs.declared.rows.Attached.TheVariants as Is
use Rattle.node_model.specs.RouteTargets.Numbers.{port_label_of, circuit_instance_of, circuit_label_of}
use Rattle.acl_compile.specs.ConfigTypes.Config.{Config}
use Rattle.acl_compile.specs.ConfigTypes.Network.{Network}
use Rattle.acl_compile.specs.ConfigTypes.Port.{Port}
use Rattle.acl_compile.specs.ConfigTypes.Node.{Node}
use Rattle.acl_compile.specs.ConfigTypes.Topology.{Topology}
use Rattle.transform_model.specs.IsRow.{IsCircuitAt, IsPort}
use Rattle.transform_model.specs.IsUse.{IsUse, IsLeftCircuit, IsRightCircuit}
use Rattle.transform_model.specs.Uses.{ConfiguredUse, Circuit}

-- the instance of what a label leads to
abbrev pub instance_of : Attached → InstanceId
instance_of (Is.Port port instance) = instance
instance_of (Is.Circuit circuit service) = circuit_instance_of circuit

-- a label of the agent at an address, with what it leads to: a port at its node, or a circuit of a use in effect whose
-- service is there
pub data IsLabel (t : Topology) (c : Config) (a : Addr) (l : Label × Attached) : Type 0 where
  of_port : (home : Network) (port : Port) (node : Node) → IsPort t c home port node → a ≡ node.address
      → l ≡ (port_label_of port.id, Is.Port port.id home.id) → IsLabel t c a l
  of_circuit : (u : ConfiguredUse) (j : ℕ) (k : Circuit) (node : Node) → IsUse c u
      → IsLeftCircuit u j k ⊎ IsRightCircuit u j k → IsCircuitAt t k node → a ≡ node.address
      → l ≡ (circuit_label_of k.number, Is.Circuit k.number k.service.id) → IsLabel t c a l
