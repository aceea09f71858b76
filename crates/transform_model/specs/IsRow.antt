-- What a row of an instance's table is.
use Rattle.std.specs.Prelude.{◌≡◌, ◌⊎◌, ℕ, IsTrue}
use Rattle.std.specs.List.{Contains}
use Rattle.ov_types.specs.Prefix.{Block, contains, host_prefix}
use Rattle.ov_types.specs.declared.numbers.InstanceId.{InstanceId}
use Rattle.node_model.specs.RouteTargets.Numbers.{circuit_address_of, hop_instance_of}
use Rattle.acl_compile.specs.ConfigTypes.Config.{Config}
use Rattle.acl_compile.specs.ConfigTypes.Network.{Network}
use Rattle.acl_compile.specs.ConfigTypes.Port.{Port}
use Rattle.acl_compile.specs.ConfigTypes.Node.{Node}
use Rattle.acl_compile.specs.ConfigTypes.Topology.{Topology}
use Rattle.acl_compile.specs.PolicyRules.Standing.{PassesBetween}
use Rattle.std.specs.Prelude.{length, ◌+◌}
use Rattle.transform_model.specs.IsUse.{IsUse, IsLeftCircuit, IsRightCircuit}
use Rattle.transform_model.specs.Tables.{Row, host_route, circuit_route}
use Rattle.transform_model.specs.Uses.{ConfiguredUse, Circuit}

-- a port of a network, and the node where it is
pub record IsPort (t : Topology) (c : Config) (home : Network) (port : Port) (node : Node) : Type 0 where
  pub has_home : Contains c.networks home
  pub has_port : Contains c.ports port
  pub has_node : Contains t.nodes node
  pub home_of : port.network ≡ home.name
  pub node_of : node.name ≡ port.node

-- a circuit's service is at this node
pub record IsCircuitAt (t : Topology) (k : Circuit) (node : Node) : Type 0 where
  pub has_node : Contains t.nodes node
  pub node_of : node.name ≡ k.service.node

-- a subnet of a network that holds a port of it
pub record HoldsPort (c : Config) (n : Network) (prefix : Block) : Type 0 where
  pub port : Port
  pub has_subnet : Contains n.subnets prefix
  pub has_port : Contains c.ports port
  pub home_of : port.network ≡ n.name
  pub holds : IsTrue (contains prefix port.address.0)

pub data IsRow (t : Topology) (c : Config) (i : InstanceId) (r : Row) : Type 0 where
  -- in the instance of a network, the route to a port whose network it imports: its own, or one with a pass rule
  -- between the two
  to_port : (network home : Network) (port : Port) (node : Node) → Contains c.networks network
      → IsPort t c home port node → (network.name ≡ home.name) ⊎ PassesBetween c network home
      → i ≡ network.id → r ≡ host_route i home node port → IsRow t c i r
  -- behind service j of a use in effect and before the next, the route to the circuit that leads into the next
  to_left_circuit : (u : ConfiguredUse) (j : ℕ) (k : Circuit) (node : Node) → IsUse c u → IsLeftCircuit u j k
      → IsCircuitAt t k node → i ≡ hop_instance_of u.number j
      → r ≡ circuit_route i (host_prefix (circuit_address_of k.number).0) k node → IsRow t c i r
  -- behind service j of a use in effect and before the next, the route to the circuit that leads back
  to_right_circuit : (u : ConfiguredUse) (j : ℕ) (k : Circuit) (node : Node) → IsUse c u → IsRightCircuit u j k
      → IsCircuitAt t k node → i ≡ hop_instance_of u.number (j + 1)
      → r ≡ circuit_route i (host_prefix (circuit_address_of k.number).0) k node → IsRow t c i r
  -- a subnet of the right network that holds a port of it, towards the circuit that leads on
  to_right_subnet : (u : ConfiguredUse) (j : ℕ) (k : Circuit) (node : Node) (prefix : Block) → IsUse c u
      → IsLeftCircuit u j k → IsCircuitAt t k node → HoldsPort c u.right prefix
      → i ≡ hop_instance_of u.number j → r ≡ circuit_route i prefix k node → IsRow t c i r
  -- a subnet of the left network that holds a port of it, towards the circuit that leads back
  to_left_subnet : (u : ConfiguredUse) (j : ℕ) (k : Circuit) (node : Node) (prefix : Block) → IsUse c u
      → IsRightCircuit u j k → IsCircuitAt t k node → HoldsPort c u.left prefix
      → i ≡ hop_instance_of u.number (j + 1) → r ≡ circuit_route i prefix k node → IsRow t c i r
  -- before the first service the route to a port of the left network, and behind the last to one of the right
  at_left_end : (u : ConfiguredUse) (port : Port) (node : Node) → IsUse c u → IsPort t c u.left port node
      → i ≡ hop_instance_of u.number 0 → r ≡ host_route i u.left node port → IsRow t c i r
  at_right_end : (u : ConfiguredUse) (port : Port) (node : Node) → IsUse c u → IsPort t c u.right port node
      → i ≡ hop_instance_of u.number (length u.services) → r ≡ host_route i u.right node port → IsRow t c i r
