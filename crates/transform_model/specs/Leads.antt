-- Where rows lead, part by part.
use Rattle.std.specs.Prelude.{◌≡◌}
use Rattle.ov_types.specs.Prefix.{Block, host_prefix}
use Rattle.ov_types.specs.declared.numbers.InstanceId.{InstanceId}
use Rattle.node_model.specs.RouteTargets.Numbers.{circuit_label_of, distinguisher_of, port_label_of}
use Rattle.acl_compile.specs.ConfigTypes.Network.{Network}
use Rattle.acl_compile.specs.ConfigTypes.Port.{Port}
use Rattle.acl_compile.specs.ConfigTypes.Node.{Node}
use Rattle.transform_model.specs.Tables.{Row}
use Rattle.transform_model.specs.Uses.{Circuit}

-- to a port of a network: its address to its node by its label, and the distinguisher of that node with the network
pub record LeadsToPort (i : InstanceId) (home : Network) (node : Node) (port : Port) (r : Row) : Type 0 where
  pub instance : r.0.0 ≡ i
  pub prefix : r.0.1 ≡ host_prefix port.address.0
  pub distinguisher : r.1.rd ≡ distinguisher_of node.address home.id
  pub next_hop : r.1.next_hop ≡ node.address
  pub label : r.1.label ≡ port_label_of port.id

-- to or towards a circuit: a prefix to the node of its service by its label, and the distinguisher of that node with
-- the instance of the row
pub record LeadsToCircuit (i : InstanceId) (prefix : Block) (k : Circuit) (node : Node) (r : Row) : Type 0 where
  pub instance : r.0.0 ≡ i
  pub prefix_is : r.0.1 ≡ prefix
  pub distinguisher : r.1.rd ≡ distinguisher_of node.address i
  pub next_hop : r.1.next_hop ≡ node.address
  pub label : r.1.label ≡ circuit_label_of k.number
