-- What an agent needs and has.
use Rattle.std.specs.Prelude.{◌≡◌, ◌⊎◌, ℕ, length}
use Rattle.std.specs.List.{Contains}
use Rattle.ov_types.specs.Prefix.{Block}
use Rattle.ov_types.specs.declared.numbers.InstanceId.{InstanceId}
use Rattle.ov_types.specs.declared.objects.LowKey.TheVariants as Key
use Rattle.ov_types.specs.declared.prefix.Addr.{Addr}
use Rattle.ov_types.specs.declared.rows.Entry.{Entry}
use Rattle.node_model.specs.RouteTargets.Numbers.{circuit_instance_of, hop_instance_of}
use Rattle.acl_compile.specs.ConfigTypes.Config.{Config}
use Rattle.acl_compile.specs.ConfigTypes.Direction.TheVariants.{BothWays}
use Rattle.acl_compile.specs.ConfigTypes.Network.{Network}
use Rattle.acl_compile.specs.ConfigTypes.Port.{Port}
use Rattle.acl_compile.specs.ConfigTypes.Node.{Node}
use Rattle.acl_compile.specs.ConfigTypes.Topology.{Topology}
use Rattle.acl_compile.specs.PolicyRules.Standing.{AreRelated}
use Rattle.acl_compile.specs.Oriented.{acl_value}
use Rattle.transform_model.specs.IsRow.{IsCircuitAt, IsPort, IsRow}
use Rattle.transform_model.specs.IsUse.{IsUse, IsLeftCircuit, IsRightCircuit}
use Rattle.transform_model.specs.Objects.{LowObject}
use Rattle.transform_model.specs.Tables.{Row}
use Rattle.transform_model.specs.Uses.{ConfiguredUse, Circuit}

-- a port of a network is at the node of an address
pub record HasPortAt (t : Topology) (c : Config) (a : Addr) (n : Network) : Type 0 where
  pub port : Port
  pub node : Node
  pub at : IsPort t c n port node
  pub address : a ≡ node.address

-- the agent at an address needs an instance
pub data IsNeeded (t : Topology) (c : Config) (a : Addr) (i : InstanceId) : Type 0 where
  -- the instance of the network of a port there, and of a circuit there
  by_port : (n : Network) → HasPortAt t c a n → i ≡ n.id → IsNeeded t c a i
  by_circuit : (u : ConfiguredUse) (j : ℕ) (k : Circuit) (node : Node) → IsUse c u → IsLeftCircuit u j k ⊎ IsRightCircuit u j k
      → IsCircuitAt t k node → a ≡ node.address → i ≡ circuit_instance_of k.number → IsNeeded t c a i
  -- where packets of a port there enter a chain: that of the first hop, from the left network
  by_first_hop : (u : ConfiguredUse) → IsUse c u → HasPortAt t c a u.left → i ≡ hop_instance_of u.number 0 → IsNeeded t c a i
  -- where packets of a port there enter a chain from the right network, by a rule of both directions: the instance of
  -- the last hop
  by_last_hop : (u : ConfiguredUse) (used : IsUse c u) → used.rule.direction ≡ BothWays → HasPortAt t c a u.right
      → i ≡ hop_instance_of u.number (length u.services) → IsNeeded t c a i

-- an access list of the agent at an address: of the network of a port there, towards itself or one related to it
pub record IsAccessList (t : Topology) (c : Config) (a : Addr) (o : LowObject) : Type 0 where
  pub from : Network
  pub to : Network
  pub has_port : HasPortAt t c a from
  pub has_to : Contains c.networks to
  pub around : (from ≡ to) ⊎ AreRelated c from to
  pub is : o ≡ (Key.Acl from.id.0 to.id.0, acl_value c from to)

-- a route of the agent at an address: a row of an instance that it needs, without the row's distinguisher
pub record IsRoute (t : Topology) (c : Config) (a : Addr) (q : (InstanceId × Block) × Entry) : Type 0 where
  pub row : Row
  pub needed : IsNeeded t c a row.0.0
  pub stands : IsRow t c row.0.0 row
  pub key : q.0 ≡ row.0
  pub next_hop : q.1.next_hop ≡ row.1.next_hop
  pub label : q.1.label ≡ row.1.label
