-- What a low-level object is.
use Rattle.std.specs.Prelude.{◌≡◌, ◌⊎◌, ◌↔◌, ◌<◌, ℕ, List}
use Rattle.std.specs.List.{AllPairs, AllZip, Contains}
use Rattle.ov_types.specs.declared.numbers.InstanceId.{InstanceId}
use Rattle.ov_types.specs.declared.numbers.ServiceNo.{ServiceNo}
use Rattle.ov_types.specs.declared.objects.LowValue.TheVariants as Value
use Rattle.ov_types.specs.declared.objects.LowKey.TheVariants as Key
use Rattle.ov_types.specs.declared.prefix.Addr.{Addr}
use Rattle.acl_compile.specs.ConfigTypes.Config.{Config}
use Rattle.acl_compile.specs.ConfigTypes.Network.{Network}
use Rattle.acl_compile.specs.ConfigTypes.Port.{Port}
use Rattle.acl_compile.specs.ConfigTypes.Service.{Service}
use Rattle.acl_compile.specs.ConfigTypes.Node.{Node}
use Rattle.acl_compile.specs.ConfigTypes.Topology.{Topology}
use Rattle.acl_compile.specs.PolicyRules.Standing.{AreRelated, PassesBetween}
use Rattle.acl_compile.specs.Oriented.{acl_value, ascending}
use Rattle.transform_model.specs.IsRow.{IsCircuitAt, IsPort}
use Rattle.transform_model.specs.IsUse.{IsUse, IsLeftCircuit, IsRightCircuit}
use Rattle.transform_model.specs.Objects.{LowObject, attached_circuit, attached_port}
use Rattle.transform_model.specs.Uses.{ConfiguredUse, Circuit}

-- the imports of a network, ascending: its own instance, and that of each network with a pass rule between the two
pub record AreImports (c : Config) (n : Network) (is : List InstanceId) : Type 0 where
  pub exactly : (b : Network) → Contains c.networks b
      → Contains is b.id ↔ ((n.name ≡ b.name) ⊎ PassesBetween c n b)
  pub of_networks : (i : InstanceId) → Contains is i → (b : Network) × Contains c.networks b × (b.id ≡ i)
  pub ascend : AllPairs (λ i j. i.0 < j.0) is

-- a service with the address of its node
pub record IsHop (t : Topology) (s : Service) (hop : ServiceNo × Addr) : Type 0 where
  pub node : Node
  pub has_node : Contains t.nodes node
  pub node_of : node.name ≡ s.node
  pub is : hop ≡ (s.id, node.address)

pub data IsObject (t : Topology) (c : Config) (o : LowObject) : Type 0 where
  -- a network gives its instance with its imports
  of_network : (n : Network) (is : List InstanceId) → Contains c.networks n → AreImports c n is
      → o ≡ (Key.Instance n.id.0, Value.Instance is) → IsObject t c o
  -- a port gives its attachment in the instance of its network, at its node
  of_port : (n : Network) (p : Port) (node : Node) → IsPort t c n p node → o ≡ attached_port p n node → IsObject t c o
  -- each service of a use in effect gives the attachments of its two circuits, at its node
  of_left_circuit : (u : ConfiguredUse) (j : ℕ) (k : Circuit) (node : Node) → IsUse c u → IsLeftCircuit u j k
      → IsCircuitAt t k node → o ≡ attached_circuit k node → IsObject t c o
  of_right_circuit : (u : ConfiguredUse) (j : ℕ) (k : Circuit) (node : Node) → IsUse c u → IsRightCircuit u j k
      → IsCircuitAt t k node → o ≡ attached_circuit k node → IsObject t c o
  -- a network gives an access list towards itself, and one towards each that is related to it
  of_networks : (a b : Network) → Contains c.networks a → Contains c.networks b
      → (a ≡ b) ⊎ AreRelated c a b → o ≡ (Key.Acl a.id.0 b.id.0, acl_value c a b) → IsObject t c o
  -- a use in effect gives its two networks with their subnets, and its services where they are
  of_use : (u : ConfiguredUse) (hops : List (ServiceNo × Addr)) → IsUse c u → AllZip (IsHop t) u.services hops
      → o ≡ (
        Key.ChainUse u.number,
        Value.ChainUse u.left.id u.right.id (ascending u.left.subnets) (ascending u.right.subnets) hops,
      )
      → IsObject t c o
