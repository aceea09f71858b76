-- The low-level objects of a configuration.
use Rattle.std.specs.Prelude.{List, [], ◌∷◌, ◌++◌, map, filter, flat_map, Option, option_map}
use Rattle.std.specs.Prelude.{option_and_then}
use Rattle.std.specs.BTreeMap.{insert_entry}
use Rattle.std.specs.BTreeSet.{insert_key}
use Rattle.std.specs.List.{filter_map}
use Rattle.std.specs.Ordering.{nat_cmp}
use Rattle.std.specs.declared.cmp.Ordering.{Ordering}
use Rattle.ov_types.specs.Keys.{low_key_cmp}
use Rattle.ov_types.specs.declared.numbers.InstanceId.{InstanceId}
use Rattle.ov_types.specs.declared.numbers.ServiceNo.{ServiceNo}
use Rattle.ov_types.specs.declared.objects.LowKey.{LowKey}
use Rattle.ov_types.specs.declared.objects.LowKey.TheVariants as Key
use Rattle.ov_types.specs.declared.objects.LowValue.{LowValue}
use Rattle.ov_types.specs.declared.objects.LowValue.TheVariants as Value
use Rattle.ov_types.specs.declared.prefix.Addr.{Addr}
use Rattle.node_model.specs.RouteTargets.Numbers.{port_label_of, circuit_label_of}
use Rattle.acl_compile.specs.ConfigTypes.Config.{Config}
use Rattle.acl_compile.specs.ConfigTypes.Network.{Network}
use Rattle.acl_compile.specs.ConfigTypes.Port.{Port}
use Rattle.acl_compile.specs.ConfigTypes.Service.{Service}
use Rattle.acl_compile.specs.ConfigTypes.Node.{Node}
use Rattle.acl_compile.specs.ConfigTypes.Topology.{Topology}
use Rattle.acl_compile.specs.PolicyRules.Related.{imports}
use Rattle.acl_compile.specs.ConfigCheck.Finding.{network_named, node_named}
use Rattle.acl_compile.specs.ConfigCheck.Rules.{group_of}
use Rattle.acl_compile.specs.Oriented.{acl_value, ascending}
use Rattle.transform_model.specs.Uses.{ConfiguredUse, Circuit, uses, left_circuits, right_circuits}

abbrev pub LowObject : Type 0
LowObject = LowKey × LowValue

-- ---- instances
-- instances go by number
abbrev pub instance_cmp : InstanceId → InstanceId → Ordering
instance_cmp i j = nat_cmp i.0 j.0

-- an ascending list, with the instances of another put into it one after the other, each once
abbrev pub with_instances : List InstanceId → List InstanceId → List InstanceId
with_instances set [] = set
with_instances set (i ∷ is) = with_instances (insert_key instance_cmp set i) is

-- instances, ascending and each once
abbrev pub ascending_instances : List InstanceId → List InstanceId
ascending_instances is = with_instances [] is

-- the instances of the networks that a network imports
abbrev pub imports_of : Config → Network → List InstanceId
imports_of c n = ascending_instances (map (λ b. b.id) (filter (imports c n) c.networks))

abbrev pub instance_object : Config → Network → LowObject
instance_object c n = (Key.Instance n.id.0, Value.Instance (imports_of c n))

-- ---- attachments
abbrev pub attached_port : Port → Network → Node → LowObject
attached_port p n d = (Key.Attach (port_label_of p.id).0, Value.AttachPort p.id n.id p.address d.address)

-- a port, in the instance of its network and at its node
abbrev pub port_object : Topology → Config → Port → Option LowObject
port_object t c p =
    option_and_then (λ n. option_map (attached_port p n) (node_named t p.node)) (network_named c p.network)

abbrev pub attached_circuit : Circuit → Node → LowObject
attached_circuit k d = (Key.Attach (circuit_label_of k.number).0, Value.AttachCircuit k.number k.service.id d.address)

-- a circuit, at the node of its service
abbrev pub circuit_object : Topology → Circuit → Option LowObject
circuit_object t k = option_map (attached_circuit k) (node_named t k.service.node)

abbrev pub circuit_objects : Topology → ConfiguredUse → List LowObject
circuit_objects t u = filter_map (circuit_object t) (left_circuits u ++ right_circuits u)

-- ---- access lists
-- the access list of a network towards itself and towards each that is related to it
abbrev pub acl_object : Config → Network → Network → LowObject
acl_object c a b = (Key.Acl a.id.0 b.id.0, acl_value c a b)

abbrev pub acl_objects : Config → Network → List LowObject
acl_objects c a = map (acl_object c a) (group_of c a)

-- ---- uses of chains
-- a service, with the address of its node
abbrev pub hop_of : Topology → Service → Option (ServiceNo × Addr)
hop_of t s = option_map (λ d. (s.id, d.address)) (node_named t s.node)

abbrev pub use_object : Topology → ConfiguredUse → LowObject
use_object t u = (
  Key.ChainUse u.number,
  Value.ChainUse u.left.id u.right.id (ascending u.left.subnets) (ascending u.right.subnets)
      (filter_map (hop_of t) u.services),
)

-- ---- all of them
-- a network gives its instance, a port its attachment, a use in effect those of its circuits; two networks that are
-- one or related give an access list, and a use in effect gives itself
abbrev pub objects : Topology → Config → List LowObject
objects t c =
    map (instance_object c) c.networks
    ++ (filter_map (port_object t c) c.ports
    ++ (flat_map (circuit_objects t) (uses c)
    ++ (flat_map (acl_objects c) c.networks ++ map (use_object t) (uses c))))

-- a map in key order, with the objects of a list put into it one after the other
abbrev pub with_objects : List LowObject → List LowObject → List LowObject
with_objects entries [] = entries
with_objects entries (o ∷ os) = with_objects (insert_entry low_key_cmp entries o.0 o.1) os

-- the objects in the order of their keys
unfoldable pub low_objects : Topology → Config → List LowObject
low_objects t c = with_objects [] (objects t c)
