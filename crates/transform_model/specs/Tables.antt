-- The tables of instances, as the configuration alone describes them.
use Rattle.std.specs.Prelude.{◌==◌, ◌&&◌, ◌++◌, Bool, true, false, List, [], ◌∷◌, map, filter, flat_map, Option, Some}
use Rattle.std.specs.Prelude.{None, option_map, option_and_then, if◌then◌else◌}
use Rattle.std.specs.BTreeMap.{insert_entry}
use Rattle.std.specs.List.{filter_map, list_any}
use Rattle.ov_types.specs.First.{same_name}
use Rattle.ov_types.specs.Keys.{row_key_cmp}
use Rattle.ov_types.specs.Prefix.{Block, contains, host_prefix}
use Rattle.ov_types.specs.declared.numbers.InstanceId.{InstanceId}
use Rattle.ov_types.specs.declared.rows.TableRow.{TableRow}
use Rattle.node_model.specs.RouteTargets.Numbers.{port_label_of, distinguisher_of, circuit_address_of, circuit_instance_of}
use Rattle.node_model.specs.RouteTargets.Numbers.{circuit_label_of}
use Rattle.acl_compile.specs.ConfigTypes.Config.{Config}
use Rattle.acl_compile.specs.ConfigTypes.Network.{Network}
use Rattle.acl_compile.specs.ConfigTypes.Port.{Port}
use Rattle.acl_compile.specs.ConfigTypes.Node.{Node}
use Rattle.acl_compile.specs.ConfigTypes.Topology.{Topology}
use Rattle.acl_compile.specs.PolicyRules.Related.{imports}
use Rattle.acl_compile.specs.ConfigCheck.Finding.{network_named, network_numbered, node_named}
use Rattle.transform_model.specs.Uses.{ConfiguredUse, Circuit, uses, hops, first_hop, last_hop, left_circuits, right_circuits}

-- an instance and a prefix, and where the instance's table leads for it
abbrev pub TableKey : Type 0
TableKey = InstanceId × Block

abbrev pub Row : Type 0
Row = TableKey × TableRow

-- ---- routes to ports
-- in an instance, the route to a port of a network at a node: the node's address and the port's label, and the
-- distinguisher of the port's own network there
abbrev pub host_route : InstanceId → Network → Node → Port → Row
host_route i b d p = (
  (i, host_prefix p.address.0),
  record { rd = distinguisher_of d.address b.id; next_hop = d.address; label = port_label_of p.id },
)

-- the route to a port in an instance, where it is asked for
abbrev pub row_if : Bool → InstanceId → Network → Port → Option Node → Option Row
row_if false i b p d = None
row_if true i b p d = option_map (λ d. host_route i b d p) d

-- ---- the instance of a network
-- the row of a port, where the port's network is imported
abbrev pub port_row : Topology → Config → Network → Port → Option Row
port_row t c n p =
    option_and_then (λ b. row_if (imports c n b) n.id b p (node_named t p.node)) (network_named c p.network)

-- the rows of a network's instance, in the order of the ports
unfoldable pub network_rows : Topology → Config → Network → List Row
network_rows t c n = filter_map (port_row t c n) c.ports

abbrev pub rows_of : Topology → Config → Option Network → List Row
rows_of t c None = []
rows_of t c (Some n) = network_rows t c n

-- ---- the instance of a hop
-- in an instance, a route to or towards a circuit at a node: the node's address and the circuit's label, and the
-- distinguisher of the instance there
abbrev pub circuit_route : InstanceId → Block → Circuit → Node → Row
circuit_route i prefix k d = (
  (i, prefix),
  record { rd = distinguisher_of d.address i; next_hop = d.address; label = circuit_label_of k.number },
)

abbrev pub row_towards : Topology → InstanceId → Circuit → Block → Option Row
row_towards t i k prefix = option_map (circuit_route i prefix k) (node_named t k.service.node)

abbrev pub circuits_in : InstanceId → List Circuit → List Circuit
circuits_in i ks = filter (λ k. (circuit_instance_of k.number).0 == i.0) ks

-- the host routes of circuits
abbrev pub circuit_row : Topology → InstanceId → Circuit → Option Row
circuit_row t i k = row_towards t i k (host_prefix (circuit_address_of k.number).0)

-- the subnets of a network that hold a port of it
abbrev pub holds_port : Config → Network → Block → Bool
holds_port c n prefix = list_any (λ p. same_name p.network n.name && contains prefix p.address.0) c.ports

abbrev pub held_subnets : Config → Network → List Block
held_subnets c n = filter (holds_port c n) n.subnets

-- the subnets of a network that hold a port of it, each towards a circuit
abbrev pub subnet_rows : Topology → Config → InstanceId → Network → Circuit → List Row
subnet_rows t c i n k = filter_map (row_towards t i k) (held_subnets c n)

-- at an end of a chain, the host routes of the ports of the network there
abbrev pub end_row : Topology → InstanceId → Network → Port → Option Row
end_row t i n p = row_if (same_name p.network n.name) i n p (node_named t p.node)

abbrev pub end_rows : Topology → Config → InstanceId → InstanceId → Network → List Row
end_rows t c i end n = if i.0 == end.0 then filter_map (end_row t i n) c.ports else []

-- what a use gives an instance: the host route of each circuit there; each right subnet towards the left circuit there,
-- which leads into the next service; each left subnet towards the right circuit there, which leads back; and the
-- hosts of the left network at the first hop, of the right one at the last
abbrev pub hop_rows : Topology → Config → InstanceId → ConfiguredUse → List Row
hop_rows t c i u =
    filter_map (circuit_row t i) (circuits_in i (left_circuits u ++ right_circuits u))
    ++ (flat_map (subnet_rows t c i u.right) (circuits_in i (left_circuits u))
    ++ (flat_map (subnet_rows t c i u.left) (circuits_in i (right_circuits u))
    ++ (end_rows t c i (first_hop u) u.left ++ end_rows t c i (last_hop u) u.right)))

-- ---- every instance
-- the table of an instance: the rows of the network with its number, or those that the use in effect of which it is a
-- hop gives it; of any other instance it is empty
abbrev pub instance_table : Topology → Config → InstanceId → List Row
instance_table t c i = rows_of t c (network_numbered c i.0) ++ flat_map (hop_rows t c i) (uses c)

-- the instances of a configuration: those of its networks, and those of its uses in effect
abbrev pub instances : Config → List InstanceId
instances c = map (λ n. n.id) c.networks ++ flat_map hops (uses c)

-- a map in key order, with the rows of a list put into it one after the other
abbrev pub with_rows : List Row → List Row → List Row
with_rows entries [] = entries
with_rows entries (r ∷ rs) = with_rows (insert_entry row_key_cmp entries r.0 r.1) rs

-- the tables of these instances in one map, in key order
abbrev pub tables_of : Topology → Config → List InstanceId → List Row
tables_of t c is = with_rows [] (flat_map (instance_table t c) is)

-- the tables of all instances: what each control node has
unfoldable pub control_rows : Topology → Config → List Row
control_rows t c = tables_of t c (instances c)
