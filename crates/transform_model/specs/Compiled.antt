-- The rows of every node.
use Rattle.std.specs.Prelude.{◌==◌, Bool, false, List, [], ◌∷◌, map, filter}
use Rattle.std.specs.List.{filter_map, list_any}
use Rattle.ov_types.specs.Prefix.{Block}
use Rattle.ov_types.specs.declared.numbers.InstanceId.{InstanceId}
use Rattle.ov_types.specs.declared.objects.LowKey.{LowKey}
use Rattle.ov_types.specs.declared.objects.LowKey.TheVariants.{Attach, Acl}
use Rattle.ov_types.specs.declared.objects.LowValue.{LowValue}
use Rattle.ov_types.specs.declared.prefix.Addr.{Addr}
use Rattle.ov_types.specs.declared.rows.AgentRows.{AgentRows}
use Rattle.ov_types.specs.declared.rows.Entry.{Entry}
use Rattle.ov_types.specs.declared.rows.NodeId.{NodeId}
use Rattle.node_model.specs.RouteTargets.Forwarding.{Forwarder}
use Rattle.acl_compile.specs.ConfigTypes.Config.{Config}
use Rattle.acl_compile.specs.ConfigTypes.Node.{Node}
use Rattle.acl_compile.specs.ConfigTypes.Topology.{Topology}
use Rattle.acl_compile.specs.ConfigCheck.Checked.{Checked}
use Rattle.node_model.specs.Agent.{acl_entry, attached, needed_by}
use Rattle.node_model.specs.Wants.{is_at, port_at}
use Rattle.transform_model.specs.Objects.{LowObject, ascending_instances, low_objects}
use Rattle.transform_model.specs.Tables.{Row, control_rows, tables_of}
use Rattle.transform_model.specs.declared.tables.Compiled.{Compiled}

-- the networks of the ports at an address
abbrev pub networks_at : List LowObject → Addr → List InstanceId
networks_at low a = filter_map (λ e. port_at a e.1) low

-- what concerns the agent at an address: the attachments there, and the access lists of its ports' networks
abbrev pub concerns : List LowObject → Addr → LowKey → LowValue → Bool
concerns low a (Attach label) v = is_at a v
concerns low a (Acl from to) v = list_any (λ n. n.0 == from) (networks_at low a)
concerns low a _ v = false

abbrev pub slice_of : List LowObject → Addr → List LowObject
slice_of low a = filter (λ e. concerns low a e.0 e.1) low

-- a row without its distinguisher
abbrev pub route_of : Row → (InstanceId × Block) × Entry
route_of r = (r.0, record { next_hop = r.1.next_hop; label = r.1.label })

-- the rows of an agent by what concerns it: its labels, its access lists, and the tables of the instances that it needs
abbrev pub agent_rows_by : Topology → Config → List LowObject → AgentRows
agent_rows_by t c slice = record {
  labels = filter_map (λ e. attached e.0 e.1) slice;
  acls = filter_map (λ e. acl_entry e.0 e.1) slice;
  routes = map route_of (tables_of t c (ascending_instances (needed_by slice)));
}

-- the rows of the agent at an address
unfoldable pub agent_rows : Topology → Config → Addr → AgentRows
agent_rows t c a = agent_rows_by t c (slice_of (low_objects t c) a)

-- every control node's tables, and every agent's rows, each in the topology's order
unfoldable pub compiled_tables : Checked → Compiled
compiled_tables x = record {
  controls = map (λ (n : NodeId). control_rows x.topology x.config) x.topology.controllers;
  agents = map (λ (n : Node). agent_rows x.topology x.config n.address) x.topology.nodes;
}

-- agents with their rows, as packets meet them
abbrev pub forwarders : List Node → List AgentRows → List Forwarder
forwarders [] rows = []
forwarders (n ∷ ns) [] = []
forwarders (n ∷ ns) (r ∷ rs) = record { address = n.address; rows = r } ∷ forwarders ns rs
