-- What low-level objects alone make of each node: its tables and rows, and what is told on each session.
use Rattle.std.specs.Prelude.{ℕ, suc, List, [], ◌++◌, map, Bool, ◌&&◌, ◌==◌, if◌then◌else◌}
use Rattle.std.specs.declared.option.Option.{Option}
use Rattle.std.specs.declared.option.Option.TheVariants.{Some, None}
use Rattle.std.specs.List.{filter, filter_map, flat_map, list_any}
use Rattle.std.specs.FinMap.{FinMap, entries, from_entries}
use Rattle.ov_types.specs.Keys.{row_key_cmp}
use Rattle.ov_types.specs.Prefix.{Block, block_cmp, host_prefix, is_inside}
use Rattle.ov_types.specs.declared.numbers.InstanceId.{InstanceId}
use Rattle.ov_types.specs.declared.numbers.Label.{Label as LabelNo}
use Rattle.ov_types.specs.declared.objects.LowKey.{LowKey}
use Rattle.ov_types.specs.declared.objects.LowKey.TheVariants as key
use Rattle.ov_types.specs.declared.objects.LowValue.{LowValue}
use Rattle.ov_types.specs.declared.objects.LowValue.TheVariants as low
use Rattle.ov_types.specs.declared.prefix.Addr.{Addr}
use Rattle.ov_types.specs.declared.rows.AgentRows.{AgentRows}
use Rattle.ov_types.specs.declared.rows.NodeRows.{NodeRows}
use Rattle.ov_types.specs.declared.rows.NodeRows.TheVariants as Rows
use Rattle.ov_types.specs.declared.rows.TableRow.{TableRow}
use Rattle.route_targets.specs.Numbers.{circuit_address_of, circuit_instance_of, distinguisher_of}
use Rattle.config_types.specs.declared.topology.Node.{Node}
use Rattle.machine_model.specs.Setup.{Setup}
use Rattle.schedule_script.specs.ConfigCheck.Finding.{node_named}
use Rattle.transform_model.specs.Tables.{Row}
use Rattle.transform_model.specs.Compiled.{route_of}
use Rattle.node_laws.specs.NodeModel.Keys.{Key, Row as RowKey}
use Rattle.node_laws.specs.NodeModel.Values.{Value, Entry}
use Rattle.node_laws.specs.NodeModel.Maps.{Map, objects}
use Rattle.node_laws.specs.NodeModel.Uses.{imports}
use Rattle.node_laws.specs.NodeModel.Paths.{Holdings, Path, Told, own_paths}
use Rattle.node_laws.specs.NodeModel.Reaching.{Side, sides, network, subnets, hop_at, circuit_at, below, reoriginated_by}
use Rattle.node_laws.specs.NodeModel.Tables.{known_instances, same_prefix}
use Rattle.node_laws.specs.NodeModel.Wants.{route_entry, slice, slice_entry}
use Rattle.node_laws.specs.NodeModel.Agent.{acl_entry, attached, needed_by, told_of}
use Rattle.machine_model.specs.Setup.{Name, low as low_map}

-- ---- attachments
-- a port in its network, or a circuit in its hop's instance
pub record Attachment : Type 0 where
  pub label : LabelNo
  pub instance : InstanceId
  pub prefix : Block
  pub node : Addr

-- the prefix that a circuit is published under
abbrev pub circuit_prefix : ℕ → Block
circuit_prefix circuit = host_prefix (circuit_address_of circuit).0

abbrev pub as_attachment : LowKey → LowValue → Option Attachment
as_attachment (key.Attach label) (low.AttachPort port instance address node) =
    Some (record { label = record { 0 = label }; instance = instance; prefix = host_prefix address.0; node = node })
as_attachment (key.Attach label) (low.AttachCircuit circuit service node) =
    Some (record {
      label = record { 0 = label };
      instance = circuit_instance_of circuit;
      prefix = circuit_prefix circuit;
      node = node;
    })
as_attachment _ _ = None

abbrev pub attachments : Map → List Attachment
attachments feed = filter_map (λ e. as_attachment e.0 e.1) (objects feed)

-- ---- tables
abbrev pub same_instance : InstanceId → InstanceId → Bool
same_instance i j = i.0 == j.0

-- a port of the network lies in the subnet
abbrev pub lies_in : InstanceId → Block → Attachment → Bool
lies_in network subnet a = same_instance a.instance network && is_inside a.prefix subnet

-- a subnet that holds a port of a network
abbrev pub holds : Map → InstanceId → Block → Bool
holds feed network subnet = list_any (lies_in network subnet) (attachments feed)

-- to an attachment, or towards it
abbrev pub row_of : Attachment → TableRow
row_of a = record { rd = distinguisher_of a.node a.instance; next_hop = a.node; label = a.label }

abbrev pub row_at : Block → TableRow → Block × TableRow
row_at prefix row = (prefix, row)

-- the host routes of the ports and circuits of each imported instance
abbrev pub is_imported : Map → InstanceId → Attachment → Bool
is_imported feed i a = list_any (λ n. same_instance n a.instance) (imports feed i)

abbrev pub hosts : Map → InstanceId → List (Block × TableRow)
hosts feed i = map (λ a. row_at a.prefix (row_of a)) (filter (is_imported feed i) (attachments feed))

abbrev pub is_circuit : ℕ → Attachment → Bool
is_circuit circuit a =
    same_instance a.instance (circuit_instance_of circuit) && same_prefix a.prefix (circuit_prefix circuit)

-- a subnet of the side that holds a port of it, towards the circuit
abbrev pub towards_circuit : Map → Side → ℕ → Block → List (Block × TableRow)
towards_circuit feed s circuit subnet =
    if holds feed (network s) subnet
    then map (λ a. row_at subnet (row_of a)) (filter (is_circuit circuit) (attachments feed))
    else []

-- d + 1 places from a side's end: its subnets, each towards the circuit there
abbrev pub aggregates : Map → InstanceId → Side → ℕ → List (Block × TableRow)
aggregates feed i s d =
    if same_instance (hop_at s (suc d)) i
    then flat_map (towards_circuit feed s (circuit_at s (suc d))) (subnets s)
    else []

abbrev pub aggregates_of : Map → InstanceId → Side → List (Block × TableRow)
aggregates_of feed i s = flat_map (aggregates feed i s) (below s.chain.services)

-- all rows of an instance
abbrev pub table_rows : Map → InstanceId → List (Block × TableRow)
table_rows feed i = hosts feed i ++ flat_map (aggregates_of feed i) (sides feed)

abbrev pub compiled_table : Map → InstanceId → FinMap block_cmp TableRow
compiled_table feed i = from_entries (table_rows feed i)

-- ---- what is shown of each node
abbrev pub rows_in : Map → InstanceId → List Row
rows_in feed i = map (λ e. ((i, e.0), e.1)) (entries (compiled_table feed i))

abbrev pub control_rows : Map → List Row
control_rows feed = flat_map (rows_in feed) (known_instances feed)

-- what concerns an address: its labels, its access lists, and the rows of the instances that it needs
abbrev pub agent_rows : Map → Addr → AgentRows
agent_rows feed address = record {
  labels = filter_map (λ e. attached e.0 e.1) (slice feed address);
  acls = filter_map (λ e. acl_entry e.0 e.1) (slice feed address);
  routes = entries (from_entries {R = row_key_cmp}
      (map route_of (flat_map (rows_in feed) (needed_by (slice feed address)))));
}

abbrev pub rows_for : Map → Option Node → NodeRows
rows_for feed None = Rows.Control (control_rows feed)
rows_for feed (Some n) = Rows.Agent (agent_rows feed n.address)

-- the compiled rows of a node, by the configuration alone
abbrev pub compiled : Setup → Name → NodeRows
compiled x name = rows_for (low_map x) (node_named x.topology name)

-- ---- what is told, where control nodes have agents by session and address
abbrev pub Agents : Type 0
Agents = List (ℕ × Addr)

-- by an agent
abbrev pub told_by_agent : Map → ℕ × Addr → Told
told_by_agent feed a = record { session = a.0; address = a.1; map = told_of (slice feed a.1) }

-- what a control node holds but for what its peers tell
abbrev pub local : ℕ → Map → Agents → Holdings
local asn feed agents =
    record { asn = asn; feed = feed; peers = []; agents = map (told_by_agent feed) agents }

-- a subnet leads on where it holds a port of its side's network
abbrev pub leads_on : Map → Side → Block → ℕ → Bool
leads_on feed s subnet d = holds feed (network s) subnet

-- the own routes of its agents' publications, and the subnets that hold a port, towards the circuits of its agents
abbrev pub compiled_routes : ℕ → Map → Agents → List Path
compiled_routes asn feed agents =
    own_paths (local asn feed agents) ++ reoriginated_by (leads_on feed) (local asn feed agents)

-- to a peer
abbrev pub told_to_peers : ℕ → Map → Agents → Map
told_to_peers asn feed agents = from_entries (map route_entry (compiled_routes asn feed agents))

abbrev pub entry_of : InstanceId → Block → TableRow → Key × Value
entry_of i prefix row = (RowKey i prefix, Entry (record { next_hop = row.next_hop; label = row.label }))

abbrev pub compiled_entries : Map → InstanceId → List (Key × Value)
compiled_entries feed i = map (λ e. entry_of i e.0 e.1) (entries (compiled_table feed i))

-- to the agent at an address
abbrev pub told_to_agent : Map → Addr → Map
told_to_agent feed address =
    from_entries (map slice_entry (slice feed address)
    ++ flat_map (compiled_entries feed) (needed_by (slice feed address)))

-- what a control node holds, by its own agents and those of each peer
abbrev pub compiled_holdings : ℕ → Map → Agents → List Agents → Holdings
compiled_holdings asn feed agents peers = record {
  asn = asn;
  feed = feed;
  peers = map (told_to_peers asn feed) peers;
  agents = map (told_by_agent feed) agents;
}
