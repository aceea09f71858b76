-- The laws as lemmas, for those that build on them.
use Rattle.std.proofs.Common.{◌≡◌, ◌≢◌, ◌↔◌, ◌<◌, ℕ, IsTrue, List, None}
use Rattle.std.specs.Prelude.{flat_map}
use Rattle.std.specs.List.{AllPairs, Contains}
use Rattle.std.specs.List.Sorted.{IsPermutation}
use Rattle.std.specs.declared.cmp.Ordering.TheVariants.{Less}
use Rattle.ov_types.specs.Keys.{low_key_cmp, row_key_cmp}
use Rattle.ov_types.specs.Prefix.{Block}
use Rattle.ov_types.specs.declared.numbers.InstanceId.{InstanceId}
use Rattle.ov_types.specs.declared.numbers.Label.{Label}
use Rattle.ov_types.specs.declared.prefix.Addr.{Addr}
use Rattle.ov_types.specs.declared.rows.Attached.{Attached}
use Rattle.ov_types.specs.declared.rows.Entry.{Entry}
use Rattle.acl_compile.specs.ConfigTypes.Form.{has_config_form}
use Rattle.acl_compile.specs.ConfigTypes.Config.{Config}
use Rattle.acl_compile.specs.ConfigTypes.Network.{Network}
use Rattle.acl_compile.specs.ConfigTypes.Port.{Port}
use Rattle.acl_compile.specs.ConfigTypes.Node.{Node}
use Rattle.acl_compile.specs.ConfigTypes.Topology.{Topology}
use Rattle.acl_compile.specs.ConfigCheck.Rules.{first_broken}
use Rattle.acl_compile.proofs.ConfigCheck.Validity.{valid_iff}
use Rattle.node_model.specs.Agent.{needed_by}
use Rattle.transform_model.specs.Compiled.{agent_rows, slice_of}
use Rattle.transform_model.specs.IsLabel.{IsLabel, instance_of}
use Rattle.transform_model.specs.IsNeeded.{IsAccessList, IsNeeded, IsRoute}
use Rattle.transform_model.specs.IsObject.{IsObject}
use Rattle.transform_model.specs.IsRow.{IsRow}
use Rattle.transform_model.specs.IsUse.{IsInstance, IsLeftCircuit, IsRightCircuit, IsUse}
use Rattle.transform_model.specs.Leads.{LeadsToCircuit, LeadsToPort}
use Rattle.transform_model.specs.Objects.{LowObject, low_objects, objects}
use Rattle.transform_model.specs.Tables.{Row, circuit_route, control_rows, host_route, instance_table, instances, tables_of}
use Rattle.transform_model.specs.Uses.{Circuit, ConfiguredUse, left_circuits, right_circuits, uses}
use Rattle.transform_model.proofs.AgentRows.{acls_iff, routes_iff, labels_in_order, acls_in_order, routes_in_order, host_leads, circuit_leads}
use Rattle.transform_model.proofs.Circuits.{left_circuits_iff, right_circuits_iff}
use Rattle.transform_model.proofs.Instances.{instances_iff, instances_differ}
use Rattle.transform_model.proofs.InUse.{uses_iff, uses_differ}
use Rattle.transform_model.proofs.Kept.{tables_in_order, tables_kept, all_in_order, all_kept}
use Rattle.transform_model.proofs.Labels.{labels_iff, rows_have_labels, labels_have_rows}
use Rattle.transform_model.proofs.LowKeys.{low_in_order, low_kept, low_iff}
use Rattle.transform_model.proofs.Needed.{needed_iff, needed_is}
use Rattle.transform_model.proofs.Prefixes.{table_prefixes}
use Rattle.transform_model.proofs.Rows.{rows_iff}

-- ---- uses, circuits and instances

pub uses_are_those_in_effect : (t : Topology) (c : Config) (u : ConfiguredUse) → first_broken t c ≡ None → Contains (uses c) u ↔ IsUse c u
uses_are_those_in_effect t c u valid = uses_iff t c u ((valid_iff t c).0 valid)

pub uses_are_distinct : (t : Topology) (c : Config) → first_broken t c ≡ None → AllPairs (λ u v. u.number ≢ v.number) (uses c)
uses_are_distinct t c valid = uses_differ t c ((valid_iff t c).0 valid)

pub left_circuits_are_of_services : (u : ConfiguredUse) (k : Circuit) → Contains (left_circuits u) k ↔ ((place : ℕ) × IsLeftCircuit u place k)
left_circuits_are_of_services = left_circuits_iff

pub right_circuits_are_of_services : (u : ConfiguredUse) (k : Circuit) → Contains (right_circuits u) k ↔ ((place : ℕ) × IsRightCircuit u place k)
right_circuits_are_of_services = right_circuits_iff

pub instances_are_of_networks_and_hops : (t : Topology) (c : Config) (i : InstanceId) → first_broken t c ≡ None
    → Contains (instances c) i ↔ IsInstance c i
instances_are_of_networks_and_hops t c i valid = instances_iff t c i ((valid_iff t c).0 valid)

pub instances_are_distinct : (t : Topology) (c : Config) → IsTrue (has_config_form c) → first_broken t c ≡ None
    → AllPairs (λ i j. i.0 ≢ j.0) (instances c)
instances_are_distinct t c form valid = instances_differ t c ((valid_iff t c).0 valid) form

-- ---- tables

pub tables_have_exactly_these_rows : (t : Topology) (c : Config) (i : InstanceId) (r : Row) → first_broken t c ≡ None
    → Contains (instance_table t c i) r ↔ IsRow t c i r
tables_have_exactly_these_rows t c i r valid = rows_iff t c i r ((valid_iff t c).0 valid)

pub hosts_lead_to_nodes : (i : InstanceId) (home : Network) (node : Node) (port : Port) → LeadsToPort i home node port (host_route i home node port)
hosts_lead_to_nodes = host_leads

pub circuits_lead_to_nodes : (i : InstanceId) (prefix : Block) (k : Circuit) (node : Node) → LeadsToCircuit i prefix k node (circuit_route i prefix k node)
circuits_lead_to_nodes = circuit_leads

pub prefixes_are_distinct : (t : Topology) (c : Config) (i : InstanceId) → IsTrue (has_config_form c) → first_broken t c ≡ None
    → AllPairs (λ r s. r.0.1 ≢ s.0.1) (instance_table t c i)
prefixes_are_distinct t c i form valid = table_prefixes t c ((valid_iff t c).0 valid) form i

pub some_rows_ascend : (t : Topology) (c : Config) (is : List InstanceId) → AllPairs (λ r s. row_key_cmp r.0 s.0 ≡ Less) (tables_of t c is)
some_rows_ascend = tables_in_order

pub all_rows_ascend : (t : Topology) (c : Config) → AllPairs (λ r s. row_key_cmp r.0 s.0 ≡ Less) (control_rows t c)
all_rows_ascend = all_in_order

pub some_rows_are_kept : (t : Topology) (c : Config) (is : List InstanceId) → IsTrue (has_config_form c) → first_broken t c ≡ None
    → AllPairs (λ i j. i.0 ≢ j.0) is → IsPermutation (flat_map (instance_table t c) is) (tables_of t c is)
some_rows_are_kept t c is form valid distinct = tables_kept t c is ((valid_iff t c).0 valid) form distinct

pub all_rows_are_kept : (t : Topology) (c : Config) → IsTrue (has_config_form c) → first_broken t c ≡ None
    → IsPermutation (flat_map (instance_table t c) (instances c)) (control_rows t c)
all_rows_are_kept t c form valid = all_kept t c ((valid_iff t c).0 valid) form

-- ---- low-level objects

pub objects_are_exactly_these : (t : Topology) (c : Config) (o : LowObject) → IsTrue (has_config_form c) → first_broken t c ≡ None
    → Contains (low_objects t c) o ↔ IsObject t c o
objects_are_exactly_these t c o form valid = low_iff t c o ((valid_iff t c).0 valid) form

pub keys_ascend : (t : Topology) (c : Config) → AllPairs (λ d e. low_key_cmp d.0 e.0 ≡ Less) (low_objects t c)
keys_ascend = low_in_order

pub none_is_lost : (t : Topology) (c : Config) → IsTrue (has_config_form c) → first_broken t c ≡ None → IsPermutation (objects t c) (low_objects t c)
none_is_lost t c form valid = low_kept t c ((valid_iff t c).0 valid) form

-- ---- agents

pub needed_instances_are_exactly_these : (t : Topology) (c : Config) (a : Addr) (i : InstanceId) → IsTrue (has_config_form c) → first_broken t c ≡ None
    → Contains (needed_by (slice_of (low_objects t c) a)) i ↔ IsNeeded t c a i
needed_instances_are_exactly_these t c a i form valid = needed_iff t c ((valid_iff t c).0 valid) form a i

pub needed_instances_exist : (t : Topology) (c : Config) (a : Addr) (i : InstanceId) → IsTrue (has_config_form c) → first_broken t c ≡ None
    → Contains (needed_by (slice_of (low_objects t c) a)) i → IsInstance c i
needed_instances_exist t c a i form valid h = needed_is t c a i ((valid_iff t c).0 valid) form h

pub labels_are_exactly_these : (t : Topology) (c : Config) (a : Addr) (l : Label × Attached) → IsTrue (has_config_form c) → first_broken t c ≡ None
    → Contains (agent_rows t c a).labels l ↔ IsLabel t c a l
labels_are_exactly_these t c a l form valid = labels_iff t c a l ((valid_iff t c).0 valid) form

pub access_lists_are_exactly_these : (t : Topology) (c : Config) (a : Addr) (o : LowObject) → IsTrue (has_config_form c) → first_broken t c ≡ None
    → Contains (agent_rows t c a).acls o ↔ IsAccessList t c a o
access_lists_are_exactly_these t c a o form valid = acls_iff t c ((valid_iff t c).0 valid) form a o

pub routes_are_exactly_these : (t : Topology) (c : Config) (a : Addr) (q : (InstanceId × Block) × Entry) → IsTrue (has_config_form c) → first_broken t c ≡ None
    → Contains (agent_rows t c a).routes q ↔ IsRoute t c a q
routes_are_exactly_these t c a q form valid = routes_iff t c ((valid_iff t c).0 valid) form a q

pub labels_ascend : (t : Topology) (c : Config) (a : Addr) → AllPairs (λ l m. l.0.0 < m.0.0) (agent_rows t c a).labels
labels_ascend = labels_in_order

pub access_lists_ascend : (t : Topology) (c : Config) (a : Addr) → AllPairs (λ d e. low_key_cmp d.0 e.0 ≡ Less) (agent_rows t c a).acls
access_lists_ascend = acls_in_order

pub routes_ascend : (t : Topology) (c : Config) (a : Addr) → AllPairs (λ q r. row_key_cmp q.0 r.0 ≡ Less) (agent_rows t c a).routes
routes_ascend = routes_in_order

pub rows_agree_with_labels : (t : Topology) (c : Config) (i : InstanceId) (r : Row) → IsTrue (has_config_form c) → first_broken t c ≡ None
    → Contains (instance_table t c i) r → (x : Attached) × Contains (agent_rows t c r.1.next_hop).labels (r.1.label, x)
rows_agree_with_labels t c i r form valid h = rows_have_labels t c i r ((valid_iff t c).0 valid) form h

pub labels_agree_with_rows : (t : Topology) (c : Config) (a : Addr) (l : Label × Attached) → IsTrue (has_config_form c) → first_broken t c ≡ None
    → Contains (agent_rows t c a).labels l
    → (r : Row) × Contains (instance_table t c (instance_of l.1)) r × (r.1.next_hop ≡ a) × (r.1.label ≡ l.0)
labels_agree_with_rows t c a l form valid h = labels_have_rows t c a l ((valid_iff t c).0 valid) form h
