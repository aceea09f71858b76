-- In a valid configuration the rows of distinct instances have distinct keys, so that one map keeps them all.
use Rattle.std.proofs.Common.{◌≡◌, ◌≢◌, IsTrue, List, sym, ap, ◌∙◌}
use Rattle.std.specs.Prelude.{flat_map}
use Rattle.std.specs.List.{AllPairs, Contains}
use Rattle.std.specs.List.Sorted.{IsPermutation}
use Rattle.std.specs.declared.cmp.Ordering.TheVariants.{Less}
use Rattle.ov_types.specs.Keys.{row_key_cmp}
use Rattle.ov_types.specs.declared.numbers.InstanceId.{InstanceId}
use Rattle.acl_compile.specs.ConfigTypes.Form.{has_config_form}
use Rattle.acl_compile.specs.ConfigTypes.Config.{Config}
use Rattle.acl_compile.specs.ConfigTypes.Topology.{Topology}
use Rattle.acl_compile.specs.ConfigCheck.Sentences.{IsValid}
use Rattle.transform_model.specs.IsRow.{IsRow, to_port, to_left_circuit, to_right_circuit, to_right_subnet, to_left_subnet, at_left_end, at_right_end}
use Rattle.transform_model.specs.Tables.{Row, instance_table, instances, tables_of, control_rows}
use Rattle.transform_model.proofs.Instances.{instances_differ}
use Rattle.transform_model.proofs.Keys.{rows_in_order, rows_added}
use Rattle.transform_model.proofs.Lists.{pairs_joined_by, pairs_weaker}
use Rattle.transform_model.proofs.Prefixes.{Apart, table_prefixes}
use Rattle.transform_model.proofs.Rows.{row_is}

-- a row stands in its instance
in_instance : (t : Topology) (c : Config) (i : InstanceId) (r : Row) → IsRow t c i r → r.0.0 ≡ i
in_instance t c i r (to_port network home port node in_n at imported is route) = ap (λ (x : Row). x.0.0) route
in_instance t c i r (to_left_circuit u j k node used left at is route) = ap (λ (x : Row). x.0.0) route
in_instance t c i r (to_right_circuit u j k node used right at is route) = ap (λ (x : Row). x.0.0) route
in_instance t c i r (to_right_subnet u j k node prefix used left at held is route) = ap (λ (x : Row). x.0.0) route
in_instance t c i r (to_left_subnet u j k node prefix used right at held is route) = ap (λ (x : Row). x.0.0) route
in_instance t c i r (at_left_end u port node used at is route) = ap (λ (x : Row). x.0.0) route
in_instance t c i r (at_right_end u port node used at is route) = ap (λ (x : Row). x.0.0) route

pub instance_of_row : (t : Topology) (c : Config) (i : InstanceId) (r : Row) → Contains (instance_table t c i) r → r.0.0 ≡ i
instance_of_row t c i r h = in_instance t c i r (row_is t c i r h)

abbrev Differ : Row → Row → Type 0
Differ r s = r.0 ≢ s.0

pub keys_differ : (t : Topology) (c : Config) (is : List InstanceId) → IsValid t c → IsTrue (has_config_form c) → AllPairs (λ i j. i.0 ≢ j.0) is
    → AllPairs (λ r s. r.0 ≢ s.0) (flat_map (instance_table t c) is)
keys_differ t c is v form distinct =
    pairs_joined_by (instance_table t c) Differ (λ (i j : InstanceId). i.0 ≢ j.0) is distinct
    (λ i in_i.
    pairs_weaker Apart Differ (instance_table t c i) (table_prefixes t c v form i) (λ r s in_r in_s apart same. apart (λ k. (same k).1)))
    (λ i j r s in_i in_j differ in_r in_s same.
    let a = instance_of_row t c i r in_r in
    let b = instance_of_row t c j s in_s in
    differ (ap (λ (k : InstanceId). k.0) (sym a ∙ (λ k. (same k).0) ∙ b)))

pub tables_in_order : (t : Topology) (c : Config) (is : List InstanceId) → AllPairs (λ r s. row_key_cmp r.0 s.0 ≡ Less) (tables_of t c is)
tables_in_order t c is = rows_in_order (flat_map (instance_table t c) is)

pub tables_kept : (t : Topology) (c : Config) (is : List InstanceId) → IsValid t c → IsTrue (has_config_form c) → AllPairs (λ i j. i.0 ≢ j.0) is
    → IsPermutation (flat_map (instance_table t c) is) (tables_of t c is)
tables_kept t c is v form distinct = rows_added (flat_map (instance_table t c) is) (keys_differ t c is v form distinct)

pub all_in_order : (t : Topology) (c : Config) → AllPairs (λ r s. row_key_cmp r.0 s.0 ≡ Less) (control_rows t c)
unfolding control_rows
all_in_order t c = tables_in_order t c (instances c)

pub all_kept : (t : Topology) (c : Config) → IsValid t c → IsTrue (has_config_form c)
    → IsPermutation (flat_map (instance_table t c) (instances c)) (control_rows t c)
unfolding control_rows
all_kept t c v form = tables_kept t c (instances c) v form (instances_differ t c v form)
