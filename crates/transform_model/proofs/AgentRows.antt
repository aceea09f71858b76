-- In a valid configuration an agent has exactly the access lists and routes that it asks for, each list in key order.
use Rattle.std.proofs.Common.{◌≡◌, ◌≢◌, ◌↔◌, ◌<◌, true, IsTrue, List, Option, Some, None, map, refl, sym, ap, ◌∙◌, subst, arith}
use Rattle.std.specs.Prelude.{flat_map}
use Rattle.std.specs.List.{AllPairs, Contains}
use Rattle.std.specs.List.Sorted.{IsPermutation}
use Rattle.std.specs.Ordering.{nat_cmp}
use Rattle.std.specs.declared.cmp.Ordering.TheVariants.{Less}
use Rattle.std.proofs.lemmas.List.Kept.{AllPairs-filter}
use Rattle.std.proofs.lemmas.List.Sorted.{IsPermutation-sym, Contains-permutation}
use Rattle.ov_types.specs.Keys.{low_key_cmp, row_key_cmp}
use Rattle.ov_types.specs.Prefix.{Block}
use Rattle.ov_types.specs.declared.numbers.InstanceId.{InstanceId}
use Rattle.ov_types.specs.declared.numbers.Label.{Label}
use Rattle.ov_types.specs.declared.objects.LowKey.{LowKey}
use Rattle.ov_types.specs.declared.objects.LowKey.TheVariants as Key
use Rattle.ov_types.specs.declared.objects.LowValue.{LowValue}
use Rattle.ov_types.specs.declared.objects.LowValue.TheVariants as Value
use Rattle.ov_types.specs.declared.prefix.Addr.{Addr}
use Rattle.ov_types.specs.declared.rows.Attached.{Attached}
use Rattle.ov_types.specs.declared.rows.Attached.TheVariants as Is
use Rattle.ov_types.specs.declared.rows.Entry.{Entry}
use Rattle.acl_compile.specs.ConfigTypes.Form.{has_config_form}
use Rattle.acl_compile.specs.ConfigTypes.Config.{Config}
use Rattle.acl_compile.specs.ConfigTypes.Network.{Network}
use Rattle.acl_compile.specs.ConfigTypes.Port.{Port}
use Rattle.acl_compile.specs.ConfigTypes.Node.{Node}
use Rattle.acl_compile.specs.ConfigTypes.Topology.{Topology}
use Rattle.acl_compile.specs.ConfigCheck.Sentences.{IsValid}
use Rattle.node_model.specs.Agent.{acl_entry, attached, needed_by}
use Rattle.transform_model.specs.Compiled.{agent_rows, concerns, route_of, slice_of}
use Rattle.transform_model.specs.IsNeeded.{IsAccessList, IsNeeded, IsRoute}
use Rattle.transform_model.specs.IsObject.{IsObject, of_network, of_port, of_left_circuit, of_right_circuit, of_networks, of_use}
use Rattle.transform_model.specs.IsRow.{IsRow}
use Rattle.transform_model.specs.Leads.{LeadsToPort, LeadsToCircuit}
use Rattle.transform_model.specs.Objects.{LowObject, acl_object, ascending_instances, low_objects}
use Rattle.transform_model.specs.Tables.{circuit_route, host_route, instance_table, tables_of}
use Rattle.transform_model.specs.Uses.{Circuit}
use Rattle.transform_model.proofs.Ascending.{Rises, ascending_is, is_ascending, ascending_rises}
use Rattle.transform_model.proofs.Kept.{instance_of_row, tables_in_order, tables_kept}
use Rattle.transform_model.proofs.Keys.{less_is}
use Rattle.acl_compile.proofs.PolicyRules.Lists.{is_joined, joined_is, is_kept, kept_is, is_mapped, mapped_is}
use Rattle.transform_model.proofs.Lists.{given, gives, pairs_given_by, pairs_mapped, pairs_weaker}
use Rattle.transform_model.proofs.LowKeys.{low_in_order, low_is, is_low}
use Rattle.transform_model.proofs.Needed.{has_port, port_there, needed_for_is, is_needed_for}
use Rattle.transform_model.proofs.Rows.{is_row, row_is}

abbrev listed : LowObject → Option LowObject
listed o = acl_entry o.0 o.1

module _ (t : Topology) (c : Config) (v : IsValid t c) (form : IsTrue (has_config_form c)) (a : Addr) where
  abbrev low : List LowObject
  low = low_objects t c

  abbrev asked : LowObject → Type 0
  asked o = concerns low a o.0 o.1 ≡ true

  -- ---- access lists

  list_of : (o e : LowObject) → IsObject t c o → asked o → listed o ≡ Some e → IsAccessList t c a e
  list_of o e (of_network n is in_n are f) here h = let none : None ≡ Some e = ap listed (sym f) ∙ h in cc
  list_of o e (of_port n p d at f) here h = let none : None ≡ Some e = ap listed (sym f) ∙ h in cc
  list_of o e (of_left_circuit u j k d used left at f) here h = let none : None ≡ Some e = ap listed (sym f) ∙ h in cc
  list_of o e (of_right_circuit u j k d used right at f) here h = let none : None ≡ Some e = ap listed (sym f) ∙ h in cc
  list_of o e (of_networks x y in_x in_y around f) here h =
      let some : Some (acl_object c x y) ≡ Some e = ap listed (sym f) ∙ h in
      let same : acl_object c x y ≡ e = cc in
      let there : asked (acl_object c x y) = subst asked f here in
      record { from = x; to = y; has_port = has_port t c v form a x in_x there; has_to = in_y; around = around; is = sym same }
  list_of o e (of_use u hops used zip f) here h = let none : None ≡ Some e = ap listed (sym f) ∙ h in cc

  acl_is : (e : LowObject) → Contains (agent_rows t c a).acls e → IsAccessList t c a e
  unfolding agent_rows
  acl_is e h =
      let g = given listed (slice_of low a) e h in
      let k = kept_is (λ (o : LowObject). concerns low a o.0 o.1) low g.0 g.1 in
      list_of g.0 e (low_is t c g.0 v form k.0) k.1 g.2

  is_acl : (e : LowObject) → IsAccessList t c a e → Contains (agent_rows t c a).acls e
  unfolding agent_rows
  is_acl e h =
      let o : LowObject = acl_object c h.from h.to in
      let object : IsObject t c o = of_networks h.from h.to h.has_port.at.has_home h.has_to h.around refl in
      let there : Contains (slice_of low a) o =
      is_kept (λ (x : LowObject). concerns low a x.0 x.1) low o (is_low t c o v form object) (port_there t c v form a h.from h.has_port) in
      gives listed (slice_of low a) o e there (ap (λ (x : LowObject). Some x) (sym h.is))

  pub acls_iff : (e : LowObject) → Contains (agent_rows t c a).acls e ↔ IsAccessList t c a e
  acls_iff e = (acl_is e, is_acl e)

  -- ---- routes

  abbrev needed : List InstanceId
  needed = needed_by (slice_of low a)

  apart : AllPairs (λ i j. i.0 ≢ j.0) (ascending_instances needed)
  apart =
      pairs_weaker Rises (λ (i j : InstanceId). i.0 ≢ j.0) (ascending_instances needed) (ascending_rises needed)
      (λ i j in_i in_j less same. absurd (omega arith))

  route_is : (q : (InstanceId × Block) × Entry) → Contains (agent_rows t c a).routes q → IsRoute t c a q
  unfolding agent_rows
  route_is q h =
      let is : List InstanceId = ascending_instances needed in
      let m = mapped_is route_of (tables_of t c is) q h in
      let kept : IsPermutation (flat_map (instance_table t c) is) (tables_of t c is) = tables_kept t c is v form apart in
      let there = Contains-permutation (tables_of t c is) (flat_map (instance_table t c) is) m.0 (IsPermutation-sym (flat_map (instance_table t c) is) (tables_of t c is) kept) m.1 in
      let j = joined_is (instance_table t c) is m.0 there in
      let instance : m.0.0.0 ≡ j.0 = instance_of_row t c j.0 m.0 j.2 in
      record {
        row = m.0;
        needed = subst (IsNeeded t c a) (sym instance) (needed_for_is t c v form a j.0 (ascending_is needed j.0 j.1));
        stands = subst (λ (i : InstanceId). IsRow t c i m.0) (sym instance) (row_is t c j.0 m.0 j.2);
        key = ap (λ (x : (InstanceId × Block) × Entry). x.0) (sym m.2);
        next_hop = ap (λ (x : (InstanceId × Block) × Entry). x.1.next_hop) (sym m.2);
        label = ap (λ (x : (InstanceId × Block) × Entry). x.1.label) (sym m.2);
      }

  is_route : (q : (InstanceId × Block) × Entry) → IsRoute t c a q → Contains (agent_rows t c a).routes q
  unfolding agent_rows
  is_route q h =
      let is : List InstanceId = ascending_instances needed in
      let i : InstanceId = h.row.0.0 in
      let need : Contains is i = is_ascending needed i (is_needed_for t c v form a i h.needed) in
      let there : Contains (flat_map (instance_table t c) is) h.row = is_joined (instance_table t c) is i h.row need (is_row t c i v h.row h.stands) in
      let row : Contains (tables_of t c is) h.row =
      Contains-permutation (flat_map (instance_table t c) is) (tables_of t c is) h.row (tables_kept t c is v form apart) there in
      let same : route_of h.row ≡ q = λ k. (sym h.key k, record { next_hop = sym h.next_hop k; label = sym h.label k }) in
      subst (Contains (map route_of (tables_of t c is))) same (is_mapped route_of (tables_of t c is) h.row row)

  pub routes_iff : (q : (InstanceId × Block) × Entry) → Contains (agent_rows t c a).routes q ↔ IsRoute t c a q
  routes_iff q = (route_is q, is_route q)

-- ---- each list in key order

key_of_label : (k : LowKey) (w : LowValue) (l : Label × Attached) → attached k w ≡ Some l → k ≡ Key.Attach l.0.0
key_of_label (Key.Instance n) w l h = cc
key_of_label (Key.Acl from to) w l h = cc
key_of_label (Key.ChainUse n) w l h = cc
key_of_label (Key.Attach n) (Value.Instance is) l h = cc
key_of_label (Key.Attach n) (Value.Acl subnets rules) l h = cc
key_of_label (Key.Attach n) (Value.ChainUse left right ls rs hops) l h = cc
key_of_label (Key.Attach n) (Value.AttachPort port instance address node) l h =
    let label : Label = record { 0 = n } in
    let what : Attached = Is.Port port instance in
    let both : (label, what) ≡ l = cc in
    ap (λ (x : Label × Attached). Key.Attach x.0.0) both
key_of_label (Key.Attach n) (Value.AttachCircuit circuit service node) l h =
    let label : Label = record { 0 = n } in
    let what : Attached = Is.Circuit circuit service in
    let both : (label, what) ≡ l = cc in
    ap (λ (x : Label × Attached). Key.Attach x.0.0) both

key_of_list : (k : LowKey) (w : LowValue) (e : LowObject) → acl_entry k w ≡ Some e → k ≡ e.0
key_of_list (Key.Instance n) w e h = cc
key_of_list (Key.Attach n) w e h = cc
key_of_list (Key.ChainUse n) w e h = cc
key_of_list (Key.Acl from to) w e h =
    let both : (Key.Acl from to, w) ≡ e = cc in
    ap (λ (x : LowObject). x.0) both

abbrev Below : LowObject → LowObject → Type 0
Below d e = low_key_cmp d.0 e.0 ≡ Less

slice_in_order : (t : Topology) (c : Config) (a : Addr) → AllPairs Below (slice_of (low_objects t c) a)
slice_in_order t c a = AllPairs-filter Below (λ (o : LowObject). concerns (low_objects t c) a o.0 o.1) (low_objects t c) (low_in_order t c)

pub labels_in_order : (t : Topology) (c : Config) (a : Addr) → AllPairs (λ l m. l.0.0 < m.0.0) (agent_rows t c a).labels
unfolding agent_rows
labels_in_order t c a =
    pairs_given_by (λ (o : LowObject). attached o.0 o.1) (λ (l m : Label × Attached). l.0.0 < m.0.0) Below (slice_of (low_objects t c) a) (slice_in_order t c a)
    (λ d e l m in_d in_e below is_l is_m.
    let first = key_of_label d.0 d.1 l is_l in
    let second = key_of_label e.0 e.1 m is_m in
    let less : nat_cmp l.0.0 m.0.0 ≡ Less = (λ i. low_key_cmp (sym first i) (sym second i)) ∙ below in
    less_is l.0.0 m.0.0 less)

pub acls_in_order : (t : Topology) (c : Config) (a : Addr) → AllPairs (λ d e. low_key_cmp d.0 e.0 ≡ Less) (agent_rows t c a).acls
unfolding agent_rows
acls_in_order t c a =
    pairs_given_by listed Below Below (slice_of (low_objects t c) a) (slice_in_order t c a)
    (λ x y d e in_x in_y below is_d is_e.
    (λ i. low_key_cmp (sym (key_of_list x.0 x.1 d is_d) i) (sym (key_of_list y.0 y.1 e is_e) i)) ∙ below)

pub routes_in_order : (t : Topology) (c : Config) (a : Addr) → AllPairs (λ q r. row_key_cmp q.0 r.0 ≡ Less) (agent_rows t c a).routes
unfolding agent_rows
routes_in_order t c a =
    let is : List InstanceId = ascending_instances (needed_by (slice_of (low_objects t c) a)) in
    pairs_mapped route_of (λ (q r : (InstanceId × Block) × Entry). row_key_cmp q.0 r.0 ≡ Less) (tables_of t c is) (tables_in_order t c is)

-- ---- where rows lead

pub host_leads : (i : InstanceId) (home : Network) (node : Node) (port : Port) → LeadsToPort i home node port (host_route i home node port)
host_leads i home node port = record { instance = refl; prefix = refl; distinguisher = refl; next_hop = refl; label = refl }

pub circuit_leads : (i : InstanceId) (prefix : Block) (k : Circuit) (node : Node) → LeadsToCircuit i prefix k node (circuit_route i prefix k node)
circuit_leads i prefix k node = record { instance = refl; prefix_is = refl; distinguisher = refl; next_hop = refl; label = refl }
