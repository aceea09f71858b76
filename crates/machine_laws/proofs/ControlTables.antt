-- What low-level objects compile to at a control node is the configuration's tables: the known instances are those of
-- the configuration and ascend, so that both lists have the same rows in one order.
use Rattle.std.specs.FinMap.{entries, is_sorted}
use Rattle.std.specs.List.Sorted.{IsStrictlySortedBy}
use Rattle.std.specs.List.{Contains, flat_map}
use Rattle.std.specs.Ordering.{is_lt}
use Rattle.std.specs.Prelude.{IsTrue, List, T, length, map, ℕ, [], ◌+◌, ◌<◌, ◌∷◌, ◌≡◌, ◌≤◌}
use Rattle.std.specs.declared.cmp.Ordering.{Ordering}
use Rattle.std.proofs.Common.{ap, arith, inl, inr, refl, subst, sym, ◌∙◌}
use Rattle.std.proofs.lemmas.List.Sorted.{Contains-permutation, IsPermutation-sym}
use Rattle.machine_model.proofs.OvSync.Ascending.{Ascends, Over, ascends}
use Rattle.ov_types.specs.Keys.{row_key_cmp}
use Rattle.ov_types.specs.declared.numbers.InstanceId.{InstanceId}
use Rattle.ov_types.specs.declared.objects.LowKey.TheVariants as key
use Rattle.ov_types.specs.declared.objects.LowValue.TheVariants as low
use Rattle.ov_types.specs.declared.prefix.Addr.{Addr}
use Rattle.config_types.specs.Form.{has_config_form}
use Rattle.machine_model.specs.Setup.{Setup}
use Rattle.schedule_script.specs.ConfigCheck.Sentences.{IsValid}
use Rattle.transform_model.specs.IsRow.{IsRow, at_left_end, at_right_end, to_left_circuit, to_left_subnet, to_port, to_right_circuit, to_right_subnet}
use Rattle.transform_model.specs.IsUse.{IsInstance, of_hop, of_network}
use Rattle.transform_model.specs.Tables as tables
use Rattle.transform_model.specs.Tables.{Row as TableEntry}
use Rattle.transform_model.specs.Tables.{instance_table, instances}
use Rattle.transform_model.proofs.Instances.{instance_is, is_instance}
use Rattle.transform_model.proofs.Kept.{all_in_order, all_kept, instance_of_row}
use Rattle.policy_rules.proofs.Lists.{is_joined, joined_is}
use Rattle.transform_model.proofs.Lists.{place_within}
use Rattle.transform_model.proofs.Rows.{rows_iff}
use Rattle.node_laws.specs.NodeModel.Maps.{Map}
use Rattle.node_laws.specs.NodeModel.Members.{Member}
use Rattle.node_laws.specs.NodeModel.Paths.{Holdings}
use Rattle.node_laws.specs.NodeModel.Tables.{known_instances, rows}
use Rattle.node_laws.proofs.NodeModel.Heard.{row_exact, row_total}
use Rattle.node_laws.proofs.NodeModel.Members.{from_flat_map, from_map, get_member, in_flat_map, in_map, member_get, contains_of, member_of}
use Rattle.node_laws.proofs.NodeModel.Orders.{prefix_exact, prefix_total}
use Rattle.node_laws.specs.Received as received
use Rattle.node_laws.specs.Received.{AreNetworks}
use Rattle.node_laws.proofs.Receiving.{known_in}
use Rattle.node_laws.proofs.Shown.{shown_in_order}
use Rattle.machine_model.specs.Setup.{low as low_map}
use Rattle.machine_laws.specs.Compiled as compiled
use Rattle.machine_laws.specs.Compiled.{Agents, Attachment, attachments, compiled_holdings, compiled_table, rows_in}
use Rattle.machine_laws.specs.Sound.{IsServed}
use Rattle.machine_laws.proofs.CompiledShown.{rows_compiled, entry_row}
use Rattle.machine_laws.proofs.Sorted.{Rises, same_sorted, sorted_from}
use Rattle.machine_laws.proofs.Hosts.{entry}
use Rattle.machine_laws.proofs.Imports.{found_object, instance_by, object_of_network, small}
use Rattle.machine_laws.proofs.Objects.{held_of, is_held, object_at, object_is, uses_ordered}
use Rattle.machine_laws.proofs.Shown.{in_table, pairs_rise, table_is}
use Rattle.machine_laws.proofs.Sound.{is_sound}

-- ---- lists in order
below_all : (e f : TableEntry) (es : List TableEntry) → Over row_key_cmp e.0 es → Member f es → T (is_lt (row_key_cmp e.0 f.0))
below_all e f [] h m = absurd m
below_all e f (g ∷ es) h (inl same) = subst (λ (o : Ordering). T (is_lt o)) (sym (ap (λ (f : TableEntry). row_key_cmp e.0 f.0) (sym same) ∙ h.0)) tt
below_all e f (g ∷ es) h (inr m) = below_all e f es h.1 m

ascending_rise : (es : List TableEntry) → Ascends row_key_cmp es → Rises row_key_cmp es
ascending_rise [] h = tt
ascending_rise (e ∷ es) h = ((λ f m. below_all e f es h.0 m), ascending_rise es h.1)

keys_sorted : (es : List TableEntry) → IsStrictlySortedBy row_key_cmp (map (λ (e : TableEntry). e.0) es) → T (is_sorted row_key_cmp es)
keys_sorted es h = sorted_from row_key_cmp es (ascending_rise es (ascends row_key_cmp es h))

-- ---- places
before : (j n : ℕ) → j < n → j ≤ n
before j n h = omega (arith, h)

next : (j n : ℕ) → j < n → j + 1 ≤ n
next j n h = omega (arith, h)

zero_le : (n : ℕ) → 0 ≤ n
zero_le n = omega arith

le_itself : (n : ℕ) → n ≤ n
le_itself n = omega arith

-- each attachment's node, as if it had a session
abbrev agent_of : Attachment → ℕ × Addr
agent_of a = (0, a.node)

module _ (x : Setup) (form : IsTrue (has_config_form x.config)) (v : IsValid x.topology x.config) where
  abbrev feed : Map
  feed = low_map x

  -- ---- a row stands in an instance of the configuration, and each of these is known
  row_instance : (i : InstanceId) (r : TableEntry) → IsRow x.topology x.config i r → IsInstance x.config i
  row_instance i r (to_port n home p d in_n at h i_is is) = of_network n in_n i_is
  row_instance i r (to_left_circuit u j k d used is at i_is r_is) = of_hop u j used (before j (length u.services) (place_within u.services j k.service is.service)) i_is
  row_instance i r (to_right_circuit u j k d used is at i_is r_is) = of_hop u (j + 1) used (next j (length u.services) (place_within u.services j k.service is.service)) i_is
  row_instance i r (to_right_subnet u j k d p used is at held i_is r_is) = of_hop u j used (before j (length u.services) (place_within u.services j k.service is.service)) i_is
  row_instance i r (to_left_subnet u j k d p used is at held i_is r_is) = of_hop u (j + 1) used (next j (length u.services) (place_within u.services j k.service is.service)) i_is
  row_instance i r (at_left_end u p d used at i_is is) = of_hop u 0 used (zero_le (length u.services)) i_is
  row_instance i r (at_right_end u p d used at i_is is) = of_hop u (length u.services) used (le_itself (length u.services)) i_is

  instance_known : (i : InstanceId) → IsInstance x.config i → Member i (known_instances feed)
  instance_known i (of_network n in_n is) =
      let q = object_of_network x form v n in_n in
      subst (λ (i : InstanceId). Member i (known_instances feed)) (sym is) (known_in feed n.id (received.of_network (low.Instance q.0) q.2))
  instance_known i (of_hop u j used within is) = known_in feed i (received.of_place (held_of u) j (is_held x form v u used) within is)

  -- ---- what is compiled is in order
  networks_small : AreNetworks feed
  networks_small n w e =
      let q = instance_by x n w (object_is x form v (object_at (key.Instance n) w) (found_object feed (key.Instance n) w e)) in
      subst (λ (n : ℕ). n < 16384) (sym q.number) (small x form v q.home q.has)

  abbrev agents : Agents
  agents = map agent_of (attachments feed)

  all_served : IsServed feed agents []
  all_served a m = inl (agent_of a, in_map agent_of a (attachments feed) m, refl)

  rows_sorted : T (is_sorted row_key_cmp (compiled.control_rows feed))
  rows_sorted =
      let h : Holdings = compiled_holdings 0 feed agents [] in
      subst (λ (es : List TableEntry). T (is_sorted row_key_cmp es)) (rows_compiled 0 feed agents [] (is_sound x form v) all_served)
      (keys_sorted (rows h) (shown_in_order h networks_small (uses_ordered x form v).short))

  -- ---- both have the same rows
  row_there : (e : TableEntry) → Member e (compiled.control_rows feed) → Member e (tables.control_rows x.topology x.config)
  row_there e m =
      let q = from_flat_map (rows_in feed) e (known_instances feed) m in
      let w = from_map (entry_row q.0) e (entries (compiled_table feed q.0)) q.2 in
      let stands : IsRow x.topology x.config q.0 e =
      subst (IsRow x.topology x.config q.0) w.2 (table_is x form v q.0 w.0.0 w.0.1 (get_member prefix_total (compiled_table feed q.0) w.0.0 w.0.1 w.1)) in
      let joined : Contains (flat_map (instance_table x.topology x.config) (instances x.config)) e =
      is_joined (instance_table x.topology x.config) (instances x.config) q.0 e (is_instance x.topology x.config q.0 v (row_instance q.0 e stands)) ((rows_iff x.topology x.config q.0 e v).1 stands) in
      member_of (tables.control_rows x.topology x.config) e
      (Contains-permutation (flat_map (instance_table x.topology x.config) (instances x.config)) (tables.control_rows x.topology x.config) e (all_kept x.topology x.config v form) joined)

  row_back : (e : TableEntry) → Member e (tables.control_rows x.topology x.config) → Member e (compiled.control_rows feed)
  row_back e m =
      let all : List TableEntry = flat_map (instance_table x.topology x.config) (instances x.config) in
      let joined : Contains all e =
      Contains-permutation (tables.control_rows x.topology x.config) all e (IsPermutation-sym all (tables.control_rows x.topology x.config) (all_kept x.topology x.config v form)) (contains_of (tables.control_rows x.topology x.config) e m) in
      let q = joined_is (instance_table x.topology x.config) (instances x.config) e joined in
      let at : e.0.0 ≡ q.0 = instance_of_row x.topology x.config q.0 e q.2 in
      let whole : e ≡ entry q.0 e.0.1 e.1 = λ k. entry (at k) e.0.1 e.1 in
      let held = in_table x form v q.0 e.0.1 e.1 (subst (IsRow x.topology x.config q.0) whole ((rows_iff x.topology x.config q.0 e v).0 q.2)) in
      subst (λ (e : TableEntry). Member e (compiled.control_rows feed)) (sym whole)
      (in_flat_map (rows_in feed) q.0 (entry q.0 e.0.1 e.1) (known_instances feed) (instance_known q.0 (instance_is x.config q.0 q.1))
      (in_map (entry_row q.0) (e.0.1, e.1) (entries (compiled_table feed q.0)) (member_get prefix_total prefix_exact (compiled_table feed q.0) e.0.1 e.1 held)))

  pub control_is : compiled.control_rows feed ≡ tables.control_rows x.topology x.config
  control_is =
      let there = tables.control_rows x.topology x.config in
      same_sorted row_total row_exact (compiled.control_rows feed) there rows_sorted (sorted_from row_key_cmp there (pairs_rise there (all_in_order x.topology x.config))) row_there row_back
