-- The rows that a valid configuration is compiled to are in order.
use Rattle.std.proofs.Common.{◌≡◌, ◌+◌, ◌*◌, ◌%◌, ℕ, IsTrue, List, None, get_or, refl, sym, subst, arith, inl, inr}
use Rattle.std.specs.List.{Contains}
use Rattle.std.proofs.lemmas.Bool.{and_from, and_parts, eq-eqb, le-leb}
use Rattle.std.proofs.lemmas.List.Elements.{Contains-get_or}
use Rattle.ov_types.specs.Prefix.{Block, host_prefix, is_prefix}
use Rattle.ov_types.specs.declared.numbers.InstanceId.{InstanceId}
use Rattle.ov_types.specs.declared.numbers.Label.{Label}
use Rattle.ov_types.specs.declared.prefix.Addr.{Addr}
use Rattle.ov_types.specs.declared.rows.Attached.{Attached}
use Rattle.ov_types.specs.declared.rows.Attached.TheVariants as Is
use Rattle.ov_types.specs.declared.rows.Entry.{Entry}
use Rattle.packet_trace.specs.Circuits.{IsOfAUse}
use Rattle.config_types.specs.Form.{has_config_form}
use Rattle.config_types.specs.declared.config.Config.{Config}
use Rattle.config_types.specs.declared.topology.Topology.{Topology}
use Rattle.config_check.specs.Rules.{first_broken}
use Rattle.config_check.specs.Sentences.{IsValid}
use Rattle.config_check.proofs.Validity.{valid_iff}
use Rattle.transform_model.specs.Compiled.{agent_rows}
use Rattle.transform_model.specs.IsLabel.{IsLabel, of_circuit, of_port}
use Rattle.transform_model.specs.IsRow.{IsRow, at_left_end, at_right_end, to_left_circuit, to_left_subnet, to_port, to_right_circuit, to_right_subnet}
use Rattle.transform_model.specs.IsUse.{IsUse, IsLeftCircuit, IsRightCircuit}
use Rattle.transform_model.specs.Tables.{Row}
use Rattle.transform_model.specs.Uses.{Circuit, ConfiguredUse}
use Rattle.transform_model.proofs.AgentRows.{acls_in_order, labels_in_order, routes_in_order}
use Rattle.transform_model.proofs.Circuits.{left_number, right_number}
use Rattle.transform_model.proofs.InUse.{few_services}
use Rattle.transform_model.proofs.Lemmas.{labels_are_exactly_these, routes_are_exactly_these}
use Rattle.transform_model.proofs.Lists.{place_within}
use Rattle.transform_model.proofs.Prefixes.{use_number}
use Rattle.transform_model.proofs.Valid.{subnet_form}
use Rattle.inspect_walks.specs.Ordered.{AreOrdered}

abbrev IsFormed : Block → Type 0
IsFormed b = IsTrue (is_prefix b.addr b.len)

host_formed : (a : ℕ) → IsFormed (host_prefix a)
host_formed a = eq-eqb (a % 1) 0 (omega arith)

module _ (t : Topology) (c : Config) (form : IsTrue (has_config_form c)) (valid : first_broken t c ≡ None) where
  abbrev v : IsValid t c
  v = (valid_iff t c).0 valid

  row_formed : (i : InstanceId) (r : Row) → IsRow t c i r → IsFormed r.0.1
  row_formed i r (to_port network home port node in_network is_port imports at is) = subst (λ (x : Row). IsFormed x.0.1) (sym is) (host_formed port.address.0)
  row_formed i r (to_left_circuit u j k node used is_k is_at at is) = subst (λ (x : Row). IsFormed x.0.1) (sym is) (host_formed _)
  row_formed i r (to_right_circuit u j k node used is_k is_at at is) = subst (λ (x : Row). IsFormed x.0.1) (sym is) (host_formed _)
  row_formed i r (to_right_subnet u j k node prefix used is_k is_at holds at is) =
      subst (λ (x : Row). IsFormed x.0.1) (sym is) (and_parts _ _ (subnet_form c form u.right prefix used.has_right holds.has_subnet)).0
  row_formed i r (to_left_subnet u j k node prefix used is_k is_at holds at is) =
      subst (λ (x : Row). IsFormed x.0.1) (sym is) (and_parts _ _ (subnet_form c form u.left prefix used.has_left holds.has_subnet)).0
  row_formed i r (at_left_end u port node used is_port at is) = subst (λ (x : Row). IsFormed x.0.1) (sym is) (host_formed port.address.0)
  row_formed i r (at_right_end u port node used is_port at is) = subst (λ (x : Row). IsFormed x.0.1) (sym is) (host_formed port.address.0)

  route_formed : (a : Addr) (q : (InstanceId × Block) × Entry) → Contains (agent_rows t c a).routes q → IsFormed q.0.1
  route_formed a q h =
      let route = (routes_are_exactly_these t c a q form valid).0 h in
      subst (λ (k : InstanceId × Block). IsFormed k.1) (sym route.key) (row_formed route.row.0.0 route.row route.stands)

  left_of_a_use : (u : ConfiguredUse) (j : ℕ) (k : Circuit) → IsUse c u → IsLeftCircuit u j k → IsOfAUse (Is.Circuit k.number k.service.id)
  left_of_a_use u j k used is =
      let few = few_services t c u v used in
      let most = use_number c u form used in
      let place = place_within u.services j k.service is.service in
      let number : k.number ≡ 2 * (16384 + 16 * u.number + j) + 1 = left_number u j k is in
      and_from _ _ (le-leb 32769 k.number (omega (arith, number))) (le-leb k.number 131070 (omega (arith, number, few, most, place)))

  right_of_a_use : (u : ConfiguredUse) (j : ℕ) (k : Circuit) → IsUse c u → IsRightCircuit u j k → IsOfAUse (Is.Circuit k.number k.service.id)
  right_of_a_use u j k used is =
      let few = few_services t c u v used in
      let most = use_number c u form used in
      let place = place_within u.services j k.service is.service in
      let number : k.number ≡ 2 * (16384 + 16 * u.number + (j + 1)) = right_number u j k is in
      and_from _ _ (le-leb 32769 k.number (omega (arith, number))) (le-leb k.number 131070 (omega (arith, number, few, most, place)))

  label_of_a_use : (a : Addr) (l : Label × Attached) → IsLabel t c a l → IsOfAUse l.1
  label_of_a_use a l (of_port home port node is_port at is) = subst (λ (x : Label × Attached). IsOfAUse x.1) (sym is) refl
  label_of_a_use a l (of_circuit u j k node used (inl left) is_at at is) = subst (λ (x : Label × Attached). IsOfAUse x.1) (sym is) (left_of_a_use u j k used left)
  label_of_a_use a l (of_circuit u j k node used (inr right) is_at at is) = subst (λ (x : Label × Attached). IsOfAUse x.1) (sym is) (right_of_a_use u j k used right)

  pub rows_in_order : (a : Addr) → AreOrdered (agent_rows t c a)
  rows_in_order a =
      let labels : List (Label × Attached) = (agent_rows t c a).labels in
      let routes : List ((InstanceId × Block) × Entry) = (agent_rows t c a).routes in
      record {
        labels = labels_in_order t c a;
        circuits = λ k d lt. label_of_a_use a (get_or labels k d) ((labels_are_exactly_these t c a (get_or labels k d) form valid).0 (Contains-get_or labels k d lt));
        lists = acls_in_order t c a;
        routes = routes_in_order t c a;
        prefixes = λ k d lt. route_formed a (get_or routes k d) (Contains-get_or routes k d lt);
      }
