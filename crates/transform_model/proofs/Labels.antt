-- In a valid configuration an agent has exactly the labels of the ports and circuits at its node, and rows lead by them.
use Rattle.std.proofs.Common.{◌≡◌, ◌↔◌, ◌⊎◌, inl, inr, ◌==◌, ℕ, true, IsTrue, Option, Some, None, refl, sym, ap, ◌∙◌, subst}
use Rattle.std.specs.List.{Contains}
use Rattle.std.proofs.lemmas.Bool.{eq-eqb}
use Rattle.ov_types.specs.Prefix.{Block, host_prefix}
use Rattle.ov_types.specs.declared.numbers.InstanceId.{InstanceId}
use Rattle.ov_types.specs.declared.numbers.Label.{Label}
use Rattle.ov_types.specs.declared.prefix.Addr.{Addr}
use Rattle.ov_types.specs.declared.rows.Attached.{Attached}
use Rattle.ov_types.specs.declared.rows.Attached.TheVariants as Is
use Rattle.node_model.specs.RouteTargets.Numbers.{circuit_address_of, circuit_instance_of, circuit_label_of, port_label_of}
use Rattle.acl_compile.specs.ConfigTypes.Form.{has_config_form}
use Rattle.acl_compile.specs.ConfigTypes.Config.{Config}
use Rattle.acl_compile.specs.ConfigTypes.Network.{Network}
use Rattle.acl_compile.specs.ConfigTypes.Port.{Port}
use Rattle.acl_compile.specs.ConfigTypes.Node.{Node}
use Rattle.acl_compile.specs.ConfigTypes.Topology.{Topology}
use Rattle.acl_compile.specs.ConfigCheck.Sentences.{IsValid}
use Rattle.node_model.specs.Agent.{attached}
use Rattle.transform_model.specs.Compiled.{agent_rows, concerns, slice_of}
use Rattle.transform_model.specs.IsLabel.{IsLabel, instance_of}
use Rattle.transform_model.specs.IsLabel as label
use Rattle.transform_model.specs.IsObject.{IsObject, of_network, of_port, of_left_circuit, of_right_circuit, of_networks, of_use}
use Rattle.transform_model.specs.IsRow.{IsRow, to_port, to_left_circuit, to_right_circuit, to_right_subnet, to_left_subnet, at_left_end, at_right_end, IsPort, IsCircuitAt}
use Rattle.transform_model.specs.IsUse.{IsUse, IsLeftCircuit, IsRightCircuit}
use Rattle.transform_model.specs.Objects.{LowObject, attached_port, attached_circuit, low_objects}
use Rattle.transform_model.specs.Tables.{Row, host_route, circuit_route, instance_table}
use Rattle.transform_model.specs.Uses.{ConfiguredUse, Circuit}
use Rattle.transform_model.proofs.Circuits.{left_instance, right_instance}
use Rattle.acl_compile.proofs.PolicyRules.Lists.{kept_is, is_kept}
use Rattle.transform_model.proofs.Lists.{given, gives}
use Rattle.transform_model.proofs.LowKeys.{low_is, is_low}
use Rattle.transform_model.proofs.Rows.{row_is, is_row}
use Rattle.transform_model.proofs.Needed.{same_address}

abbrev told : LowObject → Option (Label × Attached)
told o = attached o.0 o.1

-- ---- what is attached is labelled

module _ (t : Topology) (c : Config) (a : Addr) (l : Label × Attached) where
  abbrev asked : LowObject → Type 0
  asked o = concerns (low_objects t c) a o.0 o.1 ≡ true

  of_object : (o : LowObject) → IsObject t c o → asked o → told o ≡ Some l → IsLabel t c a l
  of_object o (of_network n is in_n are e) here is_l = let none : None ≡ Some l = ap told (sym e) ∙ is_l in cc
  of_object o (of_port n p d at e) here is_l =
      let some : Some (port_label_of p.id, Is.Port p.id n.id) ≡ Some l = ap told (sym e) ∙ is_l in
      let same : (port_label_of p.id, Is.Port p.id n.id) ≡ l = cc in
      let there : IsTrue (d.address.0 == a.0) = subst asked e here in
      label.of_port n p d at (same_address d.address a there) (sym same)
  of_object o (of_left_circuit u j k d used left at e) here is_l =
      let some : Some (circuit_label_of k.number, Is.Circuit k.number k.service.id) ≡ Some l = ap told (sym e) ∙ is_l in
      let same : (circuit_label_of k.number, Is.Circuit k.number k.service.id) ≡ l = cc in
      let there : IsTrue (d.address.0 == a.0) = subst asked e here in
      label.of_circuit u j k d used (inl left) at (same_address d.address a there) (sym same)
  of_object o (of_right_circuit u j k d used right at e) here is_l =
      let some : Some (circuit_label_of k.number, Is.Circuit k.number k.service.id) ≡ Some l = ap told (sym e) ∙ is_l in
      let same : (circuit_label_of k.number, Is.Circuit k.number k.service.id) ≡ l = cc in
      let there : IsTrue (d.address.0 == a.0) = subst asked e here in
      label.of_circuit u j k d used (inr right) at (same_address d.address a there) (sym same)
  of_object o (of_networks x y in_x in_y around e) here is_l = let none : None ≡ Some l = ap told (sym e) ∙ is_l in cc
  of_object o (of_use u hops used zip e) here is_l = let none : None ≡ Some l = ap told (sym e) ∙ is_l in cc

  pub label_is : IsValid t c → IsTrue (has_config_form c) → Contains (agent_rows t c a).labels l → IsLabel t c a l
  unfolding agent_rows
  label_is v form h =
      let g = given told (slice_of (low_objects t c) a) l h in
      let k = kept_is (λ (e : LowObject). concerns (low_objects t c) a e.0 e.1) (low_objects t c) g.0 g.1 in
      of_object g.0 (low_is t c g.0 v form k.0) k.1 g.2

  from_object : IsValid t c → IsTrue (has_config_form c) → (o : LowObject) → IsObject t c o → asked o → told o ≡ Some l → Contains (agent_rows t c a).labels l
  unfolding agent_rows
  from_object v form o is here is_l =
      gives told (slice_of (low_objects t c) a) o l
      (is_kept (λ (e : LowObject). concerns (low_objects t c) a e.0 e.1) (low_objects t c) o (is_low t c o v form is) here) is_l

  at_address : (d : Node) → a ≡ d.address → (d.address.0 == a.0) ≡ true
  at_address d e = eq-eqb d.address.0 a.0 (ap (λ (x : Addr). x.0) (sym e))

  pub is_label : IsValid t c → IsTrue (has_config_form c) → IsLabel t c a l → Contains (agent_rows t c a).labels l
  is_label v form (label.of_port n p d at here e) =
      from_object v form (attached_port p n d) (of_port n p d at refl) (at_address d here) (ap (λ (x : Label × Attached). Some x) (sym e))
  is_label v form (label.of_circuit u j k d used side at here e) =
      let is : IsObject t c (attached_circuit k d) =
      elim side [ inl left ↦ of_left_circuit u j k d used left at refl | inr right ↦ of_right_circuit u j k d used right at refl ] in
      from_object v form (attached_circuit k d) is (at_address d here) (ap (λ (x : Label × Attached). Some x) (sym e))

pub labels_iff : (t : Topology) (c : Config) (a : Addr) (l : Label × Attached) → IsValid t c → IsTrue (has_config_form c)
    → Contains (agent_rows t c a).labels l ↔ IsLabel t c a l
labels_iff t c a l v form = (label_is t c a l v form, is_label t c a l v form)

-- ---- rows lead by labels

abbrev HasLabel : Topology → Config → Row → Type 0
HasLabel t c r = (x : Attached) × IsLabel t c r.1.next_hop (r.1.label, x)

to_port_at : (t : Topology) (c : Config) (i : InstanceId) (home : Network) (p : Port) (d : Node) (r : Row) → IsPort t c home p d
    → r ≡ host_route i home d p → HasLabel t c r
to_port_at t c i home p d r at route =
    subst (HasLabel t c) (sym route) (Is.Port p.id home.id, label.of_port home p d at refl refl)

to_circuit_at : (t : Topology) (c : Config) (i : InstanceId) (u : ConfiguredUse) (j : ℕ) (k : Circuit) (d : Node) (r : Row) (prefix : Block) → IsUse c u
    → IsLeftCircuit u j k ⊎ IsRightCircuit u j k → IsCircuitAt t k d → r ≡ circuit_route i prefix k d → HasLabel t c r
to_circuit_at t c i u j k d r prefix used side at route =
    subst (HasLabel t c) (sym route) (Is.Circuit k.number k.service.id, label.of_circuit u j k d used side at refl refl)

row_label : (t : Topology) (c : Config) (i : InstanceId) (r : Row) → IsRow t c i r → HasLabel t c r
row_label t c i r (to_port n home p d in_n at imported is route) = to_port_at t c i home p d r at route
row_label t c i r (to_left_circuit u j k d used left at is route) = to_circuit_at t c i u j k d r (host_prefix (circuit_address_of k.number).0) used (inl left) at route
row_label t c i r (to_right_circuit u j k d used right at is route) = to_circuit_at t c i u j k d r (host_prefix (circuit_address_of k.number).0) used (inr right) at route
row_label t c i r (to_right_subnet u j k d prefix used left at held is route) = to_circuit_at t c i u j k d r prefix used (inl left) at route
row_label t c i r (to_left_subnet u j k d prefix used right at held is route) = to_circuit_at t c i u j k d r prefix used (inr right) at route
row_label t c i r (at_left_end u p d used at is route) = to_port_at t c i u.left p d r at route
row_label t c i r (at_right_end u p d used at is route) = to_port_at t c i u.right p d r at route

pub rows_have_labels : (t : Topology) (c : Config) (i : InstanceId) (r : Row) → IsValid t c → IsTrue (has_config_form c) → Contains (instance_table t c i) r
    → (x : Attached) × Contains (agent_rows t c r.1.next_hop).labels (r.1.label, x)
rows_have_labels t c i r v form h =
    let q = row_label t c i r (row_is t c i r h) in
    (q.0, is_label t c r.1.next_hop (r.1.label, q.0) v form q.1)

abbrev HasRow : Topology → Config → Addr → Label × Attached → Type 0
HasRow t c a l = (r : Row) × Contains (instance_table t c (instance_of l.1)) r × (r.1.next_hop ≡ a) × (r.1.label ≡ l.0)

label_row : (t : Topology) (c : Config) (a : Addr) (l : Label × Attached) → IsValid t c → IsLabel t c a l → HasRow t c a l
label_row t c a l v (label.of_port n p d at here e) =
    let r : Row = host_route n.id n d p in
    let row : IsRow t c n.id r = to_port n n p d at.has_home at (inl refl) refl refl in
    subst (HasRow t c a) (sym e) (r, is_row t c n.id v r row, sym here, refl)
label_row t c a l v (label.of_circuit u j k d used (inl left) at here e) =
    let i : InstanceId = circuit_instance_of k.number in
    let r : Row = circuit_route i (host_prefix (circuit_address_of k.number).0) k d in
    let row : IsRow t c i r = to_left_circuit u j k d used left at (left_instance u j k left) refl in
    subst (HasRow t c a) (sym e) (r, is_row t c i v r row, sym here, refl)
label_row t c a l v (label.of_circuit u j k d used (inr right) at here e) =
    let i : InstanceId = circuit_instance_of k.number in
    let r : Row = circuit_route i (host_prefix (circuit_address_of k.number).0) k d in
    let row : IsRow t c i r = to_right_circuit u j k d used right at (right_instance u j k right) refl in
    subst (HasRow t c a) (sym e) (r, is_row t c i v r row, sym here, refl)

pub labels_have_rows : (t : Topology) (c : Config) (a : Addr) (l : Label × Attached) → IsValid t c → IsTrue (has_config_form c) → Contains (agent_rows t c a).labels l
    → (r : Row) × Contains (instance_table t c (instance_of l.1)) r × (r.1.next_hop ≡ a) × (r.1.label ≡ l.0)
labels_have_rows t c a l v form h = label_row t c a l v (label_is t c a l v form h)
