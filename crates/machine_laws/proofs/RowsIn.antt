-- Each row of the configuration's tables is one of the low-level objects' tables.
use Rattle.std.specs.List.{Contains}
use Rattle.std.specs.Prelude.{IsTrue, false, length, nat_le, nat_lt, suc, true, ℕ, [], ◌+◌, ◌-◌, ◌<◌, ◌∷◌, ◌≡◌, ◌≤◌}
use Rattle.transform_model.proofs.Valid.{node_of_port}
use Rattle.std.proofs.Common.{ap, arith, inl, inr, refl, subst, sym, ◌∙◌}
use Rattle.std.proofs.lemmas.Bool.{and_from, and_parts, le-leb, ltb-true}
use Rattle.ov_types.specs.Prefix.{Block, contains, host_prefix, is_inside, size_of}
use Rattle.ov_types.specs.declared.numbers.InstanceId.{InstanceId}
use Rattle.ov_types.specs.declared.rows.TableRow.{TableRow}
use Rattle.route_targets.specs.Numbers.{circuit_instance_of, circuit_label_of, distinguisher_of, hop_instance_of, left_circuit_of, right_circuit_of, target_of}
use Rattle.config_types.specs.Form.{has_config_form}
use Rattle.config_types.specs.declared.config.Network.{Network}
use Rattle.machine_model.specs.Setup.{Setup}
use Rattle.schedule_script.specs.ConfigCheck.Sentences.{IsValid}
use Rattle.transform_model.specs.IsRow.{HoldsPort, IsPort, IsRow, at_left_end, at_right_end, to_left_circuit, to_left_subnet, to_port, to_right_circuit, to_right_subnet}
use Rattle.transform_model.specs.Tables.{Row as TableEntry}
use Rattle.transform_model.proofs.Circuits.{left_instance, right_instance}
use Rattle.transform_model.proofs.Lists.{place_within}
use Rattle.node_laws.specs.NodeModel.Maps.{Map}
use Rattle.node_laws.specs.NodeModel.Members.{Member}
use Rattle.node_laws.specs.NodeModel.Paths.{Path}
use Rattle.node_laws.specs.NodeModel.Reaching.{Side, hop_at, network, sides, subnets}
use Rattle.node_laws.specs.NodeModel.Uses.{imports}
use Rattle.node_laws.proofs.NodeModel.Objects.{in_sides}
use Rattle.machine_model.specs.Setup.{low as low_map}
use Rattle.machine_laws.specs.Compiled.{Attachment, attachments, circuit_prefix, holds, row_at, row_of, table_rows}
use Rattle.machine_laws.specs.Sound.{IsCircuitAt}
use Rattle.machine_laws.proofs.TableRows.{aggregate_row, host_row}
use Rattle.machine_laws.proofs.Up.{held_in}
use Rattle.machine_laws.proofs.Hosts.{circuit_entry}
use Rattle.machine_laws.proofs.Imports.{hop_in, network_in}
use Rattle.machine_laws.proofs.Objects.{ascending_in, circuit_attachment, held_of, is_held, left_attached, port_attached, port_attachment, right_attached}

-- a block that holds an address holds its host block
pub host_inside : (a : ℕ) (q : Block) → contains q a ≡ true → is_inside (host_prefix a) q ≡ true
host_inside a q e =
    let h = and_parts (nat_le q.addr a) (nat_lt a (q.addr + size_of q.len)) e in
    and_from (nat_le q.addr a) (nat_le (a + size_of 32) (q.addr + size_of q.len)) h.0 (le-leb (a + 1) (q.addr + size_of q.len) (next a (q.addr + size_of q.len) (ltb-true a (q.addr + size_of q.len) h.1)))
  where
    next : (a b : ℕ) → a < b → a + 1 ≤ b
    next a b h = omega (arith, h)

module _ (x : Setup) (form : IsTrue (has_config_form x.config)) (v : IsValid x.topology x.config) where
  abbrev feed : Map
  feed = low_map x

  abbrev Stands : InstanceId → TableEntry → Type 0
  Stands i r = Member (row_at r.0.1 r.1) (table_rows feed i)

  abbrev path_to : Attachment → Block → Path
  path_to a p = record { prefix = p; rd = distinguisher_of a.node a.instance; next_hop = a.node; label = a.label; targets = target_of 0 a.instance ∷ []; session = 0 }

  host_in : (i : InstanceId) (a : Attachment) → Member a (attachments feed) → Member a.instance (imports feed i) → Member (row_at a.prefix (row_of a)) (table_rows feed i)
  host_in i a m im = host_row 0 feed i (path_to a a.prefix) (record { to = a; attached = m; prefix = refl; rd = refl; next_hop = refl; label = refl; targets = refl }) im

  subnet_in : (s : Side) (d : ℕ) (p : Block) (a : Attachment) → Member s (sides feed) → d < s.chain.services → Member p (subnets s) → holds feed (network s) p ≡ true → Member a (attachments feed) → IsCircuitAt s (suc d) a → Member (row_at p (row_of a)) (table_rows feed (hop_at s (suc d)))
  subnet_in s d p a in_use within m held at is =
      aggregate_row 0 feed (hop_at s (suc d)) (path_to a p) (record { side = s; of_use = in_use; d = d; within = within; subnet = m; held = held; to = a; attached = at; instance = is.0; circuit = is.1; rd = refl; next_hop = refl; label = refl; targets = refl }) is.0

  holds_in : (n : Network) (p : Block) → Contains x.config.networks n → HoldsPort x.config n p → holds feed n.id p ≡ true
  holds_in n p in_n h =
      let d = node_of_port x.topology x.config v h.port h.has_port in
      let at : IsPort x.topology x.config n h.port d.0 = record { has_home = in_n; has_port = h.has_port; has_node = d.1; home_of = h.home_of; node_of = d.2 } in
      held_in feed n.id p (port_attachment h.port n d.0) (port_attached x form v n h.port d.0 at) refl (host_inside h.port.address.0 p h.holds)

  before : (j n : ℕ) → j < n → j ≤ n
  before j n h = omega (arith, h)

  next : (j n : ℕ) → j < n → j + 1 ≤ n
  next j n h = omega (arith, h)

  pub row_in : (i : InstanceId) (r : TableEntry) → IsRow x.topology x.config i r → Stands i r
  row_in i r (to_port n home p d in_n at h i_is is) =
      subst (Stands i) (sym is) (host_in i (port_attachment p home d) (port_attached x form v home p d at) (subst (λ (i : InstanceId). Member home.id (imports feed i)) (sym i_is) (network_in x form v n home in_n at.has_home h)))
  row_in i r (to_left_circuit u j k d used is at i_is r_is) =
      let own : i ≡ circuit_instance_of k.number = i_is ∙ sym (left_instance u j k is) in
      subst (Stands i) (circuit_entry x form v i k d own ∙ sym r_is)
      (host_in i (circuit_attachment k d) (left_attached x form v u j k d used is at)
      (subst (λ (i : InstanceId). Member (circuit_instance_of k.number) (imports feed i)) (sym i_is) (hop_in x form v u j (circuit_instance_of k.number) used (before j (length u.services) (place_within u.services j k.service is.service)) (inl (left_instance u j k is)))))
  row_in i r (to_right_circuit u j k d used is at i_is r_is) =
      let own : i ≡ circuit_instance_of k.number = i_is ∙ sym (right_instance u j k is) in
      subst (Stands i) (circuit_entry x form v i k d own ∙ sym r_is)
      (host_in i (circuit_attachment k d) (right_attached x form v u j k d used is at)
      (subst (λ (i : InstanceId). Member (circuit_instance_of k.number) (imports feed i)) (sym i_is) (hop_in x form v u (j + 1) (circuit_instance_of k.number) used (next j (length u.services) (place_within u.services j k.service is.service)) (inl (right_instance u j k is)))))
  row_in i r (at_left_end u p d used at i_is is) =
      subst (Stands i) (sym is) (host_in i (port_attachment p u.left d) (port_attached x form v u.left p d at) (subst (λ (i : InstanceId). Member u.left.id (imports feed i)) (sym i_is) (hop_in x form v u 0 u.left.id used (zero_le (length u.services)) (inr (inl (refl, refl))))))
    where
      zero_le : (n : ℕ) → 0 ≤ n
      zero_le n = omega arith
  row_in i r (at_right_end u p d used at i_is is) =
      subst (Stands i) (sym is) (host_in i (port_attachment p u.right d) (port_attached x form v u.right p d at) (subst (λ (i : InstanceId). Member u.right.id (imports feed i)) (sym i_is) (hop_in x form v u (length u.services) u.right.id used (le_itself (length u.services)) (inr (inr (refl, refl))))))
    where
      le_itself : (n : ℕ) → n ≤ n
      le_itself n = omega arith
  row_in i r (to_right_subnet u j k d p used is at held i_is r_is) =
      let n = length u.services in
      let low = place_within u.services j k.service is.service in
      let s : Side = record { chain = held_of u; is_right = true } in
      let place : n - suc (n - suc j) ≡ j = back j n low in
      let at_hop : hop_instance_of u.number (n - suc (n - suc j)) ≡ i = ap (hop_instance_of u.number) place ∙ sym i_is in
      let own : circuit_instance_of k.number ≡ i = left_instance u j k is ∙ sym i_is in
      let there = subnet_in s (n - suc j) p (circuit_attachment k d) (in_sides feed (held_of u) true (is_held x form v u used)) (deep j n low) (ascending_in u.right.subnets p held.has_subnet) (holds_in u.right p used.has_right held)
      (left_attached x form v u j k d used is at) (own ∙ sym at_hop, ap circuit_prefix (is.number ∙ ap (λ (j : ℕ). left_circuit_of u.number (j + 1)) (sym place))) in
      subst (Stands i) (sym r_is)
      (subst (λ (r : TableRow). Member (row_at p r) (table_rows feed i)) (ap (λ (m : InstanceId). record { rd = distinguisher_of d.address m; next_hop = d.address; label = circuit_label_of k.number }) own)
      (subst (λ (i : InstanceId). Member (row_at p (row_of (circuit_attachment k d))) (table_rows feed i)) at_hop there))
    where
      back : (j n : ℕ) → j < n → n - suc (n - suc j) ≡ j
      back j n h = omega (arith, h)

      deep : (j n : ℕ) → j < n → n - suc j < n
      deep j n h = omega (arith, h)
  row_in i r (to_left_subnet u j k d p used is at held i_is r_is) =
      let n = length u.services in
      let low = place_within u.services j k.service is.service in
      let s : Side = record { chain = held_of u; is_right = false } in
      let place : suc j ≡ j + 1 = one_more j in
      let at_hop : hop_instance_of u.number (suc j) ≡ i = ap (hop_instance_of u.number) place ∙ sym i_is in
      let own : circuit_instance_of k.number ≡ i = right_instance u j k is ∙ sym i_is in
      let there = subnet_in s j p (circuit_attachment k d) (in_sides feed (held_of u) false (is_held x form v u used)) low (ascending_in u.left.subnets p held.has_subnet) (holds_in u.left p used.has_left held)
      (right_attached x form v u j k d used is at) (own ∙ sym at_hop, ap circuit_prefix (is.number ∙ ap (right_circuit_of u.number) (sym place))) in
      subst (Stands i) (sym r_is)
      (subst (λ (r : TableRow). Member (row_at p r) (table_rows feed i)) (ap (λ (m : InstanceId). record { rd = distinguisher_of d.address m; next_hop = d.address; label = circuit_label_of k.number }) own)
      (subst (λ (i : InstanceId). Member (row_at p (row_of (circuit_attachment k d))) (table_rows feed i)) at_hop there))
    where
      one_more : (j : ℕ) → suc j ≡ j + 1
      one_more j = omega arith
