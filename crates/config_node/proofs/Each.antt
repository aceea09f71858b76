-- Each kind of object can be told: attachments, instances, access lists and uses.
use Rattle.std.proofs.Common.{◌≡◌, inl, ◌&&◌, ◌+◌, ◌^◌, ◌≤◌, ℕ, Bool, true, false, cond, IsTrue, List, length, nat_le, Some, None, refl, sym, ap, subst, arith}
use Rattle.std.specs.List.{AllZip, Contains, list_all, slice_get}
use Rattle.std.proofs.lemmas.Bool.{and_from, eq-eqb, leb-true, le-leb}
use Rattle.std.proofs.lemmas.List.Sorted.{Contains-permutation, IsPermutation-sym}
use Rattle.ov_types.specs.declared.numbers.InstanceId.{InstanceId}
use Rattle.ov_types.specs.declared.numbers.ServiceNo.{ServiceNo}
use Rattle.ov_types.specs.declared.objects.LowKey.{LowKey}
use Rattle.ov_types.specs.declared.objects.LowKey.TheVariants as Key
use Rattle.ov_types.specs.declared.objects.LowValue.{LowValue}
use Rattle.ov_types.specs.declared.objects.LowValue.TheVariants as Value
use Rattle.ov_types.specs.declared.prefix.Addr.{Addr}
use Rattle.route_targets.specs.Numbers.{circuit_label_of, port_label_of}
use Rattle.config_types.specs.Form.{has_config_form, has_topology_form}
use Rattle.config_types.specs.declared.config.Config.{Config}
use Rattle.config_types.specs.declared.config.Network.{Network}
use Rattle.config_types.specs.declared.config.Port.{Port}
use Rattle.config_types.specs.declared.config.Service.{Service}
use Rattle.config_types.specs.declared.topology.Node.{Node}
use Rattle.config_types.specs.declared.topology.Topology.{Topology}
use Rattle.machine_model.specs.ConfigCheck.Sentences.{IsValid}
use Rattle.machine_model.specs.AclCompile.Oriented.{acl_rules, ascending, acl_value}
use Rattle.machine_model.proofs.AclCompile.Orders.{ascending_permutes}
use Rattle.machine_model.specs.TransformModel.IsObject.{AreImports, IsHop, IsObject, of_left_circuit, of_network, of_networks, of_port, of_right_circuit, of_use}
use Rattle.machine_model.specs.TransformModel.IsRow.{IsCircuitAt, IsPort}
use Rattle.machine_model.specs.TransformModel.IsUse.{IsUse, IsLeftCircuit, IsRightCircuit}
use Rattle.machine_model.specs.TransformModel.Objects.{LowObject}
use Rattle.machine_model.specs.TransformModel.Uses.{ConfiguredUse, Circuit}
use Rattle.machine_model.proofs.TransformModel.Circuits.{left_number, right_number}
use Rattle.machine_model.proofs.TransformModel.InUse.{few_services, services_are}
use Rattle.machine_model.proofs.TransformModel.Lists.{place_within}
use Rattle.machine_model.proofs.TransformModel.Prefixes.{use_number}
use Rattle.ov_types.proofs.FirstLemmas.{contains_at}
use Rattle.node_core.specs.NodeModel.Keys.{Low}
use Rattle.node_core.specs.NodeModel.Values.{Object}
use Rattle.node_core.specs.ItemWire.Changes.{item_of_key, item_of_object}
use Rattle.node_core.specs.ItemWire.Entries.{is_from_to}
use Rattle.node_core.specs.ItemWire.Ranges.{is_address, is_block, is_hop, is_import, is_in_range, is_network, is_node_address, is_rule}
use Rattle.node_core.specs.ItemWire.Records.{has_lists}
use Rattle.node_core.specs.ItemWire.Item.{Item}
use Rattle.node_core.specs.ItemWire.Item.TheVariants as I
use Rattle.node_core.proofs.ItemWire.ShortRecords.{most_are_short}
use Rattle.node_core.specs.Told.{Fits, IsWritable}
use Rattle.config_node.proofs.Entries.{between, entries_in_range}
use Rattle.config_node.proofs.Few.{few_entries, few_imports, few_subnets}
use Rattle.config_node.proofs.Forms.{network_fits, node_fits, port_fits, service_fits}
use Rattle.config_node.proofs.Lists.{each_passes, length_zip, some_in, zipped_at}
use Rattle.config_node.proofs.Services.{some_of_use}
use Rattle.config_node.proofs.Short.{instance_short, list_short, use_short}

-- a record that has no list
plain : (i : Item) → is_in_range i ≡ true → has_lists i ≡ false → IsWritable i
plain i range none = record { in_range = range; short = let few = most_are_short i range none in omega arith }

told : (k : LowKey) (w : LowValue) (i : Item) → IsTrue (is_in_range (item_of_key k)) → item_of_object k w ≡ Some i → IsWritable i → Fits (Low k) (Object w)
told k w i key is writable = (key, record { item = i; is = is; writable = writable })

module _ (t : Topology) (c : Config) (nodes : IsTrue (has_topology_form t)) (form : IsTrue (has_config_form c)) (v : IsValid t c) where
  network_number : (n : Network) → Contains c.networks n → is_network n.id.0 ≡ true
  network_number n at = (network_fits c form n at).number

  -- ---- instances
  instance_told : (n : Network) (is : List InstanceId) → Contains c.networks n → AreImports c n is → Fits (Low (Key.Instance n.id.0)) (Object (Value.Instance is))
  instance_told n is at are =
      let number = network_number n at in
      let each = each_passes is_import is
      (λ i in_is. let b = are.of_networks i in_is in subst (λ (i : InstanceId). is_import i ≡ true) b.2 (network_number b.0 b.1)) in
      let some = le-leb 1 (length is) (some_in is n.id ((are.exactly n at).1 (inl refl))) in
      let range : is_in_range (I.Instance is n.id) ≡ true =
      and_from (list_all is_import is && nat_le 1 (length is)) (is_network n.id.0) (and_from (list_all is_import is) (nat_le 1 (length is)) each some) number in
      told (Key.Instance n.id.0) (Value.Instance is) (I.Instance is n.id) number refl
      (record { in_range = range; short = instance_short is n.id range (few_imports t c form v n is are) })

  -- ---- attachments
  port_told : (n : Network) (p : Port) (d : Node) → IsPort t c n p d
      → Fits (Low (Key.Attach (port_label_of p.id).0)) (Object (Value.AttachPort p.id n.id p.address d.address))
  port_told n p d at =
      let parts = port_fits c form p at.has_port in
      let few = leb-true p.id.0 524271 parts.number in
      let i : Item = I.Port p.address n.id d.address p.id in
      let range : is_in_range i ≡ true =
      and_from (is_address p.address && is_network n.id.0 && is_node_address d.address) (nat_le p.id.0 524271)
      (and_from (is_address p.address && is_network n.id.0) (is_node_address d.address)
      (and_from (is_address p.address) (is_network n.id.0) parts.address (network_number n at.has_home)) (node_fits t nodes d at.has_node)) parts.number in
      told (Key.Attach (port_label_of p.id).0) (Value.AttachPort p.id n.id p.address d.address) i (between 16 655358 (16 + p.id.0) (omega arith) (omega arith))
      (ap (λ (b : Bool). cond b (Some i) None) (eq-eqb (16 + p.id.0) (16 + p.id.0) refl)) (plain i range refl)

  circuit_told : (k : Circuit) (d : Node) → 32769 ≤ k.number → k.number ≤ 131070 → Contains c.services k.service → IsCircuitAt t k d
      → Fits (Low (Key.Attach (circuit_label_of k.number).0)) (Object (Value.AttachCircuit k.number k.service.id d.address))
  circuit_told k d least most at home =
      let i : Item = I.Circuit k.number d.address k.service.id in
      let range : is_in_range i ≡ true =
      and_from (is_from_to 32769 131070 k.number && is_node_address d.address) (nat_le k.service.id.0 65535)
      (and_from (is_from_to 32769 131070 k.number) (is_node_address d.address) (between 32769 131070 k.number least most) (node_fits t nodes d home.has_node))
      (service_fits c form k.service at) in
      told (Key.Attach (circuit_label_of k.number).0) (Value.AttachCircuit k.number k.service.id d.address) i
      (between 16 655358 (2 ^ 19 + k.number) (omega (arith, least)) (omega (arith, most)))
      (ap (λ (b : Bool). cond b (Some i) None) (eq-eqb (2 ^ 19 + k.number) (2 ^ 19 + k.number) refl)) (plain i range refl)

  service_of : (u : ConfiguredUse) (j : ℕ) (s : Service) → IsUse c u → slice_get u.services j ≡ Some s → Contains c.services s
  service_of u j s used at = services_are c u s used (contains_at u.services j s at)

  left_told : (u : ConfiguredUse) (j : ℕ) (k : Circuit) (d : Node) → IsUse c u → IsLeftCircuit u j k → IsCircuitAt t k d
      → Fits (Low (Key.Attach (circuit_label_of k.number).0)) (Object (Value.AttachCircuit k.number k.service.id d.address))
  left_told u j k d used is at =
      let number = left_number u j k is in
      let number_of_use = use_number c u form used in
      let few = few_services t c u v used in
      let place = place_within u.services j k.service is.service in
      circuit_told k d (omega arith) (omega arith) (service_of u j k.service used is.service) at

  right_told : (u : ConfiguredUse) (j : ℕ) (k : Circuit) (d : Node) → IsUse c u → IsRightCircuit u j k → IsCircuitAt t k d
      → Fits (Low (Key.Attach (circuit_label_of k.number).0)) (Object (Value.AttachCircuit k.number k.service.id d.address))
  right_told u j k d used is at =
      let number = right_number u j k is in
      let number_of_use = use_number c u form used in
      let few = few_services t c u v used in
      let place = place_within u.services j k.service is.service in
      circuit_told k d (omega arith) (omega arith) (service_of u j k.service used is.service) at

  -- ---- access lists
  blocks_pass : (n : Network) → Contains c.networks n → list_all is_block (ascending n.subnets) ≡ true
  blocks_pass n at =
      each_passes is_block (ascending n.subnets)
      (λ b in_b.
      (network_fits c form n at).blocks b
      (Contains-permutation (ascending n.subnets) n.subnets b (IsPermutation-sym n.subnets (ascending n.subnets) (ascending_permutes n.subnets)) in_b))

  list_told : (a b : Network) → Contains c.networks a → Contains c.networks b → Fits (Low (Key.Acl a.id.0 b.id.0)) (Object (acl_value c a b))
  list_told a b in_a in_b =
      let from = network_number a in_a in
      let to = network_number b in_b in
      let rules = acl_rules c a b in
      let subnets = ascending b.subnets in
      let entries = each_passes is_rule rules (entries_in_range t c form v a b) in
      let range : is_in_range (I.Acl a.id.0 rules subnets b.id.0) ≡ true =
      and_from (is_network a.id.0 && list_all is_rule rules && list_all is_block subnets) (is_network b.id.0)
      (and_from (is_network a.id.0 && list_all is_rule rules) (list_all is_block subnets)
      (and_from (is_network a.id.0) (list_all is_rule rules) from entries) (blocks_pass b in_b)) to in
      told (Key.Acl a.id.0 b.id.0) (Value.Acl subnets rules) (I.Acl a.id.0 rules subnets b.id.0) (and_from (is_network a.id.0) (is_network b.id.0) from to) refl
      (record {
        in_range = range;
        short = list_short a.id.0 rules subnets b.id.0 range (few_entries t c form v a b in_a) (few_subnets t c form v b in_b);
      })

  -- ---- uses
  hops_pass : (u : ConfiguredUse) (hops : List (ServiceNo × Addr)) → IsUse c u → AllZip (IsHop t) u.services hops → list_all is_hop hops ≡ true
  hops_pass u hops used zip =
      each_passes is_hop hops
      (λ h at.
      let s = zipped_at (IsHop t) u.services hops h zip at in
      let service = service_fits c form s.0 (services_are c u s.0 used s.1) in
      subst (λ (h : ServiceNo × Addr). is_hop h ≡ true) (sym s.2.is)
      (and_from (nat_le s.0.id.0 65535) (is_node_address s.2.node.address) service (node_fits t nodes s.2.node s.2.has_node)))

  use_told : (u : ConfiguredUse) (hops : List (ServiceNo × Addr)) → IsUse c u → AllZip (IsHop t) u.services hops
      → Fits (Low (Key.ChainUse u.number)) (Object (Value.ChainUse u.left.id u.right.id (ascending u.left.subnets) (ascending u.right.subnets) hops))
  use_told u hops used zip =
      let lefts = ascending u.left.subnets in
      let rights = ascending u.right.subnets in
      let left : is_network u.left.id.0 ≡ true = network_number u.left used.has_left in
      let right : is_network u.right.id.0 ≡ true = network_number u.right used.has_right in
      let small_number = use_number c u form used in
      let number : nat_le u.number 3071 ≡ true = le-leb u.number 3071 small_number in
      let as_many = length_zip (IsHop t) u.services hops zip in
      let most = few_services t c u v used in
      let some = some_of_use t c form v u used in
      let few_hops : length hops ≤ 15 = omega arith in
      let count = between 1 15 (length hops) (omega arith) few_hops in
      let range : is_in_range (I.Use hops u.left.id lefts u.right.id rights u.number) ≡ true =
      and_from (list_all is_hop hops && is_from_to 1 15 (length hops) && is_network u.left.id.0 && list_all is_block lefts && is_network u.right.id.0
      && list_all is_block rights) (nat_le u.number 3071)
      (and_from (list_all is_hop hops && is_from_to 1 15 (length hops) && is_network u.left.id.0 && list_all is_block lefts && is_network u.right.id.0)
      (list_all is_block rights)
      (and_from (list_all is_hop hops && is_from_to 1 15 (length hops) && is_network u.left.id.0 && list_all is_block lefts) (is_network u.right.id.0)
      (and_from (list_all is_hop hops && is_from_to 1 15 (length hops) && is_network u.left.id.0) (list_all is_block lefts)
      (and_from (list_all is_hop hops && is_from_to 1 15 (length hops)) (is_network u.left.id.0)
      (and_from (list_all is_hop hops) (is_from_to 1 15 (length hops)) (hops_pass u hops used zip) count) left) (blocks_pass u.left used.has_left)) right)
      (blocks_pass u.right used.has_right)) number in
      told (Key.ChainUse u.number) (Value.ChainUse u.left.id u.right.id lefts rights hops) (I.Use hops u.left.id lefts u.right.id rights u.number) number refl
      (record {
        in_range = range;
        short = use_short hops u.left.id lefts u.right.id rights u.number range few_hops (few_subnets t c form v u.left used.has_left)
            (few_subnets t c form v u.right used.has_right) small_number;
      })

  -- ---- each object
  abbrev Told : LowObject → Type 0
  Told o = Fits (Low o.0) (Object o.1)

  pub object_told : (o : LowObject) → IsObject t c o → Told o
  object_told o (of_network n is in_n are e) = subst Told (sym e) (instance_told n is in_n are)
  object_told o (of_port n p d at e) = subst Told (sym e) (port_told n p d at)
  object_told o (of_left_circuit u j k d used is at e) = subst Told (sym e) (left_told u j k d used is at)
  object_told o (of_right_circuit u j k d used is at e) = subst Told (sym e) (right_told u j k d used is at)
  object_told o (of_networks a b in_a in_b around e) = subst Told (sym e) (list_told a b in_a in_b)
  object_told o (of_use u hops used zip e) = subst Told (sym e) (use_told u hops used zip)
