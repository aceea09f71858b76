-- The rows of the instances of a chain's use.
use Rattle.std.proofs.Common.{◌≡◌, ◌<◌, ◌≤◌, ◌+◌, ◌*◌, ℕ, IsTrue, Some, length, sym, ap, ◌∙◌, subst, arith}
use Rattle.std.specs.List.{Contains, slice_get}
use Rattle.std.proofs.lemmas.Option.{slice_get_within}
use Rattle.ov_types.specs.Prefix.{Block, host_prefix}
use Rattle.ov_types.specs.declared.numbers.InstanceId.{InstanceId}
use Rattle.route_targets.specs.Numbers.{hop_instance_of, left_circuit_of, right_circuit_of, circuit_address_of}
use Rattle.reach_plain.specs.ConfigTypes.Form.{has_config_form}
use Rattle.reach_plain.specs.ConfigTypes.Config.{Config}
use Rattle.reach_plain.specs.ConfigTypes.Network.{Network}
use Rattle.reach_plain.specs.ConfigTypes.Port.{Port}
use Rattle.reach_plain.specs.ConfigTypes.Node.{Node}
use Rattle.reach_plain.specs.ConfigTypes.Topology.{Topology}
use Rattle.reach_plain.specs.ConfigCheck.Sentences.{IsValid}
use Rattle.transform_model.specs.IsRow.{IsRow, IsPort, IsCircuitAt, HoldsPort}
use Rattle.transform_model.specs.IsRow.IsRow.{to_port, to_left_circuit, to_right_circuit, to_right_subnet, to_left_subnet, at_left_end, at_right_end}
use Rattle.transform_model.specs.IsUse.{IsUse, IsLeftCircuit, IsRightCircuit}
use Rattle.transform_model.specs.Tables.{Row, host_route, circuit_route}
use Rattle.transform_model.specs.Uses.{ConfiguredUse, Circuit}
use Rattle.transform_model.proofs.InUse.{one_use, few_services}
use Rattle.transform_model.proofs.Prefixes.{network_number, use_number, same_hop}

-- what a row of a hop's instance is
pub data HopRow (t : Topology) (c : Config) (u : ConfiguredUse) (place : ℕ) (i : InstanceId) (r : Row) : Type 0 where
  to_circuit : (number : ℕ) → number ≤ 131070 → r.0.1 ≡ host_prefix (circuit_address_of number).0 → HopRow t c u place i r
  rightwards : (k : Circuit) (node : Node) (prefix : Block) → IsLeftCircuit u place k → IsCircuitAt t k node → HoldsPort c u.right prefix
      → r ≡ circuit_route i prefix k node → HopRow t c u place i r
  leftwards : (j : ℕ) (k : Circuit) (node : Node) (prefix : Block) → place ≡ j + 1 → IsRightCircuit u j k → IsCircuitAt t k node → HoldsPort c u.left prefix
      → r ≡ circuit_route i prefix k node → HopRow t c u place i r
  left_host : (port : Port) (node : Node) → place ≡ 0 → IsPort t c u.left port node → r ≡ host_route i u.left node port → HopRow t c u place i r
  right_host : (port : Port) (node : Node) → place ≡ length u.services → IsPort t c u.right port node → r ≡ host_route i u.right node port → HopRow t c u place i r

module _ (t : Topology) (c : Config) (form : IsTrue (has_config_form c)) (v : IsValid t c) where
  -- the place of a service is below 15
  place_small : (u : ConfiguredUse) (j : ℕ) (k : Circuit) → IsUse c u → slice_get u.services j ≡ Some k.service → j < 15
  place_small u j k is e =
      let within : j < length u.services = slice_get_within u.services j k.service e in
      let few : length u.services ≤ 15 = few_services t c u v is in
      omega arith

  one_place : (u w : ConfiguredUse) (place j : ℕ) → IsUse c u → IsUse c w → place ≤ 15 → j ≤ 15 → hop_instance_of u.number place ≡ hop_instance_of w.number j → (w ≡ u) × (place ≡ j)
  one_place u w place j is_u is_w few_place few_j e =
      let same = same_hop u.number w.number place j few_place few_j e in
      (one_use t c w u v is_w is_u (sym same.0), same.1)

  pub not_network : (n : Network) (u j : ℕ) → Contains c.networks n → n.id ≡ hop_instance_of u j → ⊥
  not_network n u j h e =
      let number : n.id.0 ≤ 16383 = network_number c n form h in
      let same : n.id.0 ≡ 16384 + 16 * u + j = ap (λ (i : InstanceId). i.0) e in
      absurd (omega arith)

  left_small : (w j number : ℕ) → w ≤ 3071 → j < 15 → number ≡ left_circuit_of w (j + 1) → number ≤ 131070
  left_small w j number small few e = omega arith

  right_small : (w j number : ℕ) → w ≤ 3071 → j < 15 → number ≡ right_circuit_of w (j + 1) → number ≤ 131070
  right_small w j number small few e = omega arith

  pub hop_row : (u : ConfiguredUse) (place : ℕ) (r : Row) → IsUse c u → place ≤ 15 → IsRow t c (hop_instance_of u.number place) r → HopRow t c u place (hop_instance_of u.number place) r
  hop_row u place r is_u few (to_port network home port node in_network is_port imports at is) = absurd (not_network network u.number place in_network (sym at))
  hop_row u place r is_u few (to_left_circuit w j k node is_w is_k is_at at is) =
      to_circuit k.number (left_small w.number j k.number (use_number c w form is_w) (place_small w j k is_w is_k.service) is_k.number) (ap (λ (x : Row). x.0.1) is)
  hop_row u place r is_u few (to_right_circuit w j k node is_w is_k is_at at is) =
      to_circuit k.number (right_small w.number j k.number (use_number c w form is_w) (place_small w j k is_w is_k.service) is_k.number) (ap (λ (x : Row). x.0.1) is)
  hop_row u place r is_u few (to_right_subnet w j k node prefix is_w is_k is_at holds at is) =
      let small = place_small w j k is_w is_k.service in
      let same = one_place u w place j is_u is_w few (omega arith) at in
      let P : ConfiguredUse → Type 0 = λ x. IsLeftCircuit x place k in
      let Q : ℕ → Type 0 = λ y. IsLeftCircuit w y k in
      rightwards k node prefix (subst P same.0 (subst Q (sym same.1) is_k)) is_at (subst (λ (x : ConfiguredUse). HoldsPort c x.right prefix) same.0 holds) is
  hop_row u place r is_u few (to_left_subnet w j k node prefix is_w is_k is_at holds at is) =
      let small = place_small w j k is_w is_k.service in
      let same = one_place u w place (j + 1) is_u is_w few (omega arith) at in
      leftwards j k node prefix same.1 (subst (λ (x : ConfiguredUse). IsRightCircuit x j k) same.0 is_k) is_at (subst (λ (x : ConfiguredUse). HoldsPort c x.left prefix) same.0 holds) is
  hop_row u place r is_u few (at_left_end w port node is_w is_port at is) =
      let same = one_place u w place 0 is_u is_w few (omega arith) at in
      let i : InstanceId = hop_instance_of u.number place in
      left_host port node same.1 (subst (λ (x : ConfiguredUse). IsPort t c x.left port node) same.0 is_port) (subst (λ (x : ConfiguredUse). r ≡ host_route i x.left node port) same.0 is)
  hop_row u place r is_u few (at_right_end w port node is_w is_port at is) =
      let short : length w.services ≤ 15 = few_services t c w v is_w in
      let same = one_place u w place (length w.services) is_u is_w few short at in
      let i : InstanceId = hop_instance_of u.number place in
      let last : place ≡ length u.services = same.1 ∙ ap (λ (x : ConfiguredUse). length x.services) same.0 in
      right_host port node last (subst (λ (x : ConfiguredUse). IsPort t c x.right port node) same.0 is_port) (subst (λ (x : ConfiguredUse). r ≡ host_route i x.right node port) same.0 is)
