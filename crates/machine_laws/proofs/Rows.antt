-- The compiled tables of low-level objects are the configuration's.
use Rattle.transform_model.specs.AclCompile.Oriented.{ascending}
use Rattle.std.specs.List.{Contains}
use Rattle.std.specs.Prelude.{Bool, IsTrue, cond, false, length, suc, true, ℕ, ◌+◌, ◌-◌, ◌<◌, ◌≡◌, ◌≤◌}
use Rattle.std.proofs.Common.{ap, arith, inl, inr, subst, sym, ◌*◌, ◌^◌, ◌∙◌}
use Rattle.ov_types.specs.Prefix.{Block, host_prefix, is_inside}
use Rattle.ov_types.specs.declared.numbers.InstanceId.{InstanceId}
use Rattle.ov_types.specs.declared.rows.TableRow.{TableRow}
use Rattle.route_targets.specs.Numbers.{circuit_instance_of, circuit_label_of, distinguisher_of, hop_instance_of, left_circuit_of, right_circuit_of}
use Rattle.config_types.specs.Form.{has_config_form}
use Rattle.config_types.specs.declared.config.Network.{Network}
use Rattle.machine_model.specs.Setup.{Setup}
use Rattle.schedule_script.specs.ConfigCheck.Sentences.{IsValid}
use Rattle.transform_model.specs.IsRow.{HoldsPort, IsRow, to_left_subnet, to_right_subnet}
use Rattle.transform_model.specs.IsUse.{IsLeftCircuit, IsRightCircuit, IsUse}
use Rattle.transform_model.specs.Uses.{ConfiguredUse as InEffect}
use Rattle.transform_model.proofs.Circuits.{left_instance, left_number, right_instance, right_number}
use Rattle.transform_model.proofs.InUse.{one_use}
use Rattle.transform_model.proofs.Lists.{place_within}
use Rattle.transform_model.proofs.Prefixes.{network_number}
use Rattle.node_laws.specs.NodeModel.Maps.{Map}
use Rattle.node_laws.specs.NodeModel.Members.{Member}
use Rattle.node_laws.specs.NodeModel.Reaching.{Side, hop_at, network, subnets}
use Rattle.node_laws.specs.NodeModel.Uses.{Use}
use Rattle.node_laws.proofs.NodeModel.Objects.{side_use}
use Rattle.machine_model.specs.Setup.{low as low_map}
use Rattle.machine_laws.specs.Compiled.{Attachment, circuit_prefix, holds, row_at, row_of, table_rows}
use Rattle.machine_laws.specs.Sound.{IsCircuitAt}
use Rattle.machine_laws.proofs.TableRows.{row_kind}
use Rattle.machine_laws.proofs.Up.{held_from}
use Rattle.machine_laws.proofs.Hosts.{apart_number, entry, host_is, one_network}
use Rattle.machine_laws.proofs.Imports.{imported_is}
use Rattle.machine_laws.proofs.Objects.{AttachmentKind, ascending_to, attachment_is, held_is, held_of, inside_holds, left_kind, port_kind, right_kind, used_few}

module _ (x : Setup) (form : IsTrue (has_config_form x.config)) (v : IsValid x.topology x.config) where
  abbrev feed : Map
  feed = low_map x

  abbrev IsIn : InstanceId → Block → TableRow → Type 0
  IsIn i p r = IsRow x.topology x.config i (entry i p r)

  -- ---- a subnet that holds a port
  holds_by : (n : Network) (p : Block) (a : Attachment) → Contains x.config.networks n → Contains n.subnets p → AttachmentKind x a → a.instance ≡ n.id → is_inside a.prefix p ≡ true → HoldsPort x.config n p
  holds_by n p a in_n within (port_kind m q d at e) here w =
      let same : m ≡ n = one_network x form v m n at.has_home in_n (ap (λ (a : Attachment). a.instance) e ∙ here) in
      record { port = q; has_subnet = within; has_port = at.has_port; home_of = at.home_of ∙ ap (λ (m : Network). m.name) same; holds = inside_holds (host_prefix q.address.0) p (ap (λ (a : Attachment). is_inside a.prefix p) e ∙ w) }
  holds_by n p a in_n within (left_kind u j k d used is at e) here w = absurd (apart_number n.id u.number j (network_number x.config n form in_n) (sym here ∙ ap (λ (a : Attachment). a.instance) (sym e) ∙ left_instance u j k is))
  holds_by n p a in_n within (right_kind u j k d used is at e) here w = absurd (apart_number n.id u.number (j + 1) (network_number x.config n form in_n) (sym here ∙ ap (λ (a : Attachment). a.instance) (sym e) ∙ right_instance u j k is))

  holds_is : (n : Network) (p : Block) → Contains x.config.networks n → Contains n.subnets p → holds feed n.id p ≡ true → HoldsPort x.config n p
  holds_is n p in_n within h = let q = held_from feed n.id p h in holds_by n p q.0 in_n within (attachment_is x form v q.0 q.1) q.2 q.3

  -- ---- a circuit at a place
  circuit_number : (k l : ℕ) → circuit_prefix k ≡ circuit_prefix l → k ≡ l
  circuit_number k l e = same k l (ap (λ (b : Block). b.addr) e)
    where
      same : (k l : ℕ) → 250 * 2 ^ 24 + k ≡ 250 * 2 ^ 24 + l → k ≡ l
      same k l e = omega (arith, e)

  right_subnet : (u : InEffect) (d : ℕ) (p : Block) (a : Attachment) → IsUse x.config u → d < length u.services → HoldsPort x.config u.right p → AttachmentKind x a → a.instance ≡ hop_instance_of u.number (length u.services - suc d)
      → a.prefix ≡ circuit_prefix (left_circuit_of u.number (length u.services - suc d + 1)) → IsIn (hop_instance_of u.number (length u.services - suc d)) p (row_of a)
  right_subnet u d p a used h holds' (port_kind m q e at is) here there = absurd (apart_number m.id u.number (length u.services - suc d) (network_number x.config m form at.has_home) (ap (λ (a : Attachment). a.instance) is ∙ here))
  right_subnet u d p a used h holds' (left_kind w j k e used' is at same) here there =
      let i = hop_instance_of u.number (length u.services - suc d) in
      let number : k.number ≡ left_circuit_of u.number (length u.services - suc d + 1) = circuit_number k.number (left_circuit_of u.number (length u.services - suc d + 1)) (ap (λ (a : Attachment). a.prefix) same ∙ there) in
      let low = place_within w.services j k.service is.service in
      let parts = told w.number j (length w.services) u.number (length u.services) d k.number (used_few x form v w used') (used_few x form v u used) low h (left_number w j k is) number in
      let one : w ≡ u = one_use x.topology x.config w u v used' used parts.0 in
      let own : circuit_instance_of k.number ≡ i = ap (λ (a : Attachment). a.instance) same ∙ here in
      subst (λ (a : Attachment). IsIn i p (row_of a)) same
      (to_right_subnet u j k e p used (subst (λ (w : InEffect). IsLeftCircuit w j k) one is) at holds' (ap (hop_instance_of u.number) (sym parts.1))
      (ap (λ (n : InstanceId). entry i p (record { rd = distinguisher_of e.address n; next_hop = e.address; label = circuit_label_of k.number })) own))
    where
      told : (w j n u m d k : ℕ) → n ≤ 15 → m ≤ 15 → j < n → d < m → k ≡ 2 * (16384 + 16 * w + j) + 1 → k ≡ 2 * (16384 + 16 * u + (m - suc d + 1 - 1)) + 1 → (w ≡ u) × (j ≡ m - suc d)
      told w j n u m d k a b c e f g = (omega (arith, a, b, c, e, f, g), omega (arith, a, b, c, e, f, g))
  right_subnet u d p a used h holds' (right_kind w j k e used' is at same) here there =
      let number : k.number ≡ left_circuit_of u.number (length u.services - suc d + 1) = circuit_number k.number (left_circuit_of u.number (length u.services - suc d + 1)) (ap (λ (a : Attachment). a.prefix) same ∙ there) in
      absurd (odd (16384 + 16 * w.number + (j + 1)) (16384 + 16 * u.number + (length u.services - suc d + 1 - 1)) k.number (right_number w j k is) number)
    where
      odd : (a b k : ℕ) → k ≡ 2 * a → k ≡ 2 * b + 1 → ⊥
      odd a b k e f = omega (arith, e, f)

  left_subnet : (u : InEffect) (d : ℕ) (p : Block) (a : Attachment) → IsUse x.config u → d < length u.services → HoldsPort x.config u.left p → AttachmentKind x a → a.instance ≡ hop_instance_of u.number (suc d)
      → a.prefix ≡ circuit_prefix (right_circuit_of u.number (suc d)) → IsIn (hop_instance_of u.number (suc d)) p (row_of a)
  left_subnet u d p a used h holds' (port_kind m q e at is) here there = absurd (apart_number m.id u.number (suc d) (network_number x.config m form at.has_home) (ap (λ (a : Attachment). a.instance) is ∙ here))
  left_subnet u d p a used h holds' (right_kind w j k e used' is at same) here there =
      let i = hop_instance_of u.number (suc d) in
      let number : k.number ≡ right_circuit_of u.number (suc d) = circuit_number k.number (right_circuit_of u.number (suc d)) (ap (λ (a : Attachment). a.prefix) same ∙ there) in
      let low = place_within w.services j k.service is.service in
      let parts = told w.number j (length w.services) u.number (length u.services) d k.number (used_few x form v w used') (used_few x form v u used) low h (right_number w j k is) number in
      let one : w ≡ u = one_use x.topology x.config w u v used' used parts.0 in
      let own : circuit_instance_of k.number ≡ i = ap (λ (a : Attachment). a.instance) same ∙ here in
      subst (λ (a : Attachment). IsIn i p (row_of a)) same
      (to_left_subnet u j k e p used (subst (λ (w : InEffect). IsRightCircuit w j k) one is) at holds' (ap (hop_instance_of u.number) (sym parts.1))
      (ap (λ (n : InstanceId). entry i p (record { rd = distinguisher_of e.address n; next_hop = e.address; label = circuit_label_of k.number })) own))
    where
      told : (w j n u m d k : ℕ) → n ≤ 15 → m ≤ 15 → j < n → d < m → k ≡ 2 * (16384 + 16 * w + (j + 1)) → k ≡ 2 * (16384 + 16 * u + suc d) → (w ≡ u) × (j + 1 ≡ suc d)
      told w j n u m d k a b c e f g = (omega (arith, a, b, c, e, f, g), omega (arith, a, b, c, e, f, g))
  left_subnet u d p a used h holds' (left_kind w j k e used' is at same) here there =
      let number : k.number ≡ right_circuit_of u.number (suc d) = circuit_number k.number (right_circuit_of u.number (suc d)) (ap (λ (a : Attachment). a.prefix) same ∙ there) in
      absurd (odd (16384 + 16 * w.number + j) (16384 + 16 * u.number + suc d) k.number (left_number w j k is) number)
    where
      odd : (a b k : ℕ) → k ≡ 2 * a + 1 → k ≡ 2 * b → ⊥
      odd a b k e f = omega (arith, e, f)

  -- ---- each row of a table
  subnet_by : (u : InEffect) (b : Bool) (d : ℕ) (p : Block) (a : Attachment) → IsUse x.config u → d < length u.services → Member p (cond b (ascending u.right.subnets) (ascending u.left.subnets)) → holds feed (cond b u.right.id u.left.id) p ≡ true
      → AttachmentKind x a → IsCircuitAt (record { chain = held_of u; is_right = b }) (suc d) a → IsIn (hop_at (record { chain = held_of u; is_right = b }) (suc d)) p (row_of a)
  subnet_by u true d p a used h m held k at = right_subnet u d p a used h (holds_is u.right p used.has_right (ascending_to u.right.subnets p m) held) k at.0 at.1
  subnet_by u false d p a used h m held k at = left_subnet u d p a used h (holds_is u.left p used.has_left (ascending_to u.left.subnets p m) held) k at.0 at.1

  pub row_is : (i : InstanceId) (p : Block) (r : TableRow) → Member (row_at p r) (table_rows feed i) → IsIn i p r
  row_is i p r m =
      elim (row_kind feed i p r m) as (λ _. IsIn i p r) [
        | inl k ↦ subst (IsIn i p) k.row (subst (λ (p : Block). IsIn i p (row_of k.to)) k.prefix (host_is x form v i k.to (attachment_is x form v k.to k.attached) (imported_is x form v i k.to.instance k.imported)))
        | inr k ↦
            let s = k.side in
            let u = held_is x form v s.chain (side_use feed s k.of_use) in
            let SideOf : Use → Side = λ w. record { chain = w; is_right = s.is_right } in
            subst (IsIn i p) k.row (subst (λ (i : InstanceId). IsIn i p (row_of k.to)) (ap (λ (w : Use). hop_at (SideOf w) (suc k.d)) u.is ∙ k.at)
            (subnet_by u.effect s.is_right k.d p k.to u.used (subst (λ (w : Use). k.d < w.services) (sym u.is) k.within)
            (subst (λ (w : Use). Member p (subnets (SideOf w))) (sym u.is) k.subnet)
            (subst (λ (w : Use). holds feed (network (SideOf w)) p ≡ true) (sym u.is) k.held)
            (attachment_is x form v k.to k.attached) (subst (λ (w : Use). IsCircuitAt (SideOf w) (suc k.d) k.to) (sym u.is) k.circuit)))
      ]
