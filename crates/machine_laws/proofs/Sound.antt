-- The low-level objects of a valid configuration are sound.
use Rattle.transform_model.specs.AclCompile.Oriented.{ascending}
use Rattle.std.specs.List.{Any, Contains}
use Rattle.std.specs.Prelude.{Bool, IsTrue, cond, false, length, not, suc, true, ℕ, ◌+◌, ◌-◌, ◌<◌, ◌≡◌, ◌≤◌}
use Rattle.transform_model.proofs.Valid.{holds_port_address, node_of_service}
use Rattle.std.proofs.Common.{ap, arith, refl, subst, sym, ◌*◌, ◌∙◌}
use Rattle.std.proofs.lemmas.Bool.{false_from_ne_true, true≢false}
use Rattle.ov_types.specs.Prefix.{Block, contains, host_prefix, is_inside}
use Rattle.ov_types.specs.declared.numbers.InstanceId.{InstanceId}
use Rattle.ov_types.proofs.FirstLemmas.{any_of, contains_at}
use Rattle.route_targets.specs.Numbers.{circuit_instance_of, hop_instance_of, left_circuit_of, right_circuit_of}
use Rattle.config_types.specs.Form.{has_config_form}
use Rattle.config_types.specs.declared.config.Network.{Network}
use Rattle.config_types.specs.declared.config.Port.{Port}
use Rattle.config_types.specs.declared.topology.Node.{Node}
use Rattle.machine_model.specs.Setup.{Setup}
use Rattle.schedule_script.specs.ConfigCheck.Sentences.{IsValid}
use Rattle.transform_model.specs.IsUse.{IsLeftCircuit, IsRightCircuit, IsUse}
use Rattle.transform_model.specs.Uses.{Circuit}
use Rattle.transform_model.specs.Uses.{ConfiguredUse as InEffect}
use Rattle.transform_model.specs.Uses.{uses as in_effect}
use Rattle.transform_model.proofs.Circuits.{left_instance, left_number, right_instance, right_number}
use Rattle.transform_model.proofs.InUse.{services_are, uses_iff}
use Rattle.transform_model.proofs.Lists.{place_within}
use Rattle.transform_model.proofs.Prefixes.{network_number, use_number}
use Rattle.node_laws.specs.NodeModel.Maps.{Map}
use Rattle.node_laws.specs.NodeModel.Members.{Member}
use Rattle.node_laws.specs.NodeModel.Ranks.{AreOrdered}
use Rattle.node_laws.specs.NodeModel.Reaching.{Side, hop_at, network, sides, subnets}
use Rattle.node_laws.specs.NodeModel.Uses.{Use, is_hop, is_known}
use Rattle.node_laws.proofs.NodeModel.Objects.{is_hop-hop, known_hop, side_use}
use Rattle.node_laws.proofs.NodeModel.Unknown.{le_trans, place_at}
use Rattle.machine_model.specs.Setup.{longest}
use Rattle.machine_model.specs.Setup.{low as low_map}
use Rattle.machine_model.proofs.Feed.{longest_bounds}
use Rattle.machine_laws.specs.Compiled.{Attachment, attachments, circuit_prefix}
use Rattle.machine_laws.specs.Sound.{IsCircuitAt, IsSound, other}
use Rattle.node_laws.proofs.NodeModel.Local.{known_small}
use Rattle.machine_laws.proofs.Hosts.{apart_number, host_is, one_network, same_host}
use Rattle.machine_laws.proofs.Imports.{Imported, hop_import, imported_is, network_import, network_known}
use Rattle.node_laws.proofs.NodeModel.Members.{member_of}
use Rattle.machine_laws.proofs.Lists.{some_at}
use Rattle.machine_laws.proofs.Objects.{AttachmentKind, ascending_to, attachment_is, circuit_attachment, ends_apart, held_is, held_of, inside_holds, is_held, left_attached, left_kind, no_circuit_in, port_kind, right_attached, right_kind, used_few, uses_ordered}

module _ (x : Setup) (form : IsTrue (has_config_form x.config)) (v : IsValid x.topology x.config) where
  abbrev feed : Map
  feed = low_map x

  ordered : AreOrdered feed
  ordered = uses_ordered x form v

  -- ---- known instances
  hop_known : (u : InEffect) (j : ℕ) → IsUse x.config u → j ≤ length u.services → is_known feed (hop_instance_of u.number j) ≡ true
  hop_known u j used h = known_hop feed (held_of u) j (is_held x form v u used) (le_trans j (length u.services) 15 h (used_few x form v u used)) h

  known_by : (a : Attachment) → AttachmentKind x a → is_known feed a.instance ≡ true
  known_by a (port_kind n p d at e) = ap (λ (a : Attachment). is_known feed a.instance) (sym e) ∙ network_known x form v n at.has_home
  known_by a (left_kind u j k d used is at e) =
      ap (λ (a : Attachment). is_known feed a.instance) (sym e) ∙ ap (is_known feed) (left_instance u j k is) ∙ hop_known u j used (before j (length u.services) (place_within u.services j k.service is.service))
    where
      before : (j n : ℕ) → j < n → j ≤ n
      before j n h = omega (arith, h)
  known_by a (right_kind u j k d used is at e) =
      ap (λ (a : Attachment). is_known feed a.instance) (sym e) ∙ ap (is_known feed) (right_instance u j k is) ∙ hop_known u (j + 1) used (before j (length u.services) (place_within u.services j k.service is.service))
    where
      before : (j n : ℕ) → j < n → j + 1 ≤ n
      before j n h = omega (arith, h)

  known : (a : Attachment) → Member a (attachments feed) → is_known feed a.instance ≡ true
  known a m = known_by a (attachment_is x form v a m)

  -- ---- networks import networks
  imports_by : (i n : InstanceId) → is_hop i ≡ false → Imported x i n → n.0 < 16384
  imports_by i n not_hop (network_import a b in_a in_b i_is n_is h) = subst (λ (n : InstanceId). n.0 < 16384) (sym n_is) (below b.id.0 (network_number x.config b form in_b))
    where
      below : (n : ℕ) → n ≤ 16383 → n < 16384
      below n h = omega (arith, h)
  imports_by i n not_hop (hop_import u j used within i_is imported) = absurd (true≢false (sym (ap is_hop i_is ∙ is_hop-hop u.number j) ∙ not_hop))

  -- ---- circuits of services
  abbrev HasCircuit : Side → ℕ → Type 0
  HasCircuit s d = (a : Attachment) × Member a (attachments feed) × IsCircuitAt s d a

  circuits_by : (u : InEffect) (b : Bool) (d : ℕ) → IsUse x.config u → d < length u.services → HasCircuit (record { chain = held_of u; is_right = b }) (suc d)
  circuits_by u true d used h =
      let j = length u.services - suc d in
      let s = some_at u.services j (lower d (length u.services) h) in
      let k : Circuit = record { number = left_circuit_of u.number (j + 1); service = s.0 } in
      let is : IsLeftCircuit u j k = record { service = s.1; number = refl } in
      let n = node_of_service x.topology x.config v s.0 (services_are x.config u s.0 used (contains_at u.services j s.0 s.1)) in
      (circuit_attachment k n.0, left_attached x form v u j k n.0 used is (record { has_node = n.1; node_of = n.2 }), (left_instance u j k is, refl))
    where
      lower : (d n : ℕ) → d < n → n - suc d < n
      lower d n h = omega (arith, h)
  circuits_by u false d used h =
      let s = some_at u.services d h in
      let k : Circuit = record { number = right_circuit_of u.number (d + 1); service = s.0 } in
      let is : IsRightCircuit u d k = record { service = s.1; number = refl } in
      let n = node_of_service x.topology x.config v s.0 (services_are x.config u s.0 used (contains_at u.services d s.0 s.1)) in
      let next : d + 1 ≡ suc d = omega arith in
      (circuit_attachment k n.0, right_attached x form v u d k n.0 used is (record { has_node = n.1; node_of = n.2 }), (right_instance u d k is ∙ ap (hop_instance_of u.number) next, ap (λ (e : ℕ). circuit_prefix (right_circuit_of u.number e)) next))

  circuits : (s : Side) (d : ℕ) → Member s (sides feed) → d < s.chain.services → HasCircuit s (suc d)
  circuits s d m h =
      let u = held_is x form v s.chain (side_use feed s m) in
      subst (λ (w : Use). HasCircuit (record { chain = w; is_right = s.is_right }) (suc d)) u.is (circuits_by u.effect s.is_right d u.used (subst (λ (w : Use). d < w.services) (sym u.is) h))

  -- ---- subnets of a side
  pub record OfSide (s : Side) (p : Block) : Type 0 where
    pub effect : InEffect
    pub used : IsUse x.config effect
    pub is : held_of effect ≡ s.chain
    pub within : Contains (cond s.is_right effect.right effect.left).subnets p

  pub of_side : (s : Side) (p : Block) → Member s (sides feed) → Member p (subnets s) → OfSide s p
  of_side s p m n =
      let u = held_is x form v s.chain (side_use feed s m) in
      record { effect = u.effect; used = u.used; is = u.is; within = by_side u.effect s.is_right (subst (λ (w : Use). Member p (cond s.is_right w.right_subnets w.left_subnets)) (sym u.is) n) }
    where
      by_side : (u : InEffect) (b : Bool) → Member p (cond b (ascending u.right.subnets) (ascending u.left.subnets)) → Contains (cond b u.right u.left).subnets p
      by_side u true m = ascending_to u.right.subnets p m
      by_side u false m = ascending_to u.left.subnets p m

  end_has : (u : InEffect) (b : Bool) → IsUse x.config u → Contains x.config.networks (cond b u.right u.left)
  end_has u true used = used.has_right
  end_has u false used = used.has_left

  left_few : (u : InEffect) (j : ℕ) (k : Circuit) → IsUse x.config u → IsLeftCircuit u j k → k.number ≤ 131071
  left_few u j k used is = bound u.number j (length u.services) k.number (use_number x.config u form used) (used_few x form v u used) (place_within u.services j k.service is.service) (left_number u j k is)
    where
      bound : (u j n k : ℕ) → u ≤ 3071 → n ≤ 15 → j < n → k ≡ 2 * (16384 + 16 * u + j) + 1 → k ≤ 131071
      bound u j n k a b c e = omega (arith, a, b, c, e)

  right_few : (u : InEffect) (j : ℕ) (k : Circuit) → IsUse x.config u → IsRightCircuit u j k → k.number ≤ 131071
  right_few u j k used is = bound u.number j (length u.services) k.number (use_number x.config u form used) (used_few x form v u used) (place_within u.services j k.service is.service) (right_number u j k is)
    where
      bound : (u j n k : ℕ) → u ≤ 3071 → n ≤ 15 → j < n → k ≡ 2 * (16384 + 16 * u + (j + 1)) → k ≤ 131071
      bound u j n k a b c e = omega (arith, a, b, c, e)

  -- the circuit of an attachment that stands at a place lies in no subnet
  circuit_not_in : (s : Side) (p : Block) (a : Attachment) (d : ℕ) → OfSide s p → AttachmentKind x a → a.instance ≡ hop_at s d → is_inside a.prefix p ≡ true → ⊥
  circuit_not_in s p a d o (port_kind n q e at is) here w =
      apart_number n.id s.chain.number (place_at s d) (network_number x.config n form at.has_home) (ap (λ (a : Attachment). a.instance) is ∙ here)
  circuit_not_in s p a d o (left_kind u j k e used is at same) here w =
      no_circuit_in x form v (cond s.is_right o.effect.right o.effect.left) p k.number (end_has o.effect s.is_right o.used) o.within (left_few u j k used is) (inside_holds (circuit_prefix k.number) p (ap (λ (a : Attachment). is_inside a.prefix p) same ∙ w))
  circuit_not_in s p a d o (right_kind u j k e used is at same) here w =
      no_circuit_in x form v (cond s.is_right o.effect.right o.effect.left) p k.number (end_has o.effect s.is_right o.used) o.within (right_few u j k used is) (inside_holds (circuit_prefix k.number) p (ap (λ (a : Attachment). is_inside a.prefix p) same ∙ w))

  -- a port of the other network lies in no subnet
  port_meets : (u : InEffect) (b : Bool) (n : Network) (q : Port) (p : Block) → IsUse x.config u → Contains x.config.networks n → Contains x.config.ports q → q.network ≡ n.name → n ≡ cond (not b) u.right u.left → Contains (cond b u.right u.left).subnets p → contains p q.address.0 ≡ true → ⊥
  port_meets u true n q p used in_n in_q of same within lies =
      ends_apart x form v u used q.address.0 (subst (λ (m : Network). Any (λ s. contains s q.address.0 ≡ true) m.subnets) same (holds_port_address x.topology x.config v n q in_n in_q of)) (any_of (λ s. contains s q.address.0 ≡ true) u.right.subnets p within lies)
  port_meets u false n q p used in_n in_q of same within lies =
      ends_apart x form v u used q.address.0 (any_of (λ s. contains s q.address.0 ≡ true) u.left.subnets p within lies) (subst (λ (m : Network). Any (λ s. contains s q.address.0 ≡ true) m.subnets) same (holds_port_address x.topology x.config v n q in_n in_q of))

  other_network : (u : InEffect) (b : Bool) → (cond b u.right u.left).id ≡ cond b u.right.id u.left.id
  other_network u true = refl
  other_network u false = refl

  port_not_in : (s : Side) (p : Block) (a : Attachment) → OfSide s p → AttachmentKind x a → a.instance ≡ network (other s) → is_inside a.prefix p ≡ true → ⊥
  port_not_in s p a o (port_kind n q e at is) here w =
      let id : n.id ≡ cond (not s.is_right) o.effect.right.id o.effect.left.id = ap (λ (a : Attachment). a.instance) is ∙ here ∙ ap (λ (w : Use). cond (not s.is_right) w.right w.left) (sym o.is) in
      let same : n ≡ cond (not s.is_right) o.effect.right o.effect.left = one_network x form v n (cond (not s.is_right) o.effect.right o.effect.left) at.has_home (end_has o.effect (not s.is_right) o.used) (id ∙ sym (other_network o.effect (not s.is_right))) in
      port_meets o.effect s.is_right n q p o.used at.has_home at.has_port at.home_of same o.within (inside_holds (host_prefix q.address.0) p (ap (λ (a : Attachment). is_inside a.prefix p) is ∙ w))
  port_not_in s p a o (left_kind u j k e used is at same) here w = not_a_network s o (circuit_instance_of k.number) u.number j (left_instance u j k is) (ap (λ (a : Attachment). a.instance) same ∙ here)
    where
      not_a_network : (s : Side) (o : OfSide s p) (i : InstanceId) (w g : ℕ) → i ≡ hop_instance_of w g → i ≡ network (other s) → ⊥
      not_a_network s o i w g is e = apart_number (cond (not s.is_right) o.effect.right o.effect.left).id w g (network_number x.config (cond (not s.is_right) o.effect.right o.effect.left) form (end_has o.effect (not s.is_right) o.used))
          (other_network o.effect (not s.is_right) ∙ ap (λ (w : Use). cond (not s.is_right) w.right w.left) o.is ∙ sym e ∙ is)
  port_not_in s p a o (right_kind u j k e used is at same) here w = not_a_network s o (circuit_instance_of k.number) u.number (j + 1) (right_instance u j k is) (ap (λ (a : Attachment). a.instance) same ∙ here)
    where
      not_a_network : (s : Side) (o : OfSide s p) (i : InstanceId) (w g : ℕ) → i ≡ hop_instance_of w g → i ≡ network (other s) → ⊥
      not_a_network s o i w g is e = apart_number (cond (not s.is_right) o.effect.right o.effect.left).id w g (network_number x.config (cond (not s.is_right) o.effect.right o.effect.left) form (end_has o.effect (not s.is_right) o.used))
          (other_network o.effect (not s.is_right) ∙ ap (λ (w : Use). cond (not s.is_right) w.right w.left) o.is ∙ sym e ∙ is)

  pub is_sound : IsSound feed
  is_sound = record {
    ordered = ordered;
    known = known;
    imports_small = λ i n h m. imports_by i n h (imported_is x form v i n m);
    circuits = circuits;
    circuits_apart = λ s p a d h m n k e. false_from_ne_true (is_inside a.prefix p) (circuit_not_in s p a d (of_side s p m n) (attachment_is x form v a k) e);
    ports_apart = λ s p a m n k e. false_from_ne_true (is_inside a.prefix p) (port_not_in s p a (of_side s p m n) (attachment_is x form v a k) e);
    one_host = λ i a b m n j k e.
        same_host x form v i a b (known_small feed a.instance ordered (known a m)) (known_small feed b.instance ordered (known b n))
        (host_is x form v i a (attachment_is x form v a m) (imported_is x form v i a.instance j)) (host_is x form v i b (attachment_is x form v b n) (imported_is x form v i b.instance k)) e;
  }

  -- ---- the rest of what is asked of a setup
  pub within_longest : (s : Side) → Member s (sides feed) → s.chain.services ≤ longest x
  within_longest s m =
      let u = held_is x form v s.chain (side_use feed s m) in
      subst (λ (w : Use). w.services ≤ longest x) u.is (longest_bounds x u.effect (member_of (in_effect x.config) u.effect ((uses_iff x.topology x.config u.effect v).1 u.used)))

  home_by : (a : Attachment) → AttachmentKind x a → (n : Node) × Member n x.topology.nodes × (n.address ≡ a.node)
  home_by a (port_kind n p d at e) = (d, member_of x.topology.nodes d at.has_node, ap (λ (a : Attachment). a.node) e)
  home_by a (left_kind u j k d used is at e) = (d, member_of x.topology.nodes d at.has_node, ap (λ (a : Attachment). a.node) e)
  home_by a (right_kind u j k d used is at e) = (d, member_of x.topology.nodes d at.has_node, ap (λ (a : Attachment). a.node) e)

  pub homed : (a : Attachment) → Member a (attachments feed) → (n : Node) × Member n x.topology.nodes × (n.address ≡ a.node)
  homed a m = home_by a (attachment_is x form v a m)
