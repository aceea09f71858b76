-- What the low-level objects of a valid configuration are, as control nodes read them: attachments and uses.
use Rattle.transform_model.specs.AclCompile.Oriented.{ascending}
use Rattle.std.specs.List.{All, AllPairs, AllZip, Any, Contains}
use Rattle.std.specs.Prelude.{IsTrue, List, length, nat_le, true, ℕ, [], ◌+◌, ◌-◌, ◌<◌, ◌∷◌, ◌≡◌, ◌≤◌}
use Rattle.std.specs.declared.option.Option.TheVariants.{Some}
use Rattle.std.specs.declared.option.Option.{Option}
use Rattle.transform_model.proofs.AclCompile.Orders.{ascending_permutes}
use Rattle.transform_model.proofs.Valid.{node_of_service}
use Rattle.std.proofs.Common.{ap, arith, inl, refl, subst, sym, ◌∙◌}
use Rattle.std.proofs.lemmas.Bool.{and_parts, false_from_ne_true, leb-true}
use Rattle.std.proofs.lemmas.List.Elements.{All-contains}
use Rattle.std.proofs.lemmas.List.Sorted.{Contains-permutation, IsPermutation-sym}
use Rattle.std.proofs.lemmas.Nat.{pow_pos}
use Rattle.std.proofs.lemmas.Option.{same_Some}
use Rattle.ov_types.specs.Prefix.{Block, contains, host_prefix, is_inside, size_of}
use Rattle.ov_types.specs.declared.numbers.ServiceNo.{ServiceNo}
use Rattle.ov_types.specs.declared.objects.LowKey.TheVariants as key
use Rattle.ov_types.specs.declared.objects.LowKey.{LowKey}
use Rattle.ov_types.specs.declared.objects.LowValue.TheVariants as low
use Rattle.ov_types.specs.declared.objects.LowValue.{LowValue}
use Rattle.ov_types.specs.declared.prefix.Addr.{Addr}
use Rattle.ov_types.proofs.Blocks.{contains_from}
use Rattle.ov_types.proofs.FirstLemmas.{any_of, contains_here, contains_later}
use Rattle.route_targets.specs.Numbers.{circuit_address_of, circuit_instance_of, circuit_label_of, port_label_of}
use Rattle.config_types.specs.Form.{has_config_form, is_block}
use Rattle.config_types.specs.declared.config.Network.{Network}
use Rattle.config_types.specs.declared.config.Port.{Port}
use Rattle.config_types.specs.declared.config.Service.{Service}
use Rattle.config_types.specs.declared.topology.Node.{Node}
use Rattle.machine_model.specs.Setup.{Setup}
use Rattle.schedule_script.specs.ConfigCheck.Rules.{circuit_addresses}
use Rattle.schedule_script.specs.ConfigCheck.Sentences.{AreApart, IsAround, IsValid, Overlap}
use Rattle.schedule_script.proofs.ConfigCheck.Circuits.{circuits_iff}
use Rattle.schedule_script.proofs.ConfigCheck.Nested.{overlap_at}
use Rattle.schedule_script.proofs.ConfigCheck.OneHome.{HasBlocks, blocks_of, one_home}
use Rattle.transform_model.specs.IsObject.{IsHop, IsObject, of_left_circuit, of_network, of_networks, of_port, of_right_circuit, of_use}
use Rattle.transform_model.specs.IsRow.{IsCircuitAt as IsCircuitAtNode}
use Rattle.transform_model.specs.IsRow.{IsPort}
use Rattle.transform_model.specs.IsUse.{IsLeftCircuit, IsRightCircuit, IsUse}
use Rattle.transform_model.specs.Objects.{LowObject, attached_circuit, attached_port, low_objects}
use Rattle.transform_model.specs.Uses.{Circuit}
use Rattle.transform_model.specs.Uses.{ConfiguredUse as InEffect}
use Rattle.transform_model.proofs.InUse.{around_right, ends_differ, few_services, services_are}
use Rattle.transform_model.proofs.LowKeys.{low_iff}
use Rattle.transform_model.proofs.Prefixes.{network_number, use_number}
use Rattle.node_laws.specs.NodeModel.Maps.{objects}
use Rattle.node_laws.specs.NodeModel.Members.{Member}
use Rattle.node_laws.specs.NodeModel.Ranks.{AreOrdered}
use Rattle.node_laws.specs.NodeModel.Uses.{Use, as_use, uses}
use Rattle.node_laws.proofs.NodeModel.Members.{from_filter_map, in_filter_map, none_some, contains_of, member_of}
use Rattle.node_laws.proofs.NodeModel.Places.{inside_itself}
use Rattle.machine_model.specs.Setup.{low as low_map}
use Rattle.machine_model.proofs.Feed.{objects-low}
use Rattle.machine_laws.specs.Compiled.{Attachment, as_attachment, attachments, circuit_prefix}
use Rattle.machine_laws.proofs.Lists.{zip_length}

abbrev pub port_attachment : Port → Network → Node → Attachment
port_attachment p n d = record { label = port_label_of p.id; instance = n.id; prefix = host_prefix p.address.0; node = d.address }

abbrev pub circuit_attachment : Circuit → Node → Attachment
circuit_attachment k d = record { label = circuit_label_of k.number; instance = circuit_instance_of k.number; prefix = circuit_prefix k.number; node = d.address }

pub data AttachmentKind (x : Setup) (a : Attachment) : Type 0 where
  port_kind : (n : Network) (p : Port) (d : Node) → IsPort x.topology x.config n p d → port_attachment p n d ≡ a → AttachmentKind x a
  left_kind : (u : InEffect) (j : ℕ) (k : Circuit) (d : Node) → IsUse x.config u → IsLeftCircuit u j k → IsCircuitAtNode x.topology k d → circuit_attachment k d ≡ a → AttachmentKind x a
  right_kind : (u : InEffect) (j : ℕ) (k : Circuit) (d : Node) → IsUse x.config u → IsRightCircuit u j k → IsCircuitAtNode x.topology k d → circuit_attachment k d ≡ a → AttachmentKind x a

abbrev pub with_services : ℕ → InEffect → Use
with_services n u = record { number = u.number; left = u.left.id; right = u.right.id; left_subnets = ascending u.left.subnets; right_subnets = ascending u.right.subnets; services = n }

-- a use in effect as it is held
abbrev pub held_of : InEffect → Use
held_of u = with_services (length u.services) u

pub record HeldUse (x : Setup) (w : Use) : Type 0 where
  pub effect : InEffect
  pub used : IsUse x.config effect
  pub is : held_of effect ≡ w

abbrev attachment_in : LowObject → Option Attachment
attachment_in o = as_attachment o.0 o.1

abbrev use_in : LowObject → Option Use
use_in o = as_use o.0 o.1

abbrev pub object_at : LowKey → LowValue → LowObject
object_at k v = (k, v)

module _ (x : Setup) (form : IsTrue (has_config_form x.config)) (v : IsValid x.topology x.config) where
  pub object_is : (o : LowObject) → Member o (objects (low_map x)) → IsObject x.topology x.config o
  object_is o m = (low_iff x.topology x.config o v form).0 (contains_of (low_objects x.topology x.config) o (subst (λ (es : List LowObject). Member o es) (objects-low x) m))

  pub is_object : (o : LowObject) → IsObject x.topology x.config o → Member o (objects (low_map x))
  is_object o h = subst (λ (es : List LowObject). Member o es) (sym (objects-low x)) (member_of (low_objects x.topology x.config) o ((low_iff x.topology x.config o v form).1 h))

  -- ---- attachments
  attachment_by : (a : Attachment) (o : LowObject) → IsObject x.topology x.config o → attachment_in o ≡ Some a → AttachmentKind x a
  attachment_by a o (of_network n is in_n are e) h = absurd (none_some a (ap attachment_in (sym e) ∙ h))
  attachment_by a o (of_port n p d at e) h = port_kind n p d at (same_Some (port_attachment p n d) a (ap attachment_in (sym e) ∙ h))
  attachment_by a o (of_left_circuit u j k d used is at e) h = left_kind u j k d used is at (same_Some (circuit_attachment k d) a (ap attachment_in (sym e) ∙ h))
  attachment_by a o (of_right_circuit u j k d used is at e) h = right_kind u j k d used is at (same_Some (circuit_attachment k d) a (ap attachment_in (sym e) ∙ h))
  attachment_by a o (of_networks n m in_n in_m around e) h = absurd (none_some a (ap attachment_in (sym e) ∙ h))
  attachment_by a o (of_use u hops used zip e) h = absurd (none_some a (ap attachment_in (sym e) ∙ h))

  pub attachment_is : (a : Attachment) → Member a (attachments (low_map x)) → AttachmentKind x a
  attachment_is a m =
      let q = from_filter_map (λ (e : LowKey × LowValue). as_attachment e.0 e.1) a (objects (low_map x)) m in
      attachment_by a q.0 (object_is q.0 q.1) q.2

  pub is_attachment : (a : Attachment) (o : LowObject) → IsObject x.topology x.config o → attachment_in o ≡ Some a → Member a (attachments (low_map x))
  is_attachment a o h e = in_filter_map (λ (e : LowKey × LowValue). as_attachment e.0 e.1) o a (objects (low_map x)) (is_object o h) e

  pub port_attached : (n : Network) (p : Port) (d : Node) → IsPort x.topology x.config n p d → Member (port_attachment p n d) (attachments (low_map x))
  port_attached n p d at = is_attachment (port_attachment p n d) (attached_port p n d) (of_port n p d at refl) refl

  pub left_attached : (u : InEffect) (j : ℕ) (k : Circuit) (d : Node) → IsUse x.config u → IsLeftCircuit u j k → IsCircuitAtNode x.topology k d → Member (circuit_attachment k d) (attachments (low_map x))
  left_attached u j k d used is at = is_attachment (circuit_attachment k d) (attached_circuit k d) (of_left_circuit u j k d used is at refl) refl

  pub right_attached : (u : InEffect) (j : ℕ) (k : Circuit) (d : Node) → IsUse x.config u → IsRightCircuit u j k → IsCircuitAtNode x.topology k d → Member (circuit_attachment k d) (attachments (low_map x))
  right_attached u j k d used is at = is_attachment (circuit_attachment k d) (attached_circuit k d) (of_right_circuit u j k d used is at refl) refl

  -- ---- uses
  use_by : (w : Use) (o : LowObject) → IsObject x.topology x.config o → use_in o ≡ Some w → HeldUse x w
  use_by w o (of_use u hops used zip e) h = record {
    effect = u;
    used = used;
    is = ap (λ (n : ℕ). with_services n u) (sym (zip_length (IsHop x.topology) u.services hops zip)) ∙ same_Some (with_services (length hops) u) w (ap use_in (sym e) ∙ h);
  }
  use_by w o (of_network n is in_n are e) h = absurd (none_some w (ap use_in (sym e) ∙ h))
  use_by w o (of_port n p d at e) h = absurd (none_some w (ap use_in (sym e) ∙ h))
  use_by w o (of_left_circuit u j k d used is at e) h = absurd (none_some w (ap use_in (sym e) ∙ h))
  use_by w o (of_right_circuit u j k d used is at e) h = absurd (none_some w (ap use_in (sym e) ∙ h))
  use_by w o (of_networks n m in_n in_m around e) h = absurd (none_some w (ap use_in (sym e) ∙ h))

  pub held_is : (w : Use) → Member w (uses (low_map x)) → HeldUse x w
  held_is w m =
      let q = from_filter_map (λ (e : LowKey × LowValue). as_use e.0 e.1) w (objects (low_map x)) m in
      use_by w q.0 (object_is q.0 q.1) q.2

  abbrev Hops : Type 0
  Hops = List (ServiceNo × Addr)

  hops_of : (ss : List Service) → ((s : Service) → Contains ss s → Contains x.config.services s) → (hops : Hops) × AllZip (IsHop x.topology) ss hops
  hops_of [] h = ([], tt)
  hops_of (s ∷ ss) h =
      let n = node_of_service x.topology x.config v s (h s (contains_here s ss)) in
      let r = hops_of ss (λ u m. h u (contains_later u s ss m)) in
      ((s.id, n.0.address) ∷ r.0, (record { node = n.0; has_node = n.1; node_of = n.2; is = refl }, r.1))

  pub is_held : (u : InEffect) → IsUse x.config u → Member (held_of u) (uses (low_map x))
  is_held u used =
      let q = hops_of u.services (λ s h. services_are x.config u s used h) in
      in_filter_map (λ (e : LowKey × LowValue). as_use e.0 e.1) (use_object_of u q.0) (held_of u) (objects (low_map x)) (is_object (use_object_of u q.0) (of_use u q.0 used q.1 refl))
      (ap (λ (n : ℕ). Some (with_services n u)) (zip_length (IsHop x.topology) u.services q.0 q.1))
    where
      use_object_of : InEffect → Hops → LowObject
      use_object_of u hops = (key.ChainUse u.number, low.ChainUse u.left.id u.right.id (ascending u.left.subnets) (ascending u.right.subnets) hops)

  -- ---- what valid uses are
  pub used_few : (u : InEffect) → IsUse x.config u → length u.services ≤ 15
  used_few u used = few_services x.topology x.config u v used

  -- no address is in subnets of both ends
  pub ends_apart : (u : InEffect) → IsUse x.config u → (a : ℕ) → Any (λ s. contains s a ≡ true) u.left.subnets → Any (λ s. contains s a ≡ true) u.right.subnets → ⊥
  ends_apart u used a l r =
      let pairs = All-contains (λ (m : Network). AllPairs (λ x' y. IsAround x.config m x' → IsAround x.config m y → AreApart x' y) x.config.networks) x.config.networks u.left v.apart used.has_left in
      let one : u.left ≡ u.right = one_home x.config u.left u.left u.right a (blocks_of x.config form) pairs used.has_left used.has_right (inl refl) (around_right x.topology x.config u v used) l r in
      ends_differ x.topology x.config u v used (ap (λ (n : Network). n.name) one)

  -- no subnet holds the address of a circuit
  pub no_circuit_in : (n : Network) (s : Block) (number : ℕ) → Contains x.config.networks n → Contains n.subnets s → number ≤ 131071 → contains s (circuit_address_of number).0 ≡ true → ⊥
  no_circuit_in n s number in_n within few lies =
      let a : ℕ = (circuit_address_of number).0 in
      let blocks = All-contains HasBlocks x.config.networks n (blocks_of x.config form) in_n in
      let block : IsTrue (is_block s) = All-contains (λ (p : Block). IsTrue (is_block p)) n.subnets s blocks within in
      let far : ¬ Overlap circuit_addresses s =
      All-contains (λ (p : Block). ¬ Overlap circuit_addresses p) n.subnets s
      (All-contains (λ (m : Network). All (λ p. ¬ Overlap circuit_addresses p) m.subnets) x.config.networks n v.reserved in_n) within in
      far (overlap_at circuit_addresses s a refl block ((circuits_iff a).1 (omega arith, omega arith)) lies)

-- what lies within a block has its first address there
pub inside_holds : (p q : Block) → is_inside p q ≡ true → contains q p.addr ≡ true
inside_holds p q e =
    let a = and_parts (nat_le q.addr p.addr) (nat_le (p.addr + size_of p.len) (q.addr + size_of q.len)) e in
    contains_from q p.addr (leb-true q.addr p.addr a.0) (less p.addr (size_of p.len) (q.addr + size_of q.len) (pow_pos (32 - p.len)) (leb-true (p.addr + size_of p.len) (q.addr + size_of q.len) a.1))
  where
    less : (a s b : ℕ) → 0 < s → a + s ≤ b → a < b
    less a s b h k = omega arith

pub holds_itself : (p : Block) → contains p p.addr ≡ true
holds_itself p = inside_holds p p (inside_itself p)

pub ascending_to : (ps : List Block) (p : Block) → Member p (ascending ps) → Contains ps p
ascending_to ps p m = Contains-permutation (ascending ps) ps p (IsPermutation-sym ps (ascending ps) (ascending_permutes ps)) (contains_of (ascending ps) p m)

pub ascending_in : (ps : List Block) (p : Block) → Contains ps p → Member p (ascending ps)
ascending_in ps p h = member_of (ascending ps) p (Contains-permutation ps (ascending ps) p (ascending_permutes ps) h)

module _ (x : Setup) (form : IsTrue (has_config_form x.config)) (v : IsValid x.topology x.config) where
  pub uses_ordered : AreOrdered (low_map x)
  uses_ordered = record {
    numbers = λ w m. let u = held_is x form v w m in subst (λ (w : Use). w.number ≤ 3071) u.is (use_number x.config u.effect form u.used);
    short = λ w m. let u = held_is x form v w m in subst (λ (w : Use). w.services ≤ 15) u.is (used_few x form v u.effect u.used);
    lefts = λ w m. let u = held_is x form v w m in subst (λ (w : Use). w.left.0 < 16384) u.is (below u.effect.left.id.0 (network_number x.config u.effect.left form u.used.has_left));
    rights = λ w m. let u = held_is x form v w m in subst (λ (w : Use). w.right.0 < 16384) u.is (below u.effect.right.id.0 (network_number x.config u.effect.right form u.used.has_right));
    right_in_left = λ w l r m i j.
        let u = held_is x form v w m in
        let in_l = ascending_to u.effect.left.subnets l (subst (λ (w : Use). Member l w.left_subnets) (sym u.is) i) in
        let in_r = ascending_to u.effect.right.subnets r (subst (λ (w : Use). Member r w.right_subnets) (sym u.is) j) in
        false_from_ne_true (is_inside r l) (λ e. ends_apart x form v u.effect u.used r.addr (any_of (λ s. contains s r.addr ≡ true) u.effect.left.subnets l in_l (inside_holds r l e)) (any_of (λ s. contains s r.addr ≡ true) u.effect.right.subnets r in_r (holds_itself r)));
    left_in_right = λ w l r m i j.
        let u = held_is x form v w m in
        let in_l = ascending_to u.effect.left.subnets l (subst (λ (w : Use). Member l w.left_subnets) (sym u.is) i) in
        let in_r = ascending_to u.effect.right.subnets r (subst (λ (w : Use). Member r w.right_subnets) (sym u.is) j) in
        false_from_ne_true (is_inside l r) (λ e. ends_apart x form v u.effect u.used l.addr (any_of (λ s. contains s l.addr ≡ true) u.effect.left.subnets l in_l (holds_itself l)) (any_of (λ s. contains s l.addr ≡ true) u.effect.right.subnets r in_r (inside_holds l r e)));
  }
    where
      below : (n : ℕ) → n ≤ 16383 → n < 16384
      below n h = omega (arith, h)
