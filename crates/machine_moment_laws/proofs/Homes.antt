-- Each attachment of the common part is in an instance that is known wherever the common part is had.
use Rattle.std.specs.Prelude.{◌≡◌, ◌+◌, ◌≤◌, ◌<◌, ℕ, List, ◌∷◌, map, length, nat_le, is_some, true, false, cond}
use Rattle.std.specs.FinMap.{entries, get}
use Rattle.std.specs.List.{filter_map}
use Rattle.std.specs.declared.option.Option.{Option}
use Rattle.std.specs.declared.option.Option.TheVariants.{None, Some}
use Rattle.std.proofs.Common.{ap, arith, inl, refl, subst, sym, ◌∙◌}
use Rattle.std.proofs.lemmas.Bool.{and_parts, true≢false}
use Rattle.std.proofs.lemmas.Option.{same_Some}
use Rattle.ov_types.specs.declared.numbers.InstanceId.{InstanceId}
use Rattle.ov_types.specs.declared.numbers.PortNo.{PortNo}
use Rattle.ov_types.specs.declared.numbers.ServiceNo.{ServiceNo}
use Rattle.ov_types.specs.declared.objects.LowKey.{LowKey}
use Rattle.ov_types.specs.declared.objects.LowKey.TheVariants as key
use Rattle.ov_types.specs.declared.objects.LowValue.{LowValue}
use Rattle.ov_types.specs.declared.objects.LowValue.TheVariants as low
use Rattle.ov_types.specs.declared.prefix.Addr.{Addr}
use Rattle.route_targets.specs.Numbers.{circuit_instance_of, hop_instance_of, left_circuit_of, right_circuit_of}
use Rattle.schedule_script.specs.ConfigCheck.Checked.{Checked}
use Rattle.schedule_script.proofs.ConfigCheck.Validity.{valid_iff}
use Rattle.transform_model.specs.IsObject.{IsObject, of_left_circuit, of_network, of_networks, of_port, of_right_circuit, of_use}
use Rattle.transform_model.specs.Objects.{LowObject, low_objects}
use Rattle.transform_model.proofs.LowKeys.{low_is}
use Rattle.transform_model.proofs.Prefixes.{network_number}
use Rattle.node_laws.specs.NodeModel.Keys.{Key, Low}
use Rattle.node_laws.specs.NodeModel.Maps.{Map, as_object, object, objects}
use Rattle.node_laws.specs.NodeModel.Members.{Member}
use Rattle.node_laws.specs.NodeModel.Uses.{Use, is_hop, is_known, is_place, place_of, use_from, use_of}
use Rattle.node_laws.specs.NodeModel.Values.{Object, Value}
use Rattle.node_laws.proofs.NodeModel.Members.{contains_of, entry_in, from_entry, from_filter_map, in_filter_map, member_get, none_some}
use Rattle.node_laws.proofs.NodeModel.Objects.{in_objects, is_hop-hop, object_of}
use Rattle.node_laws.proofs.NodeModel.Orders.{key_exact, key_total}
use Rattle.node_laws.proofs.NodeModel.Places.{is_hop-network}
use Rattle.machine_model.specs.Setup.{low_in, opening}
use Rattle.machine_model.proofs.Feed.{objects-low}
use Rattle.machine_laws.specs.Compiled.{Attachment, as_attachment, attachments}
use Rattle.machine_laws.specs.Headline.{IsWritten}
use Rattle.machine_laws.proofs.Written.{sound_setup}
use Rattle.machine_moment_laws.specs.Common.{common, common_entry, common_object, has_circuits, has_its_home, is_common_network, is_common_use, standing}
use Rattle.machine_moment_laws.proofs.Parts.{IsAbove, IsPartOf, common_is_part, common_of, entry_parts, object_is}
use Rattle.machine_moment_laws.proofs.Static.{attached_in}

-- ---- a port stands in a network
below : (n : ℕ) → n ≤ 16383 → n < 16384
below n h = omega (arith, h)

abbrev instance_of : LowValue → Option InstanceId
instance_of (low.AttachPort p i a n) = Some i
instance_of (low.AttachCircuit c s n) = None
instance_of (low.Instance is) = None
instance_of (low.Acl s r) = None
instance_of (low.ChainUse l r ls rs hops) = None

module _ (c : Checked) (written : IsWritten (opening c)) where
  port_network : (k : LowKey) (v : LowValue) (i : InstanceId) → instance_of v ≡ Some i → IsObject c.topology c.config (k, v) → is_hop i ≡ false
  port_network k v i e (of_port n p node at is) =
      let same : n.id ≡ i = same_Some n.id i (ap (λ (o : LowObject). instance_of o.1) (sym is) ∙ e) in
      subst (λ (i : InstanceId). is_hop i ≡ false) same (is_hop-network n.id (below n.id.0 (network_number c.config n written.config at.has_home)))
  port_network k v i e (of_network n is m are h) = absurd (none_some i (ap (λ (o : LowObject). instance_of o.1) (sym h) ∙ e))
  port_network k v i e (of_left_circuit u j w node used at there h) = absurd (none_some i (ap (λ (o : LowObject). instance_of o.1) (sym h) ∙ e))
  port_network k v i e (of_right_circuit u j w node used at there h) = absurd (none_some i (ap (λ (o : LowObject). instance_of o.1) (sym h) ∙ e))
  port_network k v i e (of_networks a d x y related h) = absurd (none_some i (ap (λ (o : LowObject). instance_of o.1) (sym h) ∙ e))
  port_network k v i e (of_use u hops used zip h) = absurd (none_some i (ap (λ (o : LowObject). instance_of o.1) (sym h) ∙ e))

  port_no_hop : (k : LowKey) (p : PortNo) (i : InstanceId) (a n : Addr) → get (low_in c) (Low k) ≡ Some (Object (low.AttachPort p i a n)) → is_hop i ≡ false
  port_no_hop k p i a n e =
      let v : LowValue = low.AttachPort p i a n in
      let m : Member (k, v) (low_objects c.topology c.config) = subst (λ (os : List (LowKey × LowValue)). Member (k, v) os) (objects-low (opening c)) (in_objects (low_in c) k v e) in
      port_network k v i refl (low_is c.topology c.config (k, v) ((valid_iff c.topology c.config).0 written.valid) written.config (contains_of (low_objects c.topology c.config) (k, v) m))

-- ---- a circuit in a hop
abbrev circuit_of : LowValue → Option ℕ
circuit_of (low.AttachCircuit c s n) = Some c
circuit_of (low.AttachPort p i a n) = None
circuit_of (low.Instance is) = None
circuit_of (low.Acl s r) = None
circuit_of (low.ChainUse l r ls rs hops) = None

left_hop : (number place circuit : ℕ) → circuit ≡ left_circuit_of number (place + 1) → is_hop (circuit_instance_of circuit) ≡ true
left_hop number place circuit e = ap is_hop instance ∙ is_hop-hop number place
  where
    half : (number place circuit : ℕ) → circuit ≡ left_circuit_of number (place + 1) → (circuit_instance_of circuit).0 ≡ (hop_instance_of number place).0
    half number place circuit e = omega (arith, e)

    instance : circuit_instance_of circuit ≡ hop_instance_of number place
    instance = λ k. record { 0 = half number place circuit e k }

right_hop : (number place circuit : ℕ) → circuit ≡ right_circuit_of number (place + 1) → is_hop (circuit_instance_of circuit) ≡ true
right_hop number place circuit e = ap is_hop instance ∙ is_hop-hop number (place + 1)
  where
    half : (number place circuit : ℕ) → circuit ≡ right_circuit_of number (place + 1) → (circuit_instance_of circuit).0 ≡ (hop_instance_of number (place + 1)).0
    half number place circuit e = omega (arith, e)

    instance : circuit_instance_of circuit ≡ hop_instance_of number (place + 1)
    instance = λ k. record { 0 = half number place circuit e k }

module _ (c : Checked) (written : IsWritten (opening c)) where
  circuit_hop : (k : LowKey) (v : LowValue) (n : ℕ) → circuit_of v ≡ Some n → IsObject c.topology c.config (k, v) → is_hop (circuit_instance_of n) ≡ true
  circuit_hop k v n e (of_left_circuit u j w node used at there h) =
      subst (λ (n : ℕ). is_hop (circuit_instance_of n) ≡ true) (same_Some w.number n (ap (λ (o : LowObject). circuit_of o.1) (sym h) ∙ e)) (left_hop u.number j w.number at.number)
  circuit_hop k v n e (of_right_circuit u j w node used at there h) =
      subst (λ (n : ℕ). is_hop (circuit_instance_of n) ≡ true) (same_Some w.number n (ap (λ (o : LowObject). circuit_of o.1) (sym h) ∙ e)) (right_hop u.number j w.number at.number)
  circuit_hop k v n e (of_port m p node at h) = absurd (none_some n (ap (λ (o : LowObject). circuit_of o.1) (sym h) ∙ e))
  circuit_hop k v n e (of_network m is d are h) = absurd (none_some n (ap (λ (o : LowObject). circuit_of o.1) (sym h) ∙ e))
  circuit_hop k v n e (of_networks a d x y related h) = absurd (none_some n (ap (λ (o : LowObject). circuit_of o.1) (sym h) ∙ e))
  circuit_hop k v n e (of_use u hops used zip h) = absurd (none_some n (ap (λ (o : LowObject). circuit_of o.1) (sym h) ∙ e))

  circuit_in_hop : (k : LowKey) (n : ℕ) (t : ServiceNo) (a : Addr) → get (low_in c) (Low k) ≡ Some (Object (low.AttachCircuit n t a)) → is_hop (circuit_instance_of n) ≡ true
  circuit_in_hop k n t a e =
      let v : LowValue = low.AttachCircuit n t a in
      let m : Member (k, v) (low_objects c.topology c.config) = subst (λ (os : List (LowKey × LowValue)). Member (k, v) os) (objects-low (opening c)) (in_objects (low_in c) k v e) in
      circuit_hop k v n refl (low_is c.topology c.config (k, v) ((valid_iff c.topology c.config).0 written.valid) written.config (contains_of (low_objects c.topology c.config) (k, v) m))

-- ---- uses that are had
use_same : (j u : ℕ) (w v : LowValue) → IsPartOf w v → is_some (use_from u (Some w)) ≡ true → is_place j (use_from u (Some v)) ≡ is_place j (use_from u (Some w))
use_same j u (low.ChainUse l r ls rs hops) (low.ChainUse l' r' ls' rs' hops') h e = ap (λ (hs : List (ServiceNo × Addr)). nat_le j (length hs)) (sym h.1.1.0)
use_same j u (low.ChainUse l r ls rs hops) (low.Instance is) h e = absurd h
use_same j u (low.ChainUse l r ls rs hops) (low.AttachPort p i a d) h e = absurd h
use_same j u (low.ChainUse l r ls rs hops) (low.AttachCircuit c s d) h e = absurd h
use_same j u (low.ChainUse l r ls rs hops) (low.Acl s q) h e = absurd h
use_same j u (low.Instance is) v h e = absurd (true≢false (sym e))
use_same j u (low.AttachPort p i a d) v h e = absurd (true≢false (sym e))
use_same j u (low.AttachCircuit c s d) v h e = absurd (true≢false (sym e))
use_same j u (low.Acl s q) v h e = absurd (true≢false (sym e))

module _ (b : Checked) (ds : List Checked) (written : (c : Checked) → Member c (b ∷ ds) → IsWritten (opening c)) where
  abbrev cs : List Checked
  cs = b ∷ ds

  abbrev M : Map
  M = common cs

  -- ---- what is in the common part
  pub in_common : (k : LowKey) (v w : LowValue) → get (low_in b) (Low k) ≡ Some (Object v) → common_object (standing cs) (map low_in ds) k v ≡ Some w → has_its_home (standing cs) (map low_in ds) (low_in b) k v ≡ true → is_some (object M k) ≡ true
  in_common k v w held is home =
      let f = λ (e : Key × Value). common_entry (standing cs) (map low_in ds) (low_in b) e.0 e.1 in
      let es = filter_map f (entries (low_in b)) in
      let made : common_entry (standing cs) (map low_in ds) (low_in b) (Low k) (Object v) ≡ Some (Low k, Object w) =
      ap (λ c. cond c (elim (common_object (standing cs) (map low_in ds) k v) [ Some y ↦ Some (Low k, Object y) | None ↦ None ]) None) home
      ∙ ap (λ (o : Option LowValue). elim o [ Some y ↦ Some (Low k, Object y) | None ↦ None ]) is in
      let e = entry_in key_total (Low k, Object w) es (in_filter_map f (Low k, Object v) (Low k, Object w) (entries (low_in b)) (member_get key_total key_exact (low_in b) (Low k) (Object v) held) made) in
      let q = from_filter_map f (Low k, e.0) (entries (low_in b)) (from_entry key_total key_exact (Low k) e.0 es e.1) in
      let p = entry_parts (standing cs) (map low_in ds) (low_in b) q.0.0 q.0.1 (Low k, e.0) q.2 in
      ap is_some (ap as_object (e.1 ∙ ap (λ (x : Key × Value). Some x.1) (sym p.5)))

  pub some_of : {X : Type 0} (o : Option X) → is_some o ≡ true → (x : X) × (o ≡ Some x)
  some_of (Some x) e = (x, refl)
  some_of None e = absurd (true≢false (sym e))

  network_there : (n : ℕ) (o : Option LowValue) → object (low_in b) (key.Instance n) ≡ o → is_common_network (standing cs) (map low_in ds) (key.Instance n) o ≡ true → is_some (object M (key.Instance n)) ≡ true
  network_there n (Some (low.Instance is)) e h =
      let w = some_of (common_object (standing cs) (map low_in ds) (key.Instance n) (low.Instance is)) h in
      in_common (key.Instance n) (low.Instance is) w.0 (object_is (low_in b) (key.Instance n) (low.Instance is) e) w.1 refl
  network_there n (Some (low.AttachPort p i a d)) e h = absurd (true≢false (sym h))
  network_there n (Some (low.AttachCircuit c s d)) e h = absurd (true≢false (sym h))
  network_there n (Some (low.Acl s q)) e h = absurd (true≢false (sym h))
  network_there n (Some (low.ChainUse l r ls rs hops)) e h = absurd (true≢false (sym h))
  network_there n None e h = absurd (true≢false (sym h))

  pub use_there : (u : ℕ) (o : Option LowValue) → object (low_in b) (key.ChainUse u) ≡ o → is_common_use (standing cs) (map low_in ds) (low_in b) u o ≡ true → is_some (object M (key.ChainUse u)) ≡ true
  use_there u (Some (low.ChainUse l r ls rs hops)) e h =
      let v : LowValue = low.ChainUse l r ls rs hops in
      let w = some_of (common_object (standing cs) (map low_in ds) (key.ChainUse u) v) (and_parts (is_some (common_object (standing cs) (map low_in ds) (key.ChainUse u) v)) (has_circuits (standing cs) (map low_in ds) (low_in b) u (length hops)) h).0 in
      in_common (key.ChainUse u) v w.0 (object_is (low_in b) (key.ChainUse u) v e) w.1 h
  use_there u (Some (low.AttachPort p i a d)) e h = absurd (true≢false (sym h))
  use_there u (Some (low.AttachCircuit c s d)) e h = absurd (true≢false (sym h))
  use_there u (Some (low.Acl s q)) e h = absurd (true≢false (sym h))
  use_there u (Some (low.Instance is)) e h = absurd (true≢false (sym h))
  use_there u None e h = absurd (true≢false (sym h))

  -- ---- known instances
  module _ (f : Map) (above : IsAbove M f) where
    network_known : (i : InstanceId) → is_hop i ≡ false → is_some (object M (key.Instance i.0)) ≡ true → is_known f i ≡ true
    network_known i net h =
        let w = some_of (object M (key.Instance i.0)) h in
        let v = above (key.Instance i.0) w.0 w.1 in
        ap (λ c. cond c (is_place (place_of i) (use_from (use_of i) (object f (key.ChainUse (use_of i))))) (is_some (object f (key.Instance i.0)))) net ∙ ap is_some v.1

    is_used : (j u : ℕ) (o : Option Use) → is_place j o ≡ true → is_some o ≡ true
    is_used j u (Some x) e = refl
    is_used j u None e = absurd (true≢false (sym e))

    part_used : (u : ℕ) (w v : LowValue) → IsPartOf w v → is_some (use_from u (Some v)) ≡ true → is_some (use_from u (Some w)) ≡ true
    part_used u (low.ChainUse l r ls rs hops) v h e = refl
    part_used u (low.Instance is) (low.Instance js) h e = absurd (true≢false (sym e))
    part_used u (low.Instance is) (low.AttachPort p i a d) h e = absurd h
    part_used u (low.Instance is) (low.AttachCircuit c s d) h e = absurd h
    part_used u (low.Instance is) (low.Acl s q) h e = absurd h
    part_used u (low.Instance is) (low.ChainUse l r ls rs hops) h e = absurd h
    part_used u (low.AttachPort p i a d) v h e = absurd (true≢false (sym (ap (λ (v : LowValue). is_some (use_from u (Some v))) h ∙ e)))
    part_used u (low.AttachCircuit c s d) v h e = absurd (true≢false (sym (ap (λ (v : LowValue). is_some (use_from u (Some v))) h ∙ e)))
    part_used u (low.Acl s q) (low.Acl t r) h e = absurd (true≢false (sym e))
    part_used u (low.Acl s q) (low.AttachPort p i a d) h e = absurd h
    part_used u (low.Acl s q) (low.AttachCircuit c t d) h e = absurd h
    part_used u (low.Acl s q) (low.Instance is) h e = absurd h
    part_used u (low.Acl s q) (low.ChainUse l r ls rs hops) h e = absurd h

    hop_known : (i : InstanceId) → is_hop i ≡ true → is_some (object M (key.ChainUse (use_of i))) ≡ true → is_known (low_in b) i ≡ true → is_known f i ≡ true
    hop_known i hop h known =
        let u = use_of i in
        let w = some_of (object M (key.ChainUse u)) h in
        let v = above (key.ChainUse u) w.0 w.1 in
        let o = common_is_part b ds b (inl refl) (key.ChainUse u) w.0 w.1 in
        let there : is_place (place_of i) (use_from u (Some o.0)) ≡ true =
        ap (λ (x : Option LowValue). is_place (place_of i) (use_from u x)) (sym o.1)
        ∙ ap (λ c. cond c (is_place (place_of i) (use_from u (object (low_in b) (key.ChainUse u)))) (is_some (object (low_in b) (key.Instance i.0)))) (sym hop) ∙ known in
        let used = part_used u w.0 o.0 o.2 (is_used (place_of i) u (use_from u (Some o.0)) there) in
        ap (λ c. cond c (is_place (place_of i) (use_from u (object f (key.ChainUse u)))) (is_some (object f (key.Instance i.0)))) hop
        ∙ ap (λ (x : Option LowValue). is_place (place_of i) (use_from u x)) v.1
        ∙ use_same (place_of i) u w.0 v.0 v.2 used
        ∙ sym (use_same (place_of i) u w.0 o.0 o.2 used) ∙ there

    known_by : (k : LowKey) (v w : LowValue) (a : Attachment) → get (low_in b) (Low k) ≡ Some (Object v) → IsPartOf w v → has_its_home (standing cs) (map low_in ds) (low_in b) k v ≡ true → as_attachment k w ≡ Some a → is_known (low_in b) a.instance ≡ true → is_known f a.instance ≡ true
    known_by (key.Attach l) v (low.AttachPort p i x n) a held part home e known =
        let at : i ≡ a.instance = ap (λ (a : Attachment). a.instance) (same_Some _ a e) in
        let home' : is_common_network (standing cs) (map low_in ds) (key.Instance i.0) (object (low_in b) (key.Instance i.0)) ≡ true =
        subst (λ (v : LowValue). has_its_home (standing cs) (map low_in ds) (low_in b) (key.Attach l) v ≡ true) (sym part) home in
        subst (λ (i : InstanceId). is_known f i ≡ true) at
        (network_known i (port_no_hop b (written b (inl refl)) (key.Attach l) p i x n (held ∙ ap (λ (v : LowValue). Some (Object v)) (sym part))) (network_there i.0 (object (low_in b) (key.Instance i.0)) refl home'))
    known_by (key.Attach l) v (low.AttachCircuit c s n) a held part home e known =
        let at : circuit_instance_of c ≡ a.instance = ap (λ (a : Attachment). a.instance) (same_Some _ a e) in
        let u = use_of (circuit_instance_of c) in
        let home' : is_common_use (standing cs) (map low_in ds) (low_in b) u (object (low_in b) (key.ChainUse u)) ≡ true =
        subst (λ (v : LowValue). has_its_home (standing cs) (map low_in ds) (low_in b) (key.Attach l) v ≡ true) (sym part) home in
        subst (λ (i : InstanceId). is_known f i ≡ true) at
        (hop_known (circuit_instance_of c) (circuit_in_hop b (written b (inl refl)) (key.Attach l) c s n (held ∙ ap (λ (v : LowValue). Some (Object v)) (sym part))) (use_there u (object (low_in b) (key.ChainUse u)) refl home') (subst (λ (i : InstanceId). is_known (low_in b) i ≡ true) (sym at) known))
    known_by (key.Attach l) v (low.Instance is) a held part home e known = absurd (none_some a e)
    known_by (key.Attach l) v (low.Acl s r) a held part home e known = absurd (none_some a e)
    known_by (key.Attach l) v (low.ChainUse x y c d g) a held part home e known = absurd (none_some a e)
    known_by (key.Instance n) v w a held part home e known = absurd (none_some a e)
    known_by (key.Acl x y) v w a held part home e known = absurd (none_some a e)
    known_by (key.ChainUse u) v w a held part home e known = absurd (none_some a e)

    pub known_above : (a : Attachment) → Member a (attachments M) → is_known f a.instance ≡ true
    known_above a m =
        let q = from_filter_map (λ (e : LowKey × LowValue). as_attachment e.0 e.1) a (objects M) m in
        let there = ap as_object (object_of M q.0.0 q.0.1 q.1) in
        let o = common_of (standing cs) (map low_in ds) (low_in b) q.0.0 q.0.1 there in
        let p = common_is_part b ds b (inl refl) q.0.0 q.0.1 there in
        let same : p.0 ≡ o.value = same_Some p.0 o.value (sym p.1 ∙ ap as_object o.held) in
        let sound = (sound_setup (opening b) (written b (inl refl))).sound in
        known_by q.0.0 o.value q.0.1 a o.held (subst (IsPartOf q.0.1) same p.2) o.at_home q.2 (sound.known a (attached_in b ds written a m b (inl refl)))
