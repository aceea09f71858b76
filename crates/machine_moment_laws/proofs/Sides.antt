-- The uses of the common part: in range, with all their circuits, and had wherever the common part is.
use Rattle.std.specs.Prelude.{◌≡◌, ◌*◌, ◌==◌, ◌≤◌, ◌<◌, ◌&&◌, ◌+◌, ◌-◌, ℕ, suc, Bool, List, ◌∷◌, map, length, is_some, true, false, cond}
use Rattle.std.specs.declared.option.Option.{Option}
use Rattle.std.specs.declared.option.Option.TheVariants.{None, Some}
use Rattle.std.proofs.Common.{ap, arith, inl, refl, subst, sym, ◌∙◌}
use Rattle.std.proofs.lemmas.Bool.{and_parts, eqb-true, true≢false}
use Rattle.std.proofs.lemmas.Option.{same_Some}
use Rattle.ov_types.specs.Prefix.{Block}
use Rattle.ov_types.specs.declared.numbers.InstanceId.{InstanceId}
use Rattle.ov_types.specs.declared.numbers.ServiceNo.{ServiceNo}
use Rattle.ov_types.specs.declared.objects.LowKey.{LowKey}
use Rattle.ov_types.specs.declared.objects.LowKey.TheVariants as key
use Rattle.ov_types.specs.declared.objects.LowValue.{LowValue}
use Rattle.ov_types.specs.declared.objects.LowValue.TheVariants as low
use Rattle.ov_types.specs.declared.prefix.Addr.{Addr}
use Rattle.route_targets.specs.Numbers.{circuit_instance_of, circuit_label_of, left_circuit_of, right_circuit_of}
use Rattle.schedule_script.specs.ConfigCheck.Checked.{Checked}
use Rattle.node_laws.specs.NodeModel.Maps.{Map, as_object, object, objects}
use Rattle.node_laws.specs.NodeModel.Members.{Member}
use Rattle.node_laws.specs.NodeModel.Ranks.{AreOrdered}
use Rattle.node_laws.specs.NodeModel.Reaching.{Side, below, circuit_at, hop_at, network, sides, subnets}
use Rattle.node_laws.specs.NodeModel.Uses.{Use, as_use, use_of, uses}
use Rattle.node_laws.proofs.NodeModel.Members.{from_filter_map, in_filter_map, none_some}
use Rattle.node_laws.proofs.NodeModel.Objects.{in_objects, in_sides, object_of, side_use, use_of-hop}
use Rattle.node_laws.proofs.NodeModel.Routes.{in_below}
use Rattle.node_laws.proofs.NodeModel.Unknown.{le_trans, place_at, place_at-within}
use Rattle.machine_model.specs.Setup.{low_in, opening}
use Rattle.machine_laws.specs.Compiled.{Attachment, as_attachment, attachments, circuit_prefix}
use Rattle.machine_laws.specs.Headline.{IsWritten}
use Rattle.machine_laws.specs.Sound.{IsCircuitAt}
use Rattle.machine_laws.proofs.Numbers.{circuit_at-instance}
use Rattle.machine_laws.proofs.Written.{sound_setup}
use Rattle.machine_moment_laws.specs.Common.{common, common_object, has_circuits, has_its_home, is_circuit_object, is_common_circuit, is_common_use, standing}
use Rattle.machine_moment_laws.proofs.Above.{object_above}
use Rattle.machine_moment_laws.proofs.Homes.{in_common, some_of}
use Rattle.machine_moment_laws.proofs.Parts.{IsAbove, IsPartOf, Within, common_is_part, common_of, from_all, object_is}

-- ---- a use that is had, with at least its subnets
pub record SameUse (u v : Use) : Type 0 where
  pub number : u.number ≡ v.number
  pub left : u.left ≡ v.left
  pub right : u.right ≡ v.right
  pub services : u.services ≡ v.services
  pub lefts : Within u.left_subnets v.left_subnets
  pub rights : Within u.right_subnets v.right_subnets

abbrev UseAbove : LowKey → LowValue → Use → Type 0
UseAbove k v u = (w : Use) × (as_use k v ≡ Some w) × SameUse u w

same_of : (u w : Use) → u ≡ w → SameUse u w
same_of u w e = record {
  number = ap (λ (u : Use). u.number) e;
  left = ap (λ (u : Use). u.left) e;
  right = ap (λ (u : Use). u.right) e;
  services = ap (λ (u : Use). u.services) e;
  lefts = λ p m. subst (λ (u : Use). Member p u.left_subnets) e m;
  rights = λ p m. subst (λ (u : Use). Member p u.right_subnets) e m;
}

use_part : (k : LowKey) (w v : LowValue) (u : Use) → as_use k w ≡ Some u → IsPartOf w v → UseAbove k v u
use_part (key.ChainUse n) (low.ChainUse l r ls rs hops) (low.ChainUse l' r' ls' rs' hops') u e h =
    let x : Use = record { number = n; left = l; right = r; left_subnets = ls; right_subnets = rs; services = length hops } in
    let q = same_of u x (sym (same_Some x u e)) in (
      record { number = n; left = l'; right = r'; left_subnets = ls'; right_subnets = rs'; services = length hops' },
      refl,
      record {
        number = q.number;
        left = q.left ∙ h.0;
        right = q.right ∙ h.1.0;
        services = q.services ∙ ap (λ (hs : List (ServiceNo × Addr)). length hs) h.1.1.0;
        lefts = λ p m. h.1.1.1.0 p (q.lefts p m);
        rights = λ p m. h.1.1.1.1 p (q.rights p m);
      },
    )
use_part (key.ChainUse n) (low.ChainUse l r ls rs hops) (low.Instance is) u e h = absurd h
use_part (key.ChainUse n) (low.ChainUse l r ls rs hops) (low.AttachPort p i a d) u e h = absurd h
use_part (key.ChainUse n) (low.ChainUse l r ls rs hops) (low.AttachCircuit c s d) u e h = absurd h
use_part (key.ChainUse n) (low.ChainUse l r ls rs hops) (low.Acl s q) u e h = absurd h
use_part (key.ChainUse n) (low.Instance is) v u e h = absurd (none_some u e)
use_part (key.ChainUse n) (low.AttachPort p i a d) v u e h = absurd (none_some u e)
use_part (key.ChainUse n) (low.AttachCircuit c s d) v u e h = absurd (none_some u e)
use_part (key.ChainUse n) (low.Acl s q) v u e h = absurd (none_some u e)
use_part (key.Instance n) w v u e h = absurd (none_some u e)
use_part (key.Attach n) w v u e h = absurd (none_some u e)
use_part (key.Acl n m) w v u e h = absurd (none_some u e)

abbrev pub side_with : Use → Bool → Side
side_with u c = record { chain = u; is_right = c }

-- of a side of the first map the second has the same with at least its subnets
pub record SideAbove (f : Map) (s : Side) : Type 0 where
  pub chain : Use
  pub same : SameUse s.chain chain
  pub of_use : Member (side_with chain s.is_right) (sides f)

module _ (m f : Map) (above : IsAbove m f) where
  pub use_above : (u : Use) → Member u (uses m) → (v : Use) × Member v (uses f) × SameUse u v
  use_above u h =
      let q = from_filter_map (λ (e : LowKey × LowValue). as_use e.0 e.1) u (objects m) h in
      let o = object_above m f above q.0.0 q.0.1 q.1 in
      let p = use_part q.0.0 q.0.1 o.0 u q.2 o.2 in
      (p.0, in_filter_map (λ (e : LowKey × LowValue). as_use e.0 e.1) (q.0.0, o.0) p.0 (objects f) o.1 p.1, p.2)

  pub side_above : (s : Side) → Member s (sides m) → SideAbove f s
  side_above s h = let q = use_above s.chain (side_use m s h) in record { chain = q.0; same = q.2; of_use = in_sides f q.0 s.is_right q.1 }

-- what a side that has the same says
module _ (s : Side) (v : Use) (q : SameUse s.chain v) where
  pub same_subnets : (p : Block) → Member p (subnets s) → Member p (subnets (side_with v s.is_right))
  same_subnets p m = by s.is_right m
    where
      by : (c : Bool) → Member p (cond c s.chain.right_subnets s.chain.left_subnets) → Member p (cond c v.right_subnets v.left_subnets)
      by true m = q.rights p m
      by false m = q.lefts p m

  pub same_network : network s ≡ network (side_with v s.is_right)
  same_network = λ i. cond s.is_right (q.right i) (q.left i)

  pub same_hop_at : (d : ℕ) → hop_at s d ≡ hop_at (side_with v s.is_right) d
  same_hop_at d = λ i. record { 0 = 16384 + 16 * q.number i + cond s.is_right (q.services i - d) d }

  pub same_circuit_at : (d : ℕ) → circuit_at s d ≡ circuit_at (side_with v s.is_right) d
  same_circuit_at d = λ i. cond s.is_right (left_circuit_of (q.number i) (q.services i - d + 1)) (right_circuit_of (q.number i) d)

-- ---- the uses of the common part
module _ (b : Checked) (ds : List Checked) (written : (c : Checked) → Member c (b ∷ ds) → IsWritten (opening c)) where
  abbrev cs : List Checked
  cs = b ∷ ds

  abbrev M : Map
  M = common cs

  ordered_there : AreOrdered (low_in b)
  ordered_there = (sound_setup (opening b) (written b (inl refl))).sound.ordered

  above_there : IsAbove M (low_in b)
  above_there = common_is_part b ds b (inl refl)

  pub ordered : AreOrdered M
  ordered = record {
    numbers = λ u m. let q = use_above M (low_in b) above_there u m in subst (λ (n : ℕ). n ≤ 3071) (sym q.2.number) (ordered_there.numbers q.0 q.1);
    short = λ u m. let q = use_above M (low_in b) above_there u m in subst (λ (n : ℕ). n ≤ 15) (sym q.2.services) (ordered_there.short q.0 q.1);
    lefts = λ u m. let q = use_above M (low_in b) above_there u m in subst (λ (n : InstanceId). n.0 < 16384) (sym q.2.left) (ordered_there.lefts q.0 q.1);
    rights = λ u m. let q = use_above M (low_in b) above_there u m in subst (λ (n : InstanceId). n.0 < 16384) (sym q.2.right) (ordered_there.rights q.0 q.1);
    right_in_left = λ u l r m i j. let q = use_above M (low_in b) above_there u m in ordered_there.right_in_left q.0 l r q.1 (q.2.lefts l i) (q.2.rights r j);
    left_in_right = λ u l r m i j. let q = use_above M (low_in b) above_there u m in ordered_there.left_in_right q.0 l r q.1 (q.2.lefts l i) (q.2.rights r j);
  }

  -- ---- its circuits
  -- an attachment is that of a circuit, which stands under its label
  pub record IsOfCircuit (circuit : ℕ) (a : Attachment) : Type 0 where
    pub service : ServiceNo
    pub there : Member (key.Attach (circuit_label_of circuit).0, low.AttachCircuit circuit service a.node) (objects M)
    pub label : a.label ≡ circuit_label_of circuit

  circuit_object : (circuit u : ℕ) → use_of (circuit_instance_of circuit) ≡ u → is_common_use (standing cs) (map low_in ds) (low_in b) u (object (low_in b) (key.ChainUse u)) ≡ true → (o : Option LowValue) → object (low_in b) (key.Attach (circuit_label_of circuit).0) ≡ o → is_circuit_object (standing cs) (map low_in ds) circuit o ≡ true
      → (a : Attachment) × Member a (attachments M) × (a.instance ≡ circuit_instance_of circuit) × (a.prefix ≡ circuit_prefix circuit) × IsOfCircuit circuit a
  circuit_object circuit u is used (Some (low.AttachCircuit c s n)) e h =
      let k : LowKey = key.Attach (circuit_label_of circuit).0 in
      let v : LowValue = low.AttachCircuit c s n in
      let p = and_parts (c == circuit) (is_some (common_object (standing cs) (map low_in ds) k v)) h in
      let same : c ≡ circuit = eqb-true c circuit p.0 in
      let w = some_of b ds written (common_object (standing cs) (map low_in ds) k v) p.1 in
      let home : has_its_home (standing cs) (map low_in ds) (low_in b) k v ≡ true =
      subst (λ (n : ℕ). is_common_use (standing cs) (map low_in ds) (low_in b) n (object (low_in b) (key.ChainUse n)) ≡ true) (sym (ap (λ (n : ℕ). use_of (circuit_instance_of n)) same ∙ is)) used in
      let there = some_of b ds written (object M k) (in_common b ds written k v w.0 (object_is (low_in b) k v e) w.1 home) in
      let part = common_is_part b ds b (inl refl) k there.0 there.1 in
      let value : there.0 ≡ v = circuit_part there.0 part.0 c s n part.2 (same_Some part.0 v (sym part.1 ∙ e)) in
      let a : Attachment = record { label = circuit_label_of circuit; instance = circuit_instance_of c; prefix = circuit_prefix c; node = n } in
      let mine : Member (k, v) (objects M) = subst (λ (v : LowValue). Member (k, v) (objects M)) value (in_objects M k there.0 (object_is M k there.0 there.1)) in (
        a,
        in_filter_map (λ (e : LowKey × LowValue). as_attachment e.0 e.1) (k, v) a (objects M) mine refl,
        ap circuit_instance_of same,
        ap circuit_prefix same,
        record { service = s; there = subst (λ (c : ℕ). Member (k, low.AttachCircuit c s n) (objects M)) same mine; label = refl },
      )
    where
      circuit_part : (w v : LowValue) (c : ℕ) (s : ServiceNo) (n : Addr) → IsPartOf w v → v ≡ low.AttachCircuit c s n → w ≡ low.AttachCircuit c s n
      circuit_part (low.AttachPort p i a d) v c s n h e = h ∙ e
      circuit_part (low.AttachCircuit c' s' d) v c s n h e = h ∙ e
      circuit_part (low.Instance is) v c s n h e = absurd (subst (IsPartOf (low.Instance is)) e h)
      circuit_part (low.Acl t q) v c s n h e = absurd (subst (IsPartOf (low.Acl t q)) e h)
      circuit_part (low.ChainUse l r ls rs hops) v c s n h e = absurd (subst (IsPartOf (low.ChainUse l r ls rs hops)) e h)
  circuit_object circuit u is used (Some (low.AttachPort p i a d)) e h = absurd (true≢false (sym h))
  circuit_object circuit u is used (Some (low.Instance js)) e h = absurd (true≢false (sym h))
  circuit_object circuit u is used (Some (low.Acl s q)) e h = absurd (true≢false (sym h))
  circuit_object circuit u is used (Some (low.ChainUse l r ls rs hops)) e h = absurd (true≢false (sym h))
  circuit_object circuit u is used None e h = absurd (true≢false (sym h))

  both_circuits : (u services : ℕ) (v : LowValue) (n : Use) → as_use (key.ChainUse u) v ≡ Some n → n.services ≡ services → is_common_use (standing cs) (map low_in ds) (low_in b) u (Some v) ≡ true → has_circuits (standing cs) (map low_in ds) (low_in b) u services ≡ true
  both_circuits u services (low.ChainUse l r ls rs hops) n e f h =
      subst (λ (k : ℕ). has_circuits (standing cs) (map low_in ds) (low_in b) u k ≡ true) (ap (λ (n : Use). n.services) (same_Some _ n e) ∙ f)
      (and_parts (is_some (common_object (standing cs) (map low_in ds) (key.ChainUse u) (low.ChainUse l r ls rs hops))) (has_circuits (standing cs) (map low_in ds) (low_in b) u (length hops)) h).1
  both_circuits u services (low.Instance js) n e f h = absurd (true≢false (sym h))
  both_circuits u services (low.AttachPort p i a d) n e f h = absurd (true≢false (sym h))
  both_circuits u services (low.AttachCircuit c s d) n e f h = absurd (true≢false (sym h))
  both_circuits u services (low.Acl s q) n e f h = absurd (true≢false (sym h))

  pub circuit_there : (s : Side) → Member s (sides M) → (d : ℕ) → d < s.chain.services → (a : Attachment) × Member a (attachments M) × IsCircuitAt s (suc d) a × IsOfCircuit (circuit_at s (suc d)) a
  circuit_there s m d within =
      let q = from_filter_map (λ (e : LowKey × LowValue). as_use e.0 e.1) s.chain (objects M) (side_use M s m) in
      by q.0.0 q.0.1 q.1 q.2
    where
      number_is : use_of (circuit_instance_of (circuit_at s (suc d))) ≡ s.chain.number
      number_is =
          ap use_of (circuit_at-instance s (suc d))
          ∙ use_of-hop s.chain.number (place_at s (suc d)) (le_trans (place_at s (suc d)) s.chain.services 15 (place_at-within s (suc d) within) (ordered.short s.chain (side_use M s m)))

      found : (u : ℕ) → u ≡ s.chain.number → has_circuits (standing cs) (map low_in ds) (low_in b) u s.chain.services ≡ true → is_common_circuit (standing cs) (map low_in ds) (low_in b) (circuit_at s (suc d)) ≡ true
      found u e h = side_by s.is_right s.chain.services d within h'
        where
          h' : has_circuits (standing cs) (map low_in ds) (low_in b) s.chain.number s.chain.services ≡ true
          h' = subst (λ (u : ℕ). has_circuits (standing cs) (map low_in ds) (low_in b) u s.chain.services ≡ true) e h

          at_place : (j k : ℕ) → j < k → has_circuits (standing cs) (map low_in ds) (low_in b) s.chain.number k ≡ true → (is_common_circuit (standing cs) (map low_in ds) (low_in b) (left_circuit_of s.chain.number (j + 1)) ≡ true) × (is_common_circuit (standing cs) (map low_in ds) (low_in b) (right_circuit_of s.chain.number (j + 1)) ≡ true)
          at_place j k g h =
              and_parts (is_common_circuit (standing cs) (map low_in ds) (low_in b) (left_circuit_of s.chain.number (j + 1))) (is_common_circuit (standing cs) (map low_in ds) (low_in b) (right_circuit_of s.chain.number (j + 1)))
              (from_all (λ j. is_common_circuit (standing cs) (map low_in ds) (low_in b) (left_circuit_of s.chain.number (j + 1)) && is_common_circuit (standing cs) (map low_in ds) (low_in b) (right_circuit_of s.chain.number (j + 1))) (below k) j h (in_below k j g))

          fewer : (k d : ℕ) → d < k → k - suc d < k
          fewer k d h = omega (arith, h)

          next : (d : ℕ) → d + 1 ≡ suc d
          next d = omega arith

          side_by : (c : Bool) (k d : ℕ) → d < k → has_circuits (standing cs) (map low_in ds) (low_in b) s.chain.number k ≡ true → is_common_circuit (standing cs) (map low_in ds) (low_in b) (cond c (left_circuit_of s.chain.number (k - suc d + 1)) (right_circuit_of s.chain.number (suc d))) ≡ true
          side_by true k d g h = (at_place (k - suc d) k (fewer k d g) h).0
          side_by false k d g h = subst (λ (n : ℕ). is_common_circuit (standing cs) (map low_in ds) (low_in b) (right_circuit_of s.chain.number n) ≡ true) (next d) (at_place d k g h).1

      by : (k : LowKey) (w : LowValue) → Member (k, w) (objects M) → as_use k w ≡ Some s.chain → (a : Attachment) × Member a (attachments M) × IsCircuitAt s (suc d) a × IsOfCircuit (circuit_at s (suc d)) a
      by (key.ChainUse u) w i e =
          let there = ap as_object (object_of M (key.ChainUse u) w i) in
          let o = common_of (standing cs) (map low_in ds) (low_in b) (key.ChainUse u) w there in
          let part = common_is_part b ds b (inl refl) (key.ChainUse u) w there in
          let value : part.0 ≡ o.value = same_Some part.0 o.value (sym part.1 ∙ ap as_object o.held) in
          let p = use_part (key.ChainUse u) w o.value s.chain e (subst (IsPartOf w) value part.2) in
          let number : u ≡ s.chain.number = use_number u w s.chain e in
          let home : is_common_use (standing cs) (map low_in ds) (low_in b) u (Some o.value) ≡ true = homely u o.value o.at_home p.0 p.1 in
          let all = both_circuits u s.chain.services o.value p.0 p.1 (sym p.2.services) home in
          let used : is_common_use (standing cs) (map low_in ds) (low_in b) u (object (low_in b) (key.ChainUse u)) ≡ true = ap (is_common_use (standing cs) (map low_in ds) (low_in b) u) (ap as_object o.held) ∙ home in
          let a = circuit_object (circuit_at s (suc d)) u (number_is ∙ sym number) used (object (low_in b) (key.Attach (circuit_label_of (circuit_at s (suc d))).0)) refl (found u number all) in
          (a.0, a.1, (a.2 ∙ circuit_at-instance s (suc d), a.3), a.4)
        where
          use_number : (u : ℕ) (w : LowValue) (n : Use) → as_use (key.ChainUse u) w ≡ Some n → u ≡ n.number
          use_number u (low.ChainUse l r ls rs hops) n e = ap (λ (n : Use). n.number) (same_Some _ n e)
          use_number u (low.Instance is) n e = absurd (none_some n e)
          use_number u (low.AttachPort p i a d) n e = absurd (none_some n e)
          use_number u (low.AttachCircuit c t d) n e = absurd (none_some n e)
          use_number u (low.Acl t q) n e = absurd (none_some n e)

          homely : (u : ℕ) (v : LowValue) → has_its_home (standing cs) (map low_in ds) (low_in b) (key.ChainUse u) v ≡ true → (n : Use) → as_use (key.ChainUse u) v ≡ Some n → is_common_use (standing cs) (map low_in ds) (low_in b) u (Some v) ≡ true
          homely u (low.ChainUse l r ls rs hops) h n e = h
          homely u (low.Instance is) h n e = absurd (none_some n e)
          homely u (low.AttachPort p i a d) h n e = absurd (none_some n e)
          homely u (low.AttachCircuit c t d) h n e = absurd (none_some n e)
          homely u (low.Acl t q) h n e = absurd (none_some n e)
      by (key.Instance n) w i e = absurd (none_some s.chain e)
      by (key.Attach n) w i e = absurd (none_some s.chain e)
      by (key.Acl n x) w i e = absurd (none_some s.chain e)
