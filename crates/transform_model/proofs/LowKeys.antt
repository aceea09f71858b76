-- In a valid configuration no two objects have one key, so that none is lost.
use Rattle.std.proofs.Common.{◌≡◌, ◌≢◌, ◌↔◌, ◌⊎◌, inl, inr, ◌||◌, ◌+◌, ◌*◌, ◌^◌, ◌≤◌, ℕ, IsTrue, List, ◌++◌, Some, length, sym, ap, ◌∙◌, arith}
use Rattle.std.specs.List.{AllPairs, Contains}
use Rattle.std.specs.List.Sorted.{IsPermutation}
use Rattle.std.specs.declared.cmp.Ordering.TheVariants.{Less}
use Rattle.std.proofs.lemmas.List.Elements.{Contains-append_cases}
use Rattle.std.proofs.lemmas.List.Kept.{AllPairs-filter}
use Rattle.std.proofs.lemmas.List.Sorted.{IsPermutation-sym, Contains-permutation}
use Rattle.ov_types.specs.First.{same_name}
use Rattle.ov_types.specs.Keys.{kind_of, low_key_cmp}
use Rattle.ov_types.specs.declared.objects.LowKey.TheVariants as Key
use Rattle.acl_compile.specs.ConfigTypes.Form.{has_config_form}
use Rattle.acl_compile.specs.ConfigTypes.Config.{Config}
use Rattle.acl_compile.specs.ConfigTypes.Network.{Network}
use Rattle.acl_compile.specs.ConfigTypes.Port.{Port}
use Rattle.acl_compile.specs.ConfigTypes.Topology.{Topology}
use Rattle.acl_compile.specs.PolicyRules.Related.{are_related}
use Rattle.acl_compile.specs.ConfigCheck.Rules.{group_of}
use Rattle.acl_compile.specs.ConfigCheck.Sentences.{IsValid}
use Rattle.transform_model.specs.IsObject.{IsObject}
use Rattle.transform_model.specs.Objects.{LowObject, instance_object, port_object, circuit_object, circuit_objects, acl_object, acl_objects, use_object, objects, low_objects}
use Rattle.transform_model.specs.Uses.{ConfiguredUse, Circuit, uses, left_circuits, right_circuits}
use Rattle.transform_model.proofs.Circuits.{left_is, right_is, left_number, right_number, circuits_differ}
use Rattle.transform_model.proofs.Circuits as circuit
use Rattle.transform_model.proofs.InUse.{use_is, uses_differ, few_services}
use Rattle.transform_model.proofs.InUse as in_use
use Rattle.transform_model.proofs.Keys.{objects_in_order, objects_added}
use Rattle.acl_compile.proofs.PolicyRules.Lists.{mapped_is, joined_is}
use Rattle.transform_model.proofs.Lists.{given, pairs_append_by, pairs_given_by, pairs_joined_by, pairs_mapped, pairs_of_map, pairs_weaker, place_within}
use Rattle.transform_model.proofs.Objects.{from_port, from_circuit, instance_part, port_part, circuit_part, acl_part, use_part, object_is, is_object}
use Rattle.transform_model.proofs.Prefixes.{port_number}

abbrev Differ : LowObject → LowObject → Type 0
Differ d e = d.0 ≢ e.0

-- ---- circuits of two uses

-- the hop of a circuit
record HasNumber (u : ConfiguredUse) (k : Circuit) : Type 0 where
  hop : ℕ
  low : hop ≤ length u.services
  side : (k.number ≡ 2 * (16384 + 16 * u.number + hop) + 1) ⊎ (k.number ≡ 2 * (16384 + 16 * u.number + hop))

has_number : (u : ConfiguredUse) (k : Circuit) → Contains (left_circuits u ++ right_circuits u) k → HasNumber u k
has_number u k h =
    elim (Contains-append_cases (left_circuits u) (right_circuits u) k h) [
      | inl left ↦
          let q = left_is u k left in
          let low = place_within u.services q.0 k.service q.1.service in
          record { hop = q.0; low = omega arith; side = inl (left_number u q.0 k q.1) }
      | inr right ↦
          let q = right_is u k right in
          let low = place_within u.services q.0 k.service q.1.service in
          record { hop = q.0 + 1; low = omega arith; side = inr (right_number u q.0 k q.1) }
    ]

far_numbers : (m n a b x y : ℕ) → m ≢ n → a ≤ 15 → b ≤ 15 → (x ≡ 2 * (16384 + 16 * m + a) + 1) ⊎ (x ≡ 2 * (16384 + 16 * m + a))
    → (y ≡ 2 * (16384 + 16 * n + b) + 1) ⊎ (y ≡ 2 * (16384 + 16 * n + b)) → x ≢ y
far_numbers m n a b x y differ low_a low_b (inl e) (inl f) same = omega arith
far_numbers m n a b x y differ low_a low_b (inl e) (inr f) same = omega arith
far_numbers m n a b x y differ low_a low_b (inr e) (inl f) same = omega arith
far_numbers m n a b x y differ low_a low_b (inr e) (inr f) same = omega arith

-- ---- keys of one part

same_attach : (m n : ℕ) → Key.Attach m ≡ Key.Attach n → m ≡ n
same_attach m n e = cc

module _ (t : Topology) (c : Config) (v : IsValid t c) (form : IsTrue (has_config_form c)) where
  networks_differ : AllPairs (λ (a b : Network). a.id.0 ≢ b.id.0) c.networks
  networks_differ = pairs_of_map (λ (n : Network). n.id.0) (λ (a b : ℕ). a ≢ b) c.networks v.numbers.networks

  instance_keys : AllPairs Differ (instance_part c)
  instance_keys =
      pairs_mapped (instance_object c) Differ c.networks
      (pairs_weaker (λ (a b : Network). a.id.0 ≢ b.id.0) (λ (a b : Network). Differ (instance_object c a) (instance_object c b)) c.networks networks_differ
      (λ a b in_a in_b differ same. let one : Key.Instance a.id.0 ≡ Key.Instance b.id.0 = same in let number : a.id.0 ≡ b.id.0 = cc in differ number))

  port_keys : AllPairs Differ (port_part t c)
  port_keys =
      pairs_given_by (port_object t c) Differ (λ (p q : Port). p.id.0 ≢ q.id.0) c.ports
      (pairs_of_map (λ (p : Port). p.id.0) (λ (a b : ℕ). a ≢ b) c.ports v.numbers.ports)
      (λ p q d e in_p in_q differ is_d is_e same.
      let a = from_port t c p d is_d in
      let b = from_port t c q e is_e in
      let one : 16 + p.id.0 ≡ 16 + q.id.0 =
      same_attach (16 + p.id.0) (16 + q.id.0) (sym (ap (λ (x : LowObject). x.0) a.is) ∙ same ∙ ap (λ (x : LowObject). x.0) b.is) in
      differ (omega arith))

  circuit_label : (k : Circuit) (l : Circuit) (d e : LowObject) → circuit_object t k ≡ Some d → circuit_object t l ≡ Some e → d.0 ≡ e.0 → k.number ≡ l.number
  circuit_label k l d e is_d is_e same =
      let a = from_circuit t k d is_d in
      let b = from_circuit t l e is_e in
      let one : 2 ^ 19 + k.number ≡ 2 ^ 19 + l.number =
      same_attach (2 ^ 19 + k.number) (2 ^ 19 + l.number) (sym (ap (λ (x : LowObject). x.0) a.is) ∙ same ∙ ap (λ (x : LowObject). x.0) b.is) in
      omega arith

  circuit_keys : AllPairs Differ (circuit_part t c)
  circuit_keys =
      pairs_joined_by (circuit_objects t) Differ in_use.Differ (uses c) (uses_differ t c v)
      (λ u in_u.
      pairs_given_by (circuit_object t) Differ circuit.Differ (left_circuits u ++ right_circuits u) (circuits_differ u)
      (λ k l d e in_k in_l differ is_d is_e same. differ (circuit_label k l d e is_d is_e same)))
      (λ u w d e in_u in_w differ in_d in_e same.
      let g = given (circuit_object t) (left_circuits u ++ right_circuits u) d in_d in
      let h = given (circuit_object t) (left_circuits w ++ right_circuits w) e in_e in
      let a = has_number u g.0 g.1 in
      let b = has_number w h.0 h.1 in
      let few_a = few_services t c u v (use_is c u in_u) in
      let few_b = few_services t c w v (use_is c w in_w) in
      let low_a = a.low in
      let low_b = b.low in
      far_numbers u.number w.number a.hop b.hop g.0.number h.0.number differ (omega arith) (omega arith) a.side b.side
      (circuit_label g.0 h.0 d e g.2 h.2 same))

  acl_keys : AllPairs Differ (acl_part c)
  acl_keys =
      pairs_joined_by (acl_objects c) Differ (λ (a b : Network). a.id.0 ≢ b.id.0) c.networks networks_differ
      (λ a in_a.
      let Apart : Network → Network → Type 0 = λ m n. m.id.0 ≢ n.id.0 in
      let group : AllPairs Apart (group_of c a) = AllPairs-filter Apart (λ (m : Network). same_name m.name a.name || are_related c a m) c.networks networks_differ in
      pairs_mapped (acl_object c a) Differ (group_of c a)
      (pairs_weaker Apart (λ (m n : Network). Differ (acl_object c a m) (acl_object c a n)) (group_of c a) group
      (λ m n in_m in_n differ same. let one : Key.Acl a.id.0 m.id.0 ≡ Key.Acl a.id.0 n.id.0 = same in let number : m.id.0 ≡ n.id.0 = cc in differ number)))
      (λ a b d e in_a in_b differ in_d in_e same.
      let x = mapped_is (acl_object c a) (group_of c a) d in_d in
      let y = mapped_is (acl_object c b) (group_of c b) e in_e in
      let one : Key.Acl a.id.0 x.0.id.0 ≡ Key.Acl b.id.0 y.0.id.0 = ap (λ (z : LowObject). z.0) x.2 ∙ same ∙ sym (ap (λ (z : LowObject). z.0) y.2) in
      let number : a.id.0 ≡ b.id.0 = cc in
      differ number)

  use_keys : AllPairs Differ (use_part t c)
  use_keys =
      pairs_mapped (use_object t) Differ (uses c)
      (pairs_weaker in_use.Differ (λ (u w : ConfiguredUse). Differ (use_object t u) (use_object t w)) (uses c) (uses_differ t c v)
      (λ u w in_u in_w differ same. let one : Key.ChainUse u.number ≡ Key.ChainUse w.number = same in let number : u.number ≡ w.number = cc in differ number))

  -- ---- keys of two parts

  instance_kind : (o : LowObject) → Contains (instance_part c) o → kind_of o.0 ≡ 0
  instance_kind o h = let q = mapped_is (instance_object c) c.networks o h in ap (λ (x : LowObject). kind_of x.0) (sym q.2)

  acl_kind : (o : LowObject) → Contains (acl_part c) o → kind_of o.0 ≡ 2
  acl_kind o h =
      let a = joined_is (acl_objects c) c.networks o h in
      let b = mapped_is (acl_object c a.0) (group_of c a.0) o a.2 in
      ap (λ (x : LowObject). kind_of x.0) (sym b.2)

  use_kind : (o : LowObject) → Contains (use_part t c) o → kind_of o.0 ≡ 3
  use_kind o h = let u = mapped_is (use_object t) (uses c) o h in ap (λ (x : LowObject). kind_of x.0) (sym u.2)

  port_key : (o : LowObject) → Contains (port_part t c) o → (n : ℕ) × (n ≤ 524287) × (o.0 ≡ Key.Attach n)
  port_key o h =
      let g = given (port_object t c) c.ports o h in
      let f = from_port t c g.0 o g.2 in
      let low = port_number c g.0 form g.1 in
      (16 + g.0.id.0, omega arith, ap (λ (x : LowObject). x.0) f.is)

  circuit_key : (o : LowObject) → Contains (circuit_part t c) o → (n : ℕ) × (524288 ≤ n) × (o.0 ≡ Key.Attach n)
  circuit_key o h =
      let u = joined_is (circuit_objects t) (uses c) o h in
      let g = given (circuit_object t) (left_circuits u.0 ++ right_circuits u.0) o u.2 in
      let f = from_circuit t g.0 o g.2 in
      (2 ^ 19 + g.0.number, omega arith, ap (λ (x : LowObject). x.0) f.is)

  port_kind : (o : LowObject) → Contains (port_part t c) o → kind_of o.0 ≡ 1
  port_kind o h = ap kind_of (port_key o h).2

  circuit_kind : (o : LowObject) → Contains (circuit_part t c) o → kind_of o.0 ≡ 1
  circuit_kind o h = ap kind_of (circuit_key o h).2

  kinds_differ : (d e : LowObject) (m n : ℕ) → kind_of d.0 ≡ m → kind_of e.0 ≡ n → m ≢ n → Differ d e
  kinds_differ d e m n is_m is_n differ same = differ (sym is_m ∙ ap kind_of same ∙ is_n)

  ports_and_circuits : (d e : LowObject) → Contains (port_part t c) d → Contains (circuit_part t c) e → Differ d e
  ports_and_circuits d e in_d in_e same =
      let p = port_key d in_d in
      let k = circuit_key e in_e in
      let one : p.0 ≡ k.0 = same_attach p.0 k.0 (sym p.2 ∙ same ∙ k.2) in
      let hi = p.1 in
      let lo = k.1 in
      omega arith

  pub keys_differ : AllPairs (λ d e. d.0 ≢ e.0) (objects t c)
  keys_differ =
      let acls : List LowObject = acl_part c in
      let uses : List LowObject = use_part t c in
      let circuits : List LowObject = circuit_part t c in
      let ports : List LowObject = port_part t c in
      let after_circuits : AllPairs Differ (acls ++ uses) =
      pairs_append_by Differ acls uses acl_keys use_keys (λ d e in_d in_e. kinds_differ d e 2 3 (acl_kind d in_d) (use_kind e in_e) (omega arith)) in
      let after_ports : AllPairs Differ (circuits ++ (acls ++ uses)) =
      pairs_append_by Differ circuits (acls ++ uses) circuit_keys after_circuits
      (λ d e in_d in_e.
      elim (Contains-append_cases acls uses e in_e) [
        | inl acl ↦ kinds_differ d e 1 2 (circuit_kind d in_d) (acl_kind e acl) (omega arith)
        | inr u ↦ kinds_differ d e 1 3 (circuit_kind d in_d) (use_kind e u) (omega arith)
      ]) in
      let after_instances : AllPairs Differ (ports ++ (circuits ++ (acls ++ uses))) =
      pairs_append_by Differ ports (circuits ++ (acls ++ uses)) port_keys after_ports
      (λ d e in_d in_e.
      elim (Contains-append_cases circuits (acls ++ uses) e in_e) [
        | inl k ↦ ports_and_circuits d e in_d k
        | inr more ↦ elim (Contains-append_cases acls uses e more) [
          | inl acl ↦ kinds_differ d e 1 2 (port_kind d in_d) (acl_kind e acl) (omega arith)
          | inr u ↦ kinds_differ d e 1 3 (port_kind d in_d) (use_kind e u) (omega arith)
        ]
      ]) in
      pairs_append_by Differ (instance_part c) (ports ++ (circuits ++ (acls ++ uses))) instance_keys after_instances
      (λ d e in_d in_e.
      elim (Contains-append_cases ports (circuits ++ (acls ++ uses)) e in_e) [
        | inl p ↦ kinds_differ d e 0 1 (instance_kind d in_d) (port_kind e p) (omega arith)
        | inr most ↦ elim (Contains-append_cases circuits (acls ++ uses) e most) [
          | inl k ↦ kinds_differ d e 0 1 (instance_kind d in_d) (circuit_kind e k) (omega arith)
          | inr more ↦ elim (Contains-append_cases acls uses e more) [
            | inl acl ↦ kinds_differ d e 0 2 (instance_kind d in_d) (acl_kind e acl) (omega arith)
            | inr u ↦ kinds_differ d e 0 3 (instance_kind d in_d) (use_kind e u) (omega arith)
          ]
        ]
      ])

-- ---- the map of objects

pub low_in_order : (t : Topology) (c : Config) → AllPairs (λ d e. low_key_cmp d.0 e.0 ≡ Less) (low_objects t c)
unfolding low_objects
low_in_order t c = objects_in_order (objects t c)

pub low_kept : (t : Topology) (c : Config) → IsValid t c → IsTrue (has_config_form c) → IsPermutation (objects t c) (low_objects t c)
unfolding low_objects
low_kept t c v form = objects_added (objects t c) (keys_differ t c v form)

pub low_is : (t : Topology) (c : Config) (o : LowObject) → IsValid t c → IsTrue (has_config_form c) → Contains (low_objects t c) o → IsObject t c o
low_is t c o v form h =
    object_is t c v o
    (Contains-permutation (low_objects t c) (objects t c) o (IsPermutation-sym (objects t c) (low_objects t c) (low_kept t c v form)) h)

pub is_low : (t : Topology) (c : Config) (o : LowObject) → IsValid t c → IsTrue (has_config_form c) → IsObject t c o → Contains (low_objects t c) o
is_low t c o v form h = Contains-permutation (objects t c) (low_objects t c) o (low_kept t c v form) (is_object t c v o h)

pub low_iff : (t : Topology) (c : Config) (o : LowObject) → IsValid t c → IsTrue (has_config_form c) → Contains (low_objects t c) o ↔ IsObject t c o
low_iff t c o v form = (low_is t c o v form, is_low t c o v form)
