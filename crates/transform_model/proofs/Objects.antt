-- In a valid configuration the objects are exactly those that networks, ports and uses in effect give.
use Rattle.std.proofs.Common.{◌≡◌, ◌⊎◌, inl, inr, ◌||◌, IsTrue, List, [], ◌∷◌, ◌++◌, map, Option, Some, None, option_map, refl, sym, ap, ◌∙◌, subst}
use Rattle.std.specs.Prelude.{option_and_then, flat_map}
use Rattle.std.specs.List.{AllZip, Contains, cons_option, filter, filter_map}
use Rattle.std.proofs.lemmas.List.Elements.{All-contains, Contains-append_left, Contains-append_right, Contains-append_cases}
use Rattle.ov_types.specs.First.{same_name}
use Rattle.ov_types.specs.declared.numbers.InstanceId.{InstanceId}
use Rattle.ov_types.specs.declared.numbers.ServiceNo.{ServiceNo}
use Rattle.ov_types.specs.declared.objects.LowKey.TheVariants as Key
use Rattle.ov_types.specs.declared.objects.LowValue.TheVariants as Value
use Rattle.ov_types.specs.declared.prefix.Addr.{Addr}
use Rattle.ov_types.proofs.FirstLemmas.{contains_here, contains_later}
use Rattle.acl_compile.specs.ConfigTypes.Config.{Config}
use Rattle.acl_compile.specs.ConfigTypes.Network.{Network}
use Rattle.acl_compile.specs.ConfigTypes.Port.{Port}
use Rattle.acl_compile.specs.ConfigTypes.Service.{Service}
use Rattle.acl_compile.specs.ConfigTypes.Node.{Node}
use Rattle.acl_compile.specs.ConfigTypes.Topology.{Topology}
use Rattle.acl_compile.specs.PolicyRules.Related.{imports, are_related}
use Rattle.acl_compile.specs.PolicyRules.Standing.{AreRelated}
use Rattle.acl_compile.proofs.PolicyRules.Relations.{imports_iff, related_iff}
use Rattle.acl_compile.specs.ConfigCheck.Finding.{network_named, network_numbered, node_named}
use Rattle.acl_compile.specs.ConfigCheck.Rules.{group_of, node_names}
use Rattle.acl_compile.specs.ConfigCheck.Sentences.{IsValid, IsAround}
use Rattle.acl_compile.proofs.ConfigCheck.Finders.{finds_network_named, finds_network_numbered}
use Rattle.acl_compile.proofs.ConfigCheck.Meanings.{around_test}
use Rattle.acl_compile.specs.Oriented.{ascending}
use Rattle.transform_model.specs.IsObject.{IsObject, of_network, of_port, of_left_circuit, of_right_circuit, of_networks, of_use, AreImports, IsHop}
use Rattle.transform_model.specs.IsRow.{IsPort, IsCircuitAt}
use Rattle.transform_model.specs.IsUse.{IsUse}
use Rattle.transform_model.specs.Objects.{LowObject, imports_of, instance_object, attached_port, port_object, attached_circuit, circuit_object, circuit_objects, acl_object, acl_objects, hop_of, use_object, objects}
use Rattle.transform_model.specs.Uses.{ConfiguredUse, Circuit, uses, left_circuits, right_circuits}
use Rattle.transform_model.proofs.Ascending.{ascending_is, is_ascending, ascending_rises, one_list}
use Rattle.transform_model.proofs.Circuits.{left_is, is_left, right_is, is_right}
use Rattle.transform_model.proofs.InUse.{named, use_is, is_use, services_are}
use Rattle.acl_compile.proofs.PolicyRules.Lists.{kept_is, is_kept, mapped_is, is_mapped, joined_is, is_joined}
use Rattle.transform_model.proofs.Lists.{given, gives, mapped_some}
use Rattle.transform_model.proofs.Rows.{node_is, is_node}

-- ---- instances

pub one_numbered : (t : Topology) (c : Config) (a b : Network) → IsValid t c → Contains c.networks a → Contains c.networks b → a.id ≡ b.id → a ≡ b
one_numbered t c a b v in_a in_b same =
    let f = finds_network_numbered t c a.id.0 v in
    let first : network_numbered c a.id.0 ≡ Some a = (f.some a).1 (in_a, refl) in
    let second : network_numbered c a.id.0 ≡ Some b = (f.some b).1 (in_b, ap (λ (i : InstanceId). i.0) (sym same)) in
    let both : Some a ≡ Some b = sym first ∙ second in
    cc

pub one_named : (t : Topology) (c : Config) (a b : Network) → IsValid t c → Contains c.networks a → Contains c.networks b → a.name ≡ b.name → a ≡ b
one_named t c a b v in_a in_b same =
    let f = finds_network_named t c a.name v in
    let first : network_named c a.name ≡ Some a = (f.some a).1 (in_a, refl) in
    let second : network_named c a.name ≡ Some b = (f.some b).1 (in_b, sym same) in
    let both : Some a ≡ Some b = sym first ∙ second in
    cc

abbrev imported : Config → Network → List InstanceId
imported c n = map (λ (b : Network). b.id) (filter (imports c n) c.networks)

imported_is : (c : Config) (n : Network) (i : InstanceId) → Contains (imports_of c n) i
    → (b : Network) × Contains c.networks b × IsTrue (imports c n b) × (b.id ≡ i)
imported_is c n i h =
    let m = mapped_is (λ (b : Network). b.id) (filter (imports c n) c.networks) i (ascending_is (imported c n) i h) in
    let k = kept_is (imports c n) c.networks m.0 m.1 in
    (m.0, k.0, k.1, m.2)

is_imported : (c : Config) (n b : Network) → Contains c.networks b → IsTrue (imports c n b) → Contains (imports_of c n) b.id
is_imported c n b within h =
    is_ascending (imported c n) b.id
    (is_mapped (λ (m : Network). m.id) (filter (imports c n) c.networks) b (is_kept (imports c n) c.networks b within h))

are_imports : (t : Topology) (c : Config) (n : Network) → IsValid t c → AreImports c n (imports_of c n)
are_imports t c n v = record {
  exactly = λ b in_b. (
    λ h.
        let q = imported_is c n b.id h in
        let same : q.0 ≡ b = one_numbered t c q.0 b v q.1 in_b q.3 in
        (imports_iff c n b).0 (subst (λ (m : Network). IsTrue (imports c n m)) same q.2),
    λ h. is_imported c n b in_b ((imports_iff c n b).1 h),
  );
  of_networks = λ i h. let q = imported_is c n i h in (q.0, q.1, q.3);
  ascend = ascending_rises (imported c n);
}

imports_are : (c : Config) (n : Network) (is : List InstanceId) → AreImports c n is → is ≡ imports_of c n
imports_are c n is h =
    one_list is (imports_of c n) h.ascend (ascending_rises (imported c n))
    (λ z inside.
    let q = h.of_networks z inside in
    let there : Contains is q.0.id = subst (Contains is) (sym q.2) inside in
    subst (Contains (imports_of c n)) q.2 (is_imported c n q.0 q.1 ((imports_iff c n q.0).1 ((h.exactly q.0 q.1).0 there))))
    (λ z inside.
    let q = imported_is c n z inside in
    subst (Contains is) q.3 ((h.exactly q.0 q.1).1 ((imports_iff c n q.0).0 q.2)))

-- ---- attachments

pub record FromPort (t : Topology) (c : Config) (p : Port) (o : LowObject) : Type 0 where
  pub home : Network
  pub node : Node
  pub at : Contains c.ports p → IsPort t c home p node
  pub is : o ≡ attached_port p home node

comes : (t : Topology) (c : Config) (p : Port) (o : LowObject) (n : Option Network) → network_named c p.network ≡ n
    → option_and_then (λ n. option_map (attached_port p n) (node_named t p.node)) n ≡ Some o → FromPort t c p o
comes t c p o None e h = cc
comes t c p o (Some n) e h =
    let home = named c p.network n e in
    let m = mapped_some (attached_port p n) (node_named t p.node) o h in
    let node = node_is t p.node m.0 m.1 in
    record {
      home = n;
      node = m.0;
      at = λ within. record { has_home = home.1; has_port = within; has_node = node.1; home_of = sym home.0; node_of = node.0 };
      is = sym m.2;
    }

pub from_port : (t : Topology) (c : Config) (p : Port) (o : LowObject) → port_object t c p ≡ Some o → FromPort t c p o
from_port t c p o h = comes t c p o (network_named c p.network) refl h

gives_port : (t : Topology) (c : Config) (n : Network) (p : Port) (d : Node) → IsValid t c → IsPort t c n p d
    → port_object t c p ≡ Some (attached_port p n d)
gives_port t c n p d v at =
    let home : network_named c p.network ≡ Some n = ((finds_network_named t c p.network v).some n).1 (at.has_home, sym at.home_of) in
    ap (λ (o : Option Network). option_and_then (λ n. option_map (attached_port p n) (node_named t p.node)) o) home
    ∙ ap (λ (o : Option Node). option_map (attached_port p n) o) (is_node t c p.node d v at.has_node at.node_of)

pub record FromCircuit (t : Topology) (k : Circuit) (o : LowObject) : Type 0 where
  pub node : Node
  pub at : IsCircuitAt t k node
  pub is : o ≡ attached_circuit k node

pub from_circuit : (t : Topology) (k : Circuit) (o : LowObject) → circuit_object t k ≡ Some o → FromCircuit t k o
from_circuit t k o h =
    let m = mapped_some (attached_circuit k) (node_named t k.service.node) o h in
    let node = node_is t k.service.node m.0 m.1 in
    record { node = m.0; at = record { has_node = node.1; node_of = node.0 }; is = sym m.2 }

gives_circuit : (t : Topology) (c : Config) (k : Circuit) (d : Node) → IsValid t c → IsCircuitAt t k d → circuit_object t k ≡ Some (attached_circuit k d)
gives_circuit t c k d v at = ap (λ (o : Option Node). option_map (attached_circuit k) o) (is_node t c k.service.node d v at.has_node at.node_of)

circuit_is : (t : Topology) (c : Config) (u : ConfiguredUse) (o : LowObject) → IsUse c u → Contains (circuit_objects t u) o → IsObject t c o
circuit_is t c u o used h =
    let g = given (circuit_object t) (left_circuits u ++ right_circuits u) o h in
    let f = from_circuit t g.0 o g.2 in
    elim (Contains-append_cases (left_circuits u) (right_circuits u) g.0 g.1) [
      | inl left ↦ let q = left_is u g.0 left in of_left_circuit u q.0 g.0 f.node used q.1 f.at f.is
      | inr right ↦ let q = right_is u g.0 right in of_right_circuit u q.0 g.0 f.node used q.1 f.at f.is
    ]

-- ---- access lists

pub around_is : (t : Topology) (c : Config) (a b : Network) → IsValid t c → Contains c.networks a → Contains (group_of c a) b
    → Contains c.networks b × ((a ≡ b) ⊎ AreRelated c a b)
around_is t c a b v in_a h =
    let k = kept_is (λ (m : Network). same_name m.name a.name || are_related c a m) c.networks b h in (
      k.0,
      elim ((around_test c a b).0 k.1) [
        | inl same ↦ inl (one_named t c a b v in_a k.0 (sym same))
        | inr related ↦ inr ((related_iff c a b).0 related)
      ],
    )

is_around : (c : Config) (a b : Network) → Contains c.networks b → (a ≡ b) ⊎ AreRelated c a b → Contains (group_of c a) b
is_around c a b in_b h =
    let around : IsAround c a b =
    elim h [ inl same ↦ inl (ap (λ (n : Network). n.name) (sym same)) | inr related ↦ inr ((related_iff c a b).1 related) ] in
    is_kept (λ (m : Network). same_name m.name a.name || are_related c a m) c.networks b in_b ((around_test c a b).1 around)

-- ---- uses

abbrev HasNode : Topology → Service → Type 0
HasNode t s = (d : Node) × (node_named t s.node ≡ Some d)

service_node : (t : Topology) (c : Config) (s : Service) → IsValid t c → Contains c.services s → HasNode t s
service_node t c s v h =
    let name : Contains (node_names t) s.node = All-contains (λ (x : Service). Contains (node_names t) x.node) c.services s v.references.services h in
    let d = mapped_is (λ (d : Node). d.name) t.nodes s.node name in
    (d.0, is_node t c s.node d.0 v d.1 d.2)

hops_are : (t : Topology) (ss : List Service) → ((s : Service) → Contains ss s → HasNode t s) → AllZip (IsHop t) ss (filter_map (hop_of t) ss)
hops_are t [] each = tt
hops_are t (s ∷ ss) each =
    let d = each s (contains_here s ss) in
    let node = node_is t s.node d.0 d.1 in
    let rest : List (ServiceNo × Addr) = filter_map (hop_of t) ss in
    let more = hops_are t ss (λ x inside. each x (contains_later x s ss inside)) in
    let hop : IsHop t s (s.id, d.0.address) = record { node = d.0; has_node = node.1; node_of = node.0; is = refl } in
    subst (λ (o : Option Node). AllZip (IsHop t) (s ∷ ss) (cons_option (option_map (λ (d : Node). (s.id, d.address)) o) rest)) (sym d.1) (hop, more)

are_hops : (t : Topology) (c : Config) (ss : List Service) (hops : List (ServiceNo × Addr)) → IsValid t c → AllZip (IsHop t) ss hops
    → filter_map (hop_of t) ss ≡ hops
are_hops t c [] [] v h = refl
are_hops t c [] (x ∷ xs) v h = absurd h
are_hops t c (s ∷ ss) [] v h = absurd h
are_hops t c (s ∷ ss) (x ∷ xs) v h =
    let d : Node = h.0.node in
    let found : node_named t s.node ≡ Some d = is_node t c s.node d v h.0.has_node h.0.node_of in
    let rest = are_hops t c ss xs v h.1 in
    ap (λ (o : Option Node). cons_option (option_map (λ (d : Node). (s.id, d.address)) o) (filter_map (hop_of t) ss)) found
    ∙ (λ i. sym h.0.is i ∷ rest i)

-- ---- all of them

abbrev pub instance_part : Config → List LowObject
instance_part c = map (instance_object c) c.networks

abbrev pub port_part : Topology → Config → List LowObject
port_part t c = filter_map (port_object t c) c.ports

abbrev pub circuit_part : Topology → Config → List LowObject
circuit_part t c = flat_map (circuit_objects t) (uses c)

abbrev pub acl_part : Config → List LowObject
acl_part c = flat_map (acl_objects c) c.networks

abbrev pub use_part : Topology → Config → List LowObject
use_part t c = map (use_object t) (uses c)

module _ (t : Topology) (c : Config) (v : IsValid t c) (o : LowObject) where
  instance_is : Contains (instance_part c) o → IsObject t c o
  instance_is h =
      let q = mapped_is (instance_object c) c.networks o h in
      of_network q.0 (imports_of c q.0) q.1 (are_imports t c q.0 v) (sym q.2)

  port_is : Contains (port_part t c) o → IsObject t c o
  port_is h =
      let g = given (port_object t c) c.ports o h in
      let f = from_port t c g.0 o g.2 in
      of_port f.home g.0 f.node (f.at g.1) f.is

  circuits_are : Contains (circuit_part t c) o → IsObject t c o
  circuits_are h = let q = joined_is (circuit_objects t) (uses c) o h in circuit_is t c q.0 o (use_is c q.0 q.1) q.2

  acl_is : Contains (acl_part c) o → IsObject t c o
  acl_is h =
      let a = joined_is (acl_objects c) c.networks o h in
      let b = mapped_is (acl_object c a.0) (group_of c a.0) o a.2 in
      let k = around_is t c a.0 b.0 v a.1 b.1 in
      of_networks a.0 b.0 a.1 k.0 k.1 (sym b.2)

  use_object_is : Contains (use_part t c) o → IsObject t c o
  use_object_is h =
      let u = mapped_is (use_object t) (uses c) o h in
      let used = use_is c u.0 u.1 in
      of_use u.0 (filter_map (hop_of t) u.0.services) used
      (hops_are t u.0.services (λ s inside. service_node t c s v (services_are c u.0 s used inside))) (sym u.2)

  pub object_is : Contains (objects t c) o → IsObject t c o
  object_is h =
      elim (Contains-append_cases (instance_part c) (port_part t c ++ (circuit_part t c ++ (acl_part c ++ use_part t c))) o h) [
        | inl instance ↦ instance_is instance
        | inr most ↦ elim (Contains-append_cases (port_part t c) (circuit_part t c ++ (acl_part c ++ use_part t c)) o most) [
          | inl port ↦ port_is port
          | inr more ↦ elim (Contains-append_cases (circuit_part t c) (acl_part c ++ use_part t c) o more) [
            | inl circuit ↦ circuits_are circuit
            | inr some ↦ elim (Contains-append_cases (acl_part c) (use_part t c) o some) [
              | inl acl ↦ acl_is acl
              | inr u ↦ use_object_is u
            ]
          ]
        ]
      ]

  after_instances : Contains (port_part t c ++ (circuit_part t c ++ (acl_part c ++ use_part t c))) o → Contains (objects t c) o
  after_instances h = Contains-append_right (instance_part c) (port_part t c ++ (circuit_part t c ++ (acl_part c ++ use_part t c))) o h

  after_ports : Contains (circuit_part t c ++ (acl_part c ++ use_part t c)) o → Contains (objects t c) o
  after_ports h = after_instances (Contains-append_right (port_part t c) (circuit_part t c ++ (acl_part c ++ use_part t c)) o h)

  after_circuits : Contains (acl_part c ++ use_part t c) o → Contains (objects t c) o
  after_circuits h = after_ports (Contains-append_right (circuit_part t c) (acl_part c ++ use_part t c) o h)

  in_instances : Contains (instance_part c) o → Contains (objects t c) o
  in_instances h = Contains-append_left (instance_part c) (port_part t c ++ (circuit_part t c ++ (acl_part c ++ use_part t c))) o h

  in_ports : Contains (port_part t c) o → Contains (objects t c) o
  in_ports h = after_instances (Contains-append_left (port_part t c) (circuit_part t c ++ (acl_part c ++ use_part t c)) o h)

  in_circuits : (u : ConfiguredUse) (k : Circuit) (d : Node) → IsUse c u → Contains (left_circuits u ++ right_circuits u) k → IsCircuitAt t k d
      → o ≡ attached_circuit k d → Contains (objects t c) o
  in_circuits u k d used inside at is =
      let of : Contains (circuit_objects t u) (attached_circuit k d) = gives (circuit_object t) (left_circuits u ++ right_circuits u) k (attached_circuit k d) inside (gives_circuit t c k d v at) in
      after_ports
      (Contains-append_left (circuit_part t c) (acl_part c ++ use_part t c) o
      (is_joined (circuit_objects t) (uses c) u o (is_use t c u v used) (subst (Contains (circuit_objects t u)) (sym is) of)))

  pub is_object : IsObject t c o → Contains (objects t c) o
  is_object (of_network n is in_n are e) =
      let same : o ≡ instance_object c n = e ∙ ap (λ (js : List InstanceId). (Key.Instance n.id.0, Value.Instance js)) (imports_are c n is are) in
      in_instances (subst (Contains (instance_part c)) (sym same) (is_mapped (instance_object c) c.networks n in_n))
  is_object (of_port n p d at e) =
      in_ports (subst (Contains (port_part t c)) (sym e) (gives (port_object t c) c.ports p (attached_port p n d) at.has_port (gives_port t c n p d v at)))
  is_object (of_left_circuit u j k d used left at e) =
      in_circuits u k d used (Contains-append_left (left_circuits u) (right_circuits u) k (is_left u j k left)) at e
  is_object (of_right_circuit u j k d used right at e) =
      in_circuits u k d used (Contains-append_right (left_circuits u) (right_circuits u) k (is_right u j k right)) at e
  is_object (of_networks a b in_a in_b around e) =
      let of : Contains (acl_objects c a) (acl_object c a b) = is_mapped (acl_object c a) (group_of c a) b (is_around c a b in_b around) in
      after_circuits
      (Contains-append_left (acl_part c) (use_part t c) o
      (is_joined (acl_objects c) c.networks a o in_a (subst (Contains (acl_objects c a)) (sym e) of)))
  is_object (of_use u hops used zip e) =
      let hops_is : filter_map (hop_of t) u.services ≡ hops = are_hops t c u.services hops v zip in
      let same : use_object t u ≡ o =
      ap (λ (hs : List (ServiceNo × Addr)). (Key.ChainUse u.number, Value.ChainUse u.left.id u.right.id (ascending u.left.subnets) (ascending u.right.subnets) hs)) hops_is
      ∙ sym e in
      after_circuits
      (Contains-append_right (acl_part c) (use_part t c) o
      (subst (Contains (use_part t c)) same (is_mapped (use_object t) (uses c) u (is_use t c u v used))))
