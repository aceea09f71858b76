-- The names of a topology of the written form tell its nodes apart, and each compute node lists control nodes.
use Rattle.std.specs.List.{All, Contains, list_all}
use Rattle.std.specs.Prelude.{Bool, IsTrue, List, length, nat_le, not, true, ℕ, [], ◌&&◌, ◌++◌, ◌∷◌, ◌≡◌, ◌≢◌}
use Rattle.std.proofs.Common.{ap, arith, inl, inr, refl, subst, sym, ◌∙◌}
use Rattle.std.proofs.lemmas.Bool.{and_parts, not-true, true≢false}
use Rattle.std.proofs.lemmas.List.Elements.{All-contains}
use Rattle.std.proofs.lemmas.List.Kept.{AllPairs-cons}
use Rattle.ov_types.specs.First.{same_name}
use Rattle.ov_types.specs.Name.{is_name}
use Rattle.ov_types.specs.declared.rows.NodeId.{NodeId}
use Rattle.ov_types.proofs.FirstLemmas.{all_cons, same_name_self}
use Rattle.config_types.specs.Form.{has_controller_form, has_node_form, has_topology_form, is_as_number, is_from_to, is_node_address, is_node_name}
use Rattle.config_types.specs.declared.config.Config.{Config}
use Rattle.config_types.specs.declared.topology.Node.{Node}
use Rattle.config_types.specs.declared.topology.Topology.{Topology}
use Rattle.schedule_script.specs.ConfigCheck.Rules.{controller_names, node_names}
use Rattle.schedule_script.specs.ConfigCheck.Sentences.{IsValid}
use Rattle.node_laws.specs.NodeModel.Members.{Member}
use Rattle.node_laws.proofs.NodeModel.Members.{from_map, in_either, contains_of, member_of}
use Rattle.machine_model.specs.Network.{AreNamed, config}
use Rattle.machine_model.specs.Setup.{Name}
use Rattle.machine_laws.specs.Setups.{IsNamed}

all_true : {A : Type 0} (p : A → Bool) (xs : List A) (y : A) → list_all p xs ≡ true → Member y xs → p y ≡ true
all_true p [] y h m = absurd m
all_true p (x ∷ xs) y h (inl e) = ap p (sym e) ∙ (and_parts (p x) (list_all p xs) h).0
all_true p (x ∷ xs) y h (inr m) = all_true p xs y (and_parts (p x) (list_all p xs) h).1 m

forms : (t : Topology) → IsTrue (has_topology_form t) → (list_all has_controller_form t.controllers ≡ true) × (list_all has_node_form t.nodes ≡ true)
unfolding has_topology_form
forms t h =
    let a = is_as_number t.asn in
    let b = list_all has_controller_form t.controllers in
    let c = nat_le 1 (length t.controllers) in
    let d = list_all has_node_form t.nodes in
    let abcd = (and_parts (a && b && c && d) (nat_le 1 (length t.nodes)) h).0 in
    let abc = and_parts (a && b && c) d abcd in
    let ab = and_parts (a && b) c abc.0 in
    ((and_parts a b ab.0).1, abc.1)

not_config : (name : List ℕ) → is_node_name name ≡ true → config ≡ name → ⊥
not_config name h e =
    true≢false (sym (same_name_self config) ∙ ap (λ (n : List ℕ). same_name n config) e ∙ not-true (same_name name config) (and_parts (is_name name) (not (same_name name config)) h).1)

controller_name : (n : NodeId) → has_controller_form n ≡ true → is_node_name n.name ≡ true
unfolding has_controller_form
controller_name n h = (and_parts (is_node_name n.name) (is_node_address n.address.0) h).0

node_parts : (n : Node) → has_node_form n ≡ true → (is_node_name n.name ≡ true) × (is_from_to 1 2 (length n.controllers) ≡ true)
unfolding has_node_form
node_parts n h =
    let a = is_node_name n.name in
    let b = is_node_address n.address.0 in
    let c = list_all is_name n.controllers in
    let abc = and_parts (a && b && c) (is_from_to 1 2 (length n.controllers)) h in
    let ab = and_parts (a && b) c abc.0 in
    ((and_parts a b ab.0).0, abc.1)

some_first : (ns : List Name) → is_from_to 1 2 (length ns) ≡ true → (m : Name) × (rest : List Name) × (ns ≡ m ∷ rest)
some_first [] h = absurd (true≢false (sym (and_parts (nat_le 1 0) (nat_le 0 2) h).0))
some_first (m ∷ ns) h = (m, ns, refl)

module _ (t : Topology) (c : Config) (form : IsTrue (has_topology_form t)) (v : IsValid t c) where
  not_name : (m : Name) → Member m (controller_names t ++ node_names t) → config ≡ m → ⊥
  not_name m i e =
      elim (in_either m (controller_names t) (node_names t) i) as (λ _. ⊥) [
        | inl l ↦
            let q = from_map (λ (n : NodeId). n.name) m t.controllers l in
            not_config m (subst (λ (m : Name). is_node_name m ≡ true) q.2 (controller_name q.0 (all_true has_controller_form t.controllers q.0 (forms t form).0 q.1))) e
        | inr l ↦
            let q = from_map (λ (n : Node). n.name) m t.nodes l in
            not_config m (subst (λ (m : Name). is_node_name m ≡ true) q.2 (node_parts q.0 (all_true has_node_form t.nodes q.0 (forms t form).1 q.1)).0) e
      ]

  distinct : AreNamed t
  distinct = AllPairs-cons (λ a b. a ≢ b) config (controller_names t ++ node_names t) (all_members (λ b. config ≢ b) (controller_names t ++ node_names t) (λ m i e. not_name m i e)) v.names.nodes
    where
      all_members : (P : Name → Type 0) (ns : List Name) → ((m : Name) → Member m ns → P m) → All P ns
      all_members P [] h = λ k d lt. absurd (omega (arith, lt))
      all_members P (n ∷ ns) h = all_cons P n ns (h n (inl refl)) (all_members P ns (λ m i. h m (inr i)))

  pub is_named : IsNamed t
  is_named = record {
    apart = distinct;
    lists = λ n m. some_first n.controllers (node_parts n (all_true has_node_form t.nodes n (forms t form).1 m)).1;
    listed = λ n m i j.
        let all = All-contains (λ (n : Node). All (Contains (controller_names t)) n.controllers) t.nodes n v.references.controllers (contains_of t.nodes n i) in
        member_of (controller_names t) m (All-contains (Contains (controller_names t)) n.controllers m all (contains_of n.controllers m j));
  }
