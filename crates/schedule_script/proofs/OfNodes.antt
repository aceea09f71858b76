-- What a topology ties is what it has: the names and the addresses of its compute nodes.
use Rattle.std.proofs.Common.{◌≡◌, ◌≢◌, ◌↔◌, ◌==◌, ℕ, Bool, true, false, cond, List, [], ◌∷◌, Option, Some, None, ap, refl, sym, ◌∙◌}
use Rattle.std.specs.List.{Contains}
use Rattle.std.specs.Option.{option_map}
use Rattle.std.specs.Prelude.{find, map}
use Rattle.std.proofs.lemmas.Bool.{eq-eqb, eqb-true}
use Rattle.std.proofs.lemmas.List.Elements.{All-contains}
use Rattle.ov_types.specs.First.{first_of, same_name, ◌<|>◌}
use Rattle.ov_types.specs.declared.prefix.Addr.{Addr}
use Rattle.ov_types.proofs.FirstLemmas.{contains_at, first_of_none}
use Rattle.policy_rules.proofs.Taking.{first_answer}
use Rattle.config_types.specs.declared.config.Config.{Config}
use Rattle.config_types.specs.declared.topology.Node.{Node}
use Rattle.config_types.specs.declared.topology.Topology.{Topology}
use Rattle.config_check.specs.Finding.{node_named}
use Rattle.config_check.specs.Sentences.{IsValid}
use Rattle.config_check.proofs.Finders.{back_pairs, finds_node_named}
use Rattle.schedule_script.specs.Kept.{address_by}
use Rattle.schedule_script.specs.Ties.{HasNode}
use Rattle.schedule_script.specs.Tying.{name_by, node_address, node_name}
use Rattle.schedule_script.proofs.Lists.{one_of_numbers}

never : {A : Type 0} (x : A) → None ≡ Some x → ⊥
never x e = cc

is_same : {A : Type 0} (x y : A) → Some x ≡ Some y → x ≡ y
is_same x y e = cc

-- an address is its number
pub same_address : (a b : Addr) → a.0 ≡ b.0 → a ≡ b
same_address a b e = λ k. record { 0 = e k }

-- ---- the address of the first of a name
pub first_address : (t : Topology) (name : List ℕ) → first_of (address_by name) t.nodes ≡ node_address t name
first_address t name = by_nodes t.nodes
  where
    by_nodes : (ns : List Node) → first_of (address_by name) ns ≡ option_map (λ (n : Node). n.address) (find (λ (n : Node). same_name n.name name) ns)
    by_nodes [] = refl
    by_nodes (n ∷ ns) =
        elim (same_name n.name name) as (λ b. (cond b (Some n.address) None <|> first_of (address_by name) ns) ≡ option_map (λ (n : Node). n.address) (cond b (Some n) (find (λ (n : Node). same_name n.name name) ns))) [
          | true ↦ refl
          | false ↦ by_nodes ns
        ]

module _ (t : Topology) (c : Config) (v : IsValid t c) where
  -- ---- addresses of names
  has_address : (name : List ℕ) (a : Addr) → node_address t name ≡ Some a → HasNode t name a
  has_address name a e = by_found (node_named t name) refl e
    where
      by_found : (o : Option Node) → node_named t name ≡ o → option_map (λ (n : Node). n.address) o ≡ Some a → HasNode t name a
      by_found None is h = absurd (never a h)
      by_found (Some n) is h =
          let f = ((finds_node_named t c name v).some n).0 is in
          record { node = n; has_node = f.0; name_is = f.1; address_is = is_same n.address a h }

  address_is : (name : List ℕ) (a : Addr) → HasNode t name a → node_address t name ≡ Some a
  address_is name a h =
      ap (λ (o : Option Node). option_map (λ (n : Node). n.address) o) (((finds_node_named t c name v).some h.node).1 (h.has_node, h.name_is))
      ∙ ap Some h.address_is

  pub address_iff : (name : List ℕ) (a : Addr) → (node_address t name ≡ Some a) ↔ HasNode t name a
  address_iff name a = (has_address name a, address_is name a)

  -- ---- names at addresses
  abbrev number_of : Node → ℕ
  number_of n = n.address.0

  of_item : (n : Node) (name : List ℕ) (a : Addr) → name_by a n ≡ Some name → (n.address.0 ≡ a.0) × (n.name ≡ name)
  of_item n name a e =
      elim (n.address.0 == a.0) as (λ b. (n.address.0 == a.0) ≡ b → cond b (Some n.name) None ≡ Some name → (n.address.0 ≡ a.0) × (n.name ≡ name)) [
        | true ↦ λ is e. (eqb-true n.address.0 a.0 is, is_same n.name name e)
        | false ↦ λ is e. absurd (never name e)
      ] refl e

  gives : (name : List ℕ) (a : Addr) (h : HasNode t name a) → name_by a h.node ≡ Some name
  gives name a h =
      ap (λ b. cond b (Some h.node.name) None) (eq-eqb h.node.address.0 a.0 (ap (λ (a : Addr). a.0) h.address_is)) ∙ ap Some h.name_is

  has_name : (name : List ℕ) (a : Addr) → node_name t a ≡ Some name → HasNode t name a
  has_name name a e =
      let f = first_answer (name_by a) t.nodes name e in
      let is = of_item f.item name a f.gives in
      record { node = f.item; has_node = contains_at t.nodes f.place f.item f.there; name_is = is.1; address_is = same_address f.item.address a is.0 }

  name_of : (name : List ℕ) (a : Addr) → HasNode t name a → node_name t a ≡ Some name
  name_of name a h = by_answer (node_name t a) refl
    where
      by_answer : (o : Option (List ℕ)) → node_name t a ≡ o → node_name t a ≡ Some name
      by_answer None e = absurd (never name (sym (All-contains (λ (n : Node). name_by a n ≡ None) t.nodes h.node ((first_of_none (name_by a) t.nodes).0 e) h.has_node) ∙ gives name a h))
      by_answer (Some m) e =
          let k = has_name m a e in
          let same = one_of_numbers number_of t.nodes (back_pairs (λ a b. a ≢ b) (map (λ n. n.address.0) t.controllers) (map number_of t.nodes) v.numbers.addresses) k.node h.node k.has_node h.has_node (ap (λ (a : Addr). a.0) (k.address_is ∙ sym h.address_is)) in
          e ∙ ap Some (sym k.name_is ∙ ap (λ (n : Node). n.name) same ∙ h.name_is)

  pub name_iff : (name : List ℕ) (a : Addr) → (node_name t a ≡ Some name) ↔ HasNode t name a
  name_iff name a = (has_name name a, name_of name a)
