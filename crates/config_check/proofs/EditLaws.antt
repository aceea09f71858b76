-- What an edit does to the list of its kind.
use Rattle.std.proofs.Common.{◌≡◌, ◌≢◌, ℕ, suc, ◌<◌, Bool, false, ltb, List, [], ◌∷◌, ◌++◌, length, map, take, drop, set, get_or, Option, Some, None, is_some, refl, sym, subst, ap, ◌∙◌, arith, add-one, drop-cons, length-take-le, inl, inr}
use Rattle.std.specs.Prelude.{◌⊎◌, ◌↔◌, if◌then◌else◌}
use Rattle.std.specs.List.{All, remove, position_or_len}
use Rattle.std.specs.Option.{option_map_or}
use Rattle.std.specs.Cmp.Lexicographic.{same_text, other_text}
use Rattle.std.proofs.lemmas.Bool.{cases_Bool, ltb-false}
use Rattle.std.proofs.lemmas.List.{take-append-drop, take-set, drop-set, get_or-take}
use Rattle.std.proofs.lemmas.List.Sums.{fails_before_first}
use Rattle.std.proofs.lemmas.List.Quantifiers.{position-Some}
use Rattle.std.proofs.lemmas.List.Elements.{All-append}
use Rattle.ov_types.specs.First.{same_name}
use Rattle.ov_types.proofs.FirstLemmas.{all_head, all_tail, all_cons, pairs_head, pairs_tail}
use Rattle.config_types.specs.declared.edit.Object.TheVariants as Objects
use Rattle.config_types.specs.declared.edit.ObjectKind.TheVariants as Kinds
use Rattle.config_check.specs.Sentences.{AreDistinct}
use Rattle.config_check.specs.Edits.{place_of, with_put, without, network_name, port_name, policy_name, service_name, chain_name, node_name, edited_config, edited_topology, missing_name}
use Rattle.config_check.specs.EditLaws.{Replaces, Appends, Removes, PutIs, DeleteIs, MissingIs, networks_of, ports_of, policies_of, services_of, chains_of, with_networks, with_ports, with_policies, with_services, with_chains, nodes_of, with_nodes}

-- a list with its item at a place apart
splits : {A : Type 0} (xs : List A) (i : ℕ) (d : A) → i < length xs → xs ≡ take i xs ++ get_or xs i d ∷ drop (suc i) xs
splits {A} xs i d lt = sym (take-append-drop i xs) ∙ ap (λ (ys : List A). take i xs ++ ys) (drop-cons xs i d lt)

set_splits : {A : Type 0} (xs : List A) (i : ℕ) (x : A) → i < length xs → set xs i x ≡ take i xs ++ x ∷ drop (suc i) xs
set_splits {A} xs i x lt =
    let front : take i (set xs i x) ≡ take i xs = take-set xs i x in
    let back : drop i (set xs i x) ≡ x ∷ drop (suc i) xs = rw (← add-one) (drop-set xs i x lt) in
    sym (take-append-drop i (set xs i x)) ∙ ap (λ (ys : List A). ys ++ drop i (set xs i x)) front ∙ ap (λ (ys : List A). take i xs ++ ys) back

abbrev is_named : {A : Type 0} → (A → List ℕ) → List ℕ → A → Bool
is_named name_of name x = same_name (name_of x) name

-- of those before the place of a name, none has it
record Found {A : Type 0} (name_of : A → List ℕ) (name : List ℕ) (xs : List A) (i : ℕ) (d : A) : Type 0 where
  within : i < length xs
  named : name_of (get_or xs i d) ≡ name
  first : All (λ y. name_of y ≢ name) (take i xs)

unnamed : {A : Type 0} (name_of : A → List ℕ) (name : List ℕ) (x : A) → is_named name_of name x ≡ false → name_of x ≢ name
unnamed name_of name x h = other_text (name_of x) name (sym h)

found : {A : Type 0} (name_of : A → List ℕ) (name : List ℕ) (xs : List A) (i : ℕ) (d : A) → place_of name_of name xs ≡ Some i → Found name_of name xs i d
found {A} name_of name xs i d at =
    let here = position-Some (is_named name_of name) xs i d at in
    let size : length (take i xs) ≡ i = length-take-le i xs (omega (arith, here.0)) in
    record {
      within = here.0;
      named = same_text (name_of (get_or xs i d)) name (sym here.1);
      first = λ k e lt.
          let below : k < i = omega (arith, size, lt) in
          subst (λ (y : A). name_of y ≢ name) (sym (get_or-take i xs k e below)) (unnamed name_of name (get_or xs k e) ((position-Some (is_named name_of name) xs i e at).2 k below));
    }

-- those after one of a name have other names, where names are distinct
others_after : {A : Type 0} (name_of : A → List ℕ) (before : List A) (z : A) (after : List A) → AreDistinct (map name_of (before ++ z ∷ after)) → All (λ y. name_of y ≢ name_of z) after
others_after {A} name_of [] z after h = by after (pairs_head (λ a b. a ≢ b) (name_of z) (map name_of after) h)
  where
    by : (ys : List A) → All (λ n. name_of z ≢ n) (map name_of ys) → All (λ y. name_of y ≢ name_of z) ys
    by [] all = λ k d lt. absurd (omega arith)
    by (y ∷ ys) all = all_cons (λ u. name_of u ≢ name_of z) y ys (λ e. all_head (λ n. name_of z ≢ n) (name_of y) (map name_of ys) all (sym e)) (by ys (all_tail (λ n. name_of z ≢ n) (name_of y) (map name_of ys) all))
others_after {A} name_of (b ∷ bs) z after h = others_after name_of bs z after (pairs_tail (λ a b'. a ≢ b') (name_of b) (map name_of (bs ++ z ∷ after)) h)

-- all but one of a name have other names, where names are distinct
others_are : {A : Type 0} (name_of : A → List ℕ) (name : List ℕ) (xs : List A) (i : ℕ) (d : A) → Found name_of name xs i d
    → AreDistinct (map name_of xs) → All (λ y. name_of y ≢ name) (take i xs ++ drop (suc i) xs)
others_are {A} name_of name xs i d f distinct =
    let apart : AreDistinct (map name_of (take i xs ++ get_or xs i d ∷ drop (suc i) xs)) = subst (λ (ys : List A). AreDistinct (map name_of ys)) (splits xs i d f.within) distinct in
    let later : All (λ y. name_of y ≢ name) (drop (suc i) xs) = subst (λ (n : List ℕ). All (λ y. name_of y ≢ n) (drop (suc i) xs)) f.named (others_after name_of (take i xs) (get_or xs i d) (drop (suc i) xs) apart) in
    All-append (λ y. name_of y ≢ name) (take i xs) (drop (suc i) xs) f.first later

-- none has a name that has no place
none_named : {A : Type 0} (name_of : A → List ℕ) (name : List ℕ) (xs : List A) → place_of name_of name xs ≡ None → All (λ y. name_of y ≢ name) xs
none_named {A} name_of name xs at = λ k d lt.
    let p : A → Bool = is_named name_of name in
    elim (cases_Bool (ltb (position_or_len p xs) (length xs))) [
      | inl e ↦ let never : Some (position_or_len p xs) ≡ None = rw e at at in absurd (cc)
      | inr e ↦ unnamed name_of name (get_or xs k d) (fails_before_first p xs k d (omega (arith, lt, ltb-false (position_or_len p xs) (length xs) e)))
    ]

-- a name that none has has no place
no_place : {A : Type 0} (name_of : A → List ℕ) (name : List ℕ) (xs : List A) → All (λ y. name_of y ≢ name) xs → place_of name_of name xs ≡ None
no_place name_of name [] all = refl
no_place {A} name_of name (y ∷ ys) all = by (place_of name_of name (y ∷ ys)) refl
  where
    by : (o : Option ℕ) → place_of name_of name (y ∷ ys) ≡ o → place_of name_of name (y ∷ ys) ≡ None
    by None at = at
    by (Some i) at = let f = found name_of name (y ∷ ys) i y at in absurd (all i y f.within f.named)

puts : {A : Type 0} (name_of : A → List ℕ) (x : A) (xs : List A) → Replaces name_of x xs (with_put name_of x xs) ⊎ Appends name_of x xs (with_put name_of x xs)
puts {A} name_of x xs = by (place_of name_of (name_of x) xs) refl
  where
    by : (o : Option ℕ) → place_of name_of (name_of x) xs ≡ o
        → Replaces name_of x xs (option_map_or (λ i. set xs i x) o (xs ++ x ∷ [])) ⊎ Appends name_of x xs (option_map_or (λ i. set xs i x) o (xs ++ x ∷ []))
    by None at = inr (record { is = refl; fresh = none_named name_of (name_of x) xs at })
    by (Some i) at =
        let f = found name_of (name_of x) xs i x at in
        inl (record {
          before = take i xs;
          replaced = get_or xs i x;
          after = drop (suc i) xs;
          was = splits xs i x f.within;
          is = set_splits xs i x f.within;
          named = f.named;
          others = others_are name_of (name_of x) xs i x f;
        })

abbrev missing_in : {A : Type 0} → (A → List ℕ) → List ℕ → List A → Option (List ℕ)
missing_in name_of name xs = if is_some (place_of name_of name xs) then None else Some name

removes : {A : Type 0} (name_of : A → List ℕ) (name : List ℕ) (xs : List A) → missing_in name_of name xs ≡ None → Removes name_of name xs (without name_of name xs)
removes name_of name [] h = absurd (cc)
removes {A} name_of name (y ∷ ys) h = by (place_of name_of name (y ∷ ys)) refl h
  where
    by : (o : Option ℕ) → place_of name_of name (y ∷ ys) ≡ o → (if is_some o then None else Some name) ≡ None
        → Removes name_of name (y ∷ ys) (option_map_or (λ i. remove (y ∷ ys) i) o (y ∷ ys))
    by None at none = absurd (cc)
    by (Some i) at none =
        let f = found name_of name (y ∷ ys) i y at in
        record {
          before = take i (y ∷ ys);
          removed = get_or (y ∷ ys) i y;
          after = drop (suc i) (y ∷ ys);
          was = splits (y ∷ ys) i y f.within;
          is = refl;
          named = f.named;
          others = others_are name_of name (y ∷ ys) i y f;
        }

missing_iff : {A : Type 0} (name_of : A → List ℕ) (name : List ℕ) (xs : List A) → (missing_in name_of name xs ≢ None) ↔ All (λ y. name_of y ≢ name) xs
missing_iff {A} name_of name xs = (by (place_of name_of name xs) refl, λ all none. never (no_place name_of name xs all) none)
  where
    by : (o : Option ℕ) → place_of name_of name xs ≡ o → ((if is_some o then None else Some name) ≢ None) → All (λ y. name_of y ≢ name) xs
    by None at h = none_named name_of name xs at
    by (Some i) at h = absurd (h refl)

    never : place_of name_of name xs ≡ None → missing_in name_of name xs ≡ None → ⊥
    never at none = let one : Some name ≡ None = rw at at none in cc

pub network_put : PutIs network_name (λ x. Objects.Network x) networks_of with_networks
unfolding edited_config edited_topology
network_put x v = (with_put network_name x v.config.networks, puts network_name x v.config.networks, refl)

pub port_put : PutIs port_name (λ x. Objects.Port x) ports_of with_ports
unfolding edited_config edited_topology
port_put x v = (with_put port_name x v.config.ports, puts port_name x v.config.ports, refl)

pub policy_put : PutIs policy_name (λ x. Objects.Policy x) policies_of with_policies
unfolding edited_config edited_topology
policy_put x v = (with_put policy_name x v.config.policies, puts policy_name x v.config.policies, refl)

pub service_put : PutIs service_name (λ x. Objects.Service x) services_of with_services
unfolding edited_config edited_topology
service_put x v = (with_put service_name x v.config.services, puts service_name x v.config.services, refl)

pub chain_put : PutIs chain_name (λ x. Objects.Chain x) chains_of with_chains
unfolding edited_config edited_topology
chain_put x v = (with_put chain_name x v.config.chains, puts chain_name x v.config.chains, refl)

pub node_put : PutIs node_name (λ x. Objects.Node x) nodes_of with_nodes
unfolding edited_config edited_topology
node_put x v = (with_put node_name x v.topology.nodes, puts node_name x v.topology.nodes, refl)

pub network_deleted : DeleteIs network_name Kinds.Network networks_of with_networks
unfolding edited_config edited_topology missing_name
network_deleted name v h = (without network_name name v.config.networks, removes network_name name v.config.networks h, refl)

pub port_deleted : DeleteIs port_name Kinds.Port ports_of with_ports
unfolding edited_config edited_topology missing_name
port_deleted name v h = (without port_name name v.config.ports, removes port_name name v.config.ports h, refl)

pub policy_deleted : DeleteIs policy_name Kinds.Policy policies_of with_policies
unfolding edited_config edited_topology missing_name
policy_deleted name v h = (without policy_name name v.config.policies, removes policy_name name v.config.policies h, refl)

pub service_deleted : DeleteIs service_name Kinds.Service services_of with_services
unfolding edited_config edited_topology missing_name
service_deleted name v h = (without service_name name v.config.services, removes service_name name v.config.services h, refl)

pub chain_deleted : DeleteIs chain_name Kinds.Chain chains_of with_chains
unfolding edited_config edited_topology missing_name
chain_deleted name v h = (without chain_name name v.config.chains, removes chain_name name v.config.chains h, refl)

pub node_deleted : DeleteIs node_name Kinds.Node nodes_of with_nodes
unfolding edited_config edited_topology missing_name
node_deleted name v h = (without node_name name v.topology.nodes, removes node_name name v.topology.nodes h, refl)

pub network_missing : MissingIs network_name Kinds.Network networks_of
unfolding missing_name
network_missing name v = missing_iff network_name name v.config.networks

pub port_missing : MissingIs port_name Kinds.Port ports_of
unfolding missing_name
port_missing name v = missing_iff port_name name v.config.ports

pub policy_missing : MissingIs policy_name Kinds.Policy policies_of
unfolding missing_name
policy_missing name v = missing_iff policy_name name v.config.policies

pub service_missing : MissingIs service_name Kinds.Service services_of
unfolding missing_name
service_missing name v = missing_iff service_name name v.config.services

pub chain_missing : MissingIs chain_name Kinds.Chain chains_of
unfolding missing_name
chain_missing name v = missing_iff chain_name name v.config.chains

pub node_missing : MissingIs node_name Kinds.Node nodes_of
unfolding missing_name
node_missing name v = missing_iff node_name name v.topology.nodes
