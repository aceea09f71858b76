-- What an edit of the written form makes has the written form.
use Rattle.std.proofs.Common.{◌≡◌, ℕ, zero, suc, ◌&&◌, nat_le, length, Bool, true, List, [], ◌∷◌, ◌++◌, Some, None, set, refl, ◌∙◌}
use Rattle.std.specs.List.{list_all, remove}
use Rattle.std.specs.Option.{option_map_or}
use Rattle.std.specs.Prelude.{IsTrue}
use Rattle.std.proofs.lemmas.Bool.{and_parts}
use Rattle.std.proofs.lemmas.List.Folds.{list_all-append}
use Rattle.config_types.specs.declared.config.Config.{Config}
use Rattle.config_types.specs.declared.edit.Edit.{Edit}
use Rattle.config_types.specs.declared.edit.Edit.TheVariants.{Put, Delete}
use Rattle.config_types.specs.declared.edit.Object.{Object}
use Rattle.config_types.specs.declared.edit.Object.TheVariants as Objects
use Rattle.config_types.specs.declared.edit.ObjectKind.{ObjectKind}
use Rattle.config_types.specs.declared.edit.ObjectKind.TheVariants as Kinds
use Rattle.config_types.specs.declared.topology.Node.{Node}
use Rattle.config_types.specs.declared.topology.Topology.{Topology}
use Rattle.config_types.specs.Form.{has_node_form, has_nodes_form, has_topology_form, is_as_number, has_controller_form, has_network_form, has_port_form, has_policy_form, has_service_form, has_chain_form, has_config_form}
use Rattle.config_types.specs.Form.{has_object_form, has_edit_form}
use Rattle.config_check.specs.Edits.{place_of, with_put, without, network_name, port_name, policy_name, service_name, chain_name, node_name, with_object, without_object, edited_config, edited_topology}

all_set : {A : Type 0} (p : A → Bool) (xs : List A) (i : ℕ) (x : A) → list_all p xs ≡ true → p x ≡ true → list_all p (set xs i x) ≡ true
all_set p [] i x all one = refl
all_set p (y ∷ ys) zero x all one = let parts = and_parts (p y) (list_all p ys) all in rw (one, parts.1) refl
all_set p (y ∷ ys) (suc i) x all one = let parts = and_parts (p y) (list_all p ys) all in rw (parts.0, all_set p ys i x parts.1 one) refl

all_removed : {A : Type 0} (p : A → Bool) (xs : List A) (i : ℕ) → list_all p xs ≡ true → list_all p (remove xs i) ≡ true
all_removed p [] zero all = refl
all_removed p [] (suc i) all = refl
all_removed p (y ∷ ys) zero all = (and_parts (p y) (list_all p ys) all).1
all_removed p (y ∷ ys) (suc i) all = let parts = and_parts (p y) (list_all p ys) all in rw (parts.0, all_removed p ys i parts.1) refl

all_put : {A : Type 0} (p : A → Bool) (name_of : A → List ℕ) (x : A) (xs : List A) → list_all p xs ≡ true → p x ≡ true → list_all p (with_put name_of x xs) ≡ true
all_put {A} p name_of x xs all one =
    elim (place_of name_of (name_of x) xs) as (λ place. list_all p (option_map_or (λ i. set xs i x) place (xs ++ x ∷ [])) ≡ true) [
      | None ↦ list_all-append p xs (x ∷ []) ∙ rw (all, one) refl
      | Some i ↦ all_set p xs i x all one
    ]

all_without : {A : Type 0} (p : A → Bool) (name_of : A → List ℕ) (name : List ℕ) (xs : List A) → list_all p xs ≡ true → list_all p (without name_of name xs) ≡ true
all_without {A} p name_of name xs all =
    elim (place_of name_of name xs) as (λ place. list_all p (option_map_or (λ i. remove xs i) place xs) ≡ true) [
      | None ↦ all
      | Some i ↦ all_removed p xs i all
    ]

-- the five lists of a configuration
record Parts (c : Config) : Type 0 where
  pub networks : list_all has_network_form c.networks ≡ true
  pub ports : list_all has_port_form c.ports ≡ true
  pub policies : list_all has_policy_form c.policies ≡ true
  pub services : list_all has_service_form c.services ≡ true
  pub chains : list_all has_chain_form c.chains ≡ true

parts_of : (c : Config) → has_config_form c ≡ true → Parts c
unfolding has_config_form
parts_of c form =
    let n : Bool = list_all has_network_form c.networks in
    let p : Bool = list_all has_port_form c.ports in
    let q : Bool = list_all has_policy_form c.policies in
    let s : Bool = list_all has_service_form c.services in
    let d : Bool = list_all has_chain_form c.chains in
    let four = and_parts (n && p && q && s) d form in
    let three = and_parts (n && p && q) s four.0 in
    let two = and_parts (n && p) q three.0 in
    let one = and_parts n p two.0 in
    record { networks = one.0; ports = one.1; policies = two.1; services = three.1; chains = four.1 }

whole_of : (c : Config) → Parts c → has_config_form c ≡ true
unfolding has_config_form
whole_of c parts = rw (parts.networks, parts.ports, parts.policies, parts.services, parts.chains) refl

put_kept : (x : Object) (c : Config) → has_object_form x ≡ true → Parts c → Parts (with_object x c)
put_kept (Objects.Network x) c one parts = record { networks = all_put has_network_form network_name x c.networks parts.networks one; ports = parts.ports; policies = parts.policies; services = parts.services; chains = parts.chains }
put_kept (Objects.Port x) c one parts = record { networks = parts.networks; ports = all_put has_port_form port_name x c.ports parts.ports one; policies = parts.policies; services = parts.services; chains = parts.chains }
put_kept (Objects.Policy x) c one parts = record { networks = parts.networks; ports = parts.ports; policies = all_put has_policy_form policy_name x c.policies parts.policies one; services = parts.services; chains = parts.chains }
put_kept (Objects.Service x) c one parts = record { networks = parts.networks; ports = parts.ports; policies = parts.policies; services = all_put has_service_form service_name x c.services parts.services one; chains = parts.chains }
put_kept (Objects.Chain x) c one parts = record { networks = parts.networks; ports = parts.ports; policies = parts.policies; services = parts.services; chains = all_put has_chain_form chain_name x c.chains parts.chains one }
put_kept (Objects.Node x) c one parts = parts

delete_kept : (kind : ObjectKind) (name : List ℕ) (c : Config) → Parts c → Parts (without_object kind name c)
delete_kept Kinds.Network name c parts = record { networks = all_without has_network_form network_name name c.networks parts.networks; ports = parts.ports; policies = parts.policies; services = parts.services; chains = parts.chains }
delete_kept Kinds.Port name c parts = record { networks = parts.networks; ports = all_without has_port_form port_name name c.ports parts.ports; policies = parts.policies; services = parts.services; chains = parts.chains }
delete_kept Kinds.Policy name c parts = record { networks = parts.networks; ports = parts.ports; policies = all_without has_policy_form policy_name name c.policies parts.policies; services = parts.services; chains = parts.chains }
delete_kept Kinds.Service name c parts = record { networks = parts.networks; ports = parts.ports; policies = parts.policies; services = all_without has_service_form service_name name c.services parts.services; chains = parts.chains }
delete_kept Kinds.Chain name c parts = record { networks = parts.networks; ports = parts.ports; policies = parts.policies; services = parts.services; chains = all_without has_chain_form chain_name name c.chains parts.chains }
delete_kept Kinds.Node name c parts = parts

pub form_is_kept : (e : Edit) (c : Config) → IsTrue (has_edit_form e) → IsTrue (has_config_form c) → IsTrue (has_config_form (edited_config e c))
unfolding edited_config has_edit_form
form_is_kept (Put x) c one form = whole_of (with_object x c) (put_kept x c one (parts_of c form))
form_is_kept (Delete kind name) c one form = whole_of (without_object kind name c) (delete_kept kind name c (parts_of c form))

-- the compute nodes of an edited topology
nodes_kept : (t : Topology) (p : List Node → List Node) → (list_all has_node_form t.nodes ≡ true → list_all has_node_form (p t.nodes) ≡ true) → has_nodes_form t ≡ true → has_nodes_form (record t { nodes = p t.nodes }) ≡ true
nodes_kept t p kept form =
    let before : Bool = is_as_number t.asn && list_all has_controller_form t.controllers && nat_le 1 (length t.controllers) in
    let parts = and_parts before (list_all has_node_form t.nodes) form in
    rw (parts.0, kept parts.1) refl

any_nodes : (t : Topology) → has_topology_form t ≡ true → has_nodes_form t ≡ true
unfolding has_topology_form
any_nodes t form = (and_parts (has_nodes_form t) (nat_le 1 (length t.nodes)) form).0

pub nodes_form_is_kept : (e : Edit) (t : Topology) → IsTrue (has_edit_form e) → IsTrue (has_topology_form t) → IsTrue (has_nodes_form (edited_topology e t))
unfolding edited_topology has_edit_form
nodes_form_is_kept (Put (Objects.Node x)) t one form = nodes_kept t (with_put node_name x) (λ all. all_put has_node_form node_name x t.nodes all one) (any_nodes t form)
nodes_form_is_kept (Delete Kinds.Node name) t one form = nodes_kept t (without node_name name) (λ all. all_without has_node_form node_name name t.nodes all) (any_nodes t form)
nodes_form_is_kept (Put (Objects.Network x)) t one form = any_nodes t form
nodes_form_is_kept (Put (Objects.Port x)) t one form = any_nodes t form
nodes_form_is_kept (Put (Objects.Policy x)) t one form = any_nodes t form
nodes_form_is_kept (Put (Objects.Service x)) t one form = any_nodes t form
nodes_form_is_kept (Put (Objects.Chain x)) t one form = any_nodes t form
nodes_form_is_kept (Delete Kinds.Network name) t one form = any_nodes t form
nodes_form_is_kept (Delete Kinds.Port name) t one form = any_nodes t form
nodes_form_is_kept (Delete Kinds.Policy name) t one form = any_nodes t form
nodes_form_is_kept (Delete Kinds.Service name) t one form = any_nodes t form
nodes_form_is_kept (Delete Kinds.Chain name) t one form = any_nodes t form
