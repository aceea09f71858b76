-- Which edits are hitless, by the kinds.
use Rattle.std.proofs.Common.{◌≡◌, ◌≢◌, inl, inr, ℕ, ◌&&◌, ◌||◌, Bool, true, false, IsTrue, List, None, flat_map, map, option_map, refl, sym, ap, subst}
use Rattle.std.specs.List.{All, Contains, filter}
use Rattle.std.proofs.lemmas.List.Elements.{All-contains}
use Rattle.ov_types.proofs.FirstLemmas.{both_none, mapped_none}
use Rattle.config_types.specs.Form.{has_edit_form}
use Rattle.config_types.specs.declared.config.Network.{Network}
use Rattle.config_types.specs.declared.config.Policy.{Policy}
use Rattle.config_types.specs.declared.edit.Edit.{Edit}
use Rattle.config_types.specs.declared.edit.Edit.TheVariants.{Put, Delete}
use Rattle.config_types.specs.declared.edit.Object.{Object}
use Rattle.config_types.specs.declared.edit.Object.TheVariants as Objects
use Rattle.config_types.specs.declared.edit.ObjectKind.{ObjectKind}
use Rattle.config_types.specs.declared.edit.ObjectKind.TheVariants as Kinds
use Rattle.policy_rules.specs.Related.{attaches, by_sequence, fits, numbered_rules}
use Rattle.policy_rules.specs.declared.numbered.NumberedRule.{NumberedRule}
use Rattle.policy_rules.proofs.Lists.{mapped_is}
use Rattle.policy_rules.proofs.Standing.{attaches_iff}
use Rattle.config_check.specs.Checked.{Checked}
use Rattle.config_check.specs.Edits.{chain_name, edit_fault, edited, edited_config, edited_topology, missing_name, network_name, node_name, policy_name, port_name, service_name}
use Rattle.config_check.specs.declared.edits.EditFault.TheVariants.{Missing, Rule}
use Rattle.config_check.specs.EditLaws.{DeleteIs, PutIs, chains_of, networks_of, nodes_of, policies_of, ports_of, services_of}
use Rattle.config_check.specs.EditLaws.{with_chains, with_networks, with_nodes, with_policies, with_ports, with_services}
use Rattle.config_check.specs.Rules.{controller_names, first_broken, policy_names}
use Rattle.config_check.specs.Sentences.{AreDistinct, IsValid}
use Rattle.config_check.proofs.EditLaws.{chain_deleted, chain_put, network_deleted, network_put, node_deleted, node_put, policy_deleted, policy_put, port_deleted, port_put, service_deleted, service_put}
use Rattle.config_check.proofs.Edited.{form_is_kept}
use Rattle.config_check.proofs.Finders.{back_pairs}
use Rattle.reach_plain.proofs.Kept.{valid}
use Rattle.hitless_cells.specs.Keeping.{DeliversAlike, IsHitless, IsValidAsWritten}
use Rattle.hitless_cells.specs.Kinds.{DeleteIsHitless, NewIsHitless}
use Rattle.hitless_cells.proofs.Expanding.{chains_distinct, services_distinct}
use Rattle.hitless_cells.proofs.Grown.{Grows}
use Rattle.hitless_cells.proofs.Hitless.{delivers_alike, grown_is_hitless, shrunk_is_hitless}
use Rattle.hitless_cells.proofs.OneMore.{OneMore, more, not_replaced, of_appends, of_removes, same_kept}

-- an accepted edit leads to a valid configuration of the written form, and what it deletes is there

pub parts_of_fault : (e : Edit) (x : Checked) → edit_fault x e ≡ None
    → (missing_name e x ≡ None) × (first_broken (edited_topology e x.topology) (edited_config e x.config) ≡ None)
unfolding edit_fault
parts_of_fault e x h =
    let parts = (both_none (option_map (λ (n : List ℕ). Missing n) (missing_name e x))
    (option_map Rule (first_broken (edited_topology e x.topology) (edited_config e x.config)))).0 h in (
      (mapped_none (λ (n : List ℕ). Missing n) (missing_name e x)).0 parts.0,
      (mapped_none Rule (first_broken (edited_topology e x.topology) (edited_config e x.config))).0 parts.1,
    )

pub accepted : (e : Edit) (x : Checked) → IsValidAsWritten x → IsTrue (has_edit_form e) → edit_fault x e ≡ None → IsValidAsWritten (edited e x)
accepted e x v form h = record { form = form_is_kept e x.config form v.form; valid = (parts_of_fault e x h).1 }

-- a list of one kind that has one object more
abbrev GrowsBy : {A : Type 0} → (A → List ℕ) → (Checked → List A → Checked) → Type 0
GrowsBy {A} name_of with_list =
    (v : Checked) (small large : List A) → OneMore name_of small large → IsValidAsWritten (with_list v small) → Grows (with_list v small) (with_list v large)

module _ {A : Type 0} (name_of : A → List ℕ) (object : A → Object) (kind : ObjectKind) (list : Checked → List A) (with_list : Checked → List A → Checked)
    (grows : GrowsBy name_of with_list) (again : (v : Checked) → with_list v (list v) ≡ v) where
  new_is_hitless : PutIs name_of object list with_list → NewIsHitless name_of object list
  new_is_hitless puts x o v form fresh h =
      let e : Edit = Put (object o) in
      let put = puts o x in
      let w : IsValidAsWritten (edited e x) = accepted e x v form h in
      let to : IsValidAsWritten (with_list x put.0) = subst IsValidAsWritten put.2 w in
      let from : IsValidAsWritten (with_list x (list x)) = subst IsValidAsWritten (sym (again x)) v in
      let one : OneMore name_of (list x) put.0 = elim put.1 [
        | inl replaces ↦ absurd (not_replaced name_of o (list x) put.0 fresh replaces)
        | inr appends ↦ of_appends name_of o (list x) put.0 appends
      ] in
      let g : Grows x (with_list x put.0) = subst (λ (z : Checked). Grows z (with_list x put.0)) (again x) (grows x (list x) put.0 one from) in
      let P : Checked → Type 0 = λ y. IsHitless x y × DeliversAlike x y in
      subst P (sym put.2) (grown_is_hitless x (with_list x put.0) v to g, delivers_alike x (with_list x put.0) v to g)

  delete_is_hitless : DeleteIs name_of kind list with_list → ((x : Checked) → IsValid x.topology x.config → AreDistinct (map name_of (list x))) → DeleteIsHitless kind
  delete_is_hitless deletes distinct x name v form h =
      let e : Edit = Delete kind name in
      let del = deletes name x (parts_of_fault e x h).0 in
      let w : IsValidAsWritten (edited e x) = accepted e x v form h in
      let to : IsValidAsWritten (with_list x del.0) = subst IsValidAsWritten del.2 w in
      let one : OneMore name_of del.0 (list x) = of_removes name_of name (list x) del.0 (distinct x (valid x.topology x.config v.valid)) del.1 in
      let g : Grows (with_list x del.0) x = subst (λ (z : Checked). Grows (with_list x del.0) z) (again x) (grows x del.0 (list x) one to) in
      let P : Checked → Type 0 = λ y. IsHitless x y × DeliversAlike y x in
      subst P (sym del.2) (shrunk_is_hitless (with_list x del.0) x to v g, delivers_alike (with_list x del.0) x to v g)

-- each kind

networks_grow : GrowsBy network_name with_networks
networks_grow v small large h valid =
    record {
      networks = more network_name small large h;
      ports = λ q at. at;
      policies = λ q at. at;
      services = λ s at. at;
      chains = λ d at. at;
      nodes = λ n at. at;
      rules = λ a b has_a has_b. refl;
    }

ports_grow : GrowsBy port_name with_ports
ports_grow v small large h valid =
    record {
      networks = λ n at. at;
      ports = more port_name small large h;
      policies = λ q at. at;
      services = λ s at. at;
      chains = λ d at. at;
      nodes = λ n at. at;
      rules = λ a b has_a has_b. refl;
    }

services_grow : GrowsBy service_name with_services
services_grow v small large h valid =
    record {
      networks = λ n at. at;
      ports = λ q at. at;
      policies = λ q at. at;
      services = more service_name small large h;
      chains = λ d at. at;
      nodes = λ n at. at;
      rules = λ a b has_a has_b. refl;
    }

chains_grow : GrowsBy chain_name with_chains
chains_grow v small large h valid =
    record {
      networks = λ n at. at;
      ports = λ q at. at;
      policies = λ q at. at;
      services = λ s at. at;
      chains = more chain_name small large h;
      nodes = λ n at. at;
      rules = λ a b has_a has_b. refl;
    }

nodes_grow : GrowsBy node_name with_nodes
nodes_grow v small large h valid =
    record {
      networks = λ n at. at;
      ports = λ q at. at;
      policies = λ q at. at;
      services = λ s at. at;
      chains = λ d at. at;
      nodes = more node_name small large h;
      rules = λ a b has_a has_b. refl;
    }

-- no network attaches a policy that is none of those configured
not_attached : (t : Checked) → IsValid t.topology t.config → (q : Policy) → All (λ p. policy_name p ≢ q.name) t.config.policies → (n : Network) → Contains t.config.networks n
    → attaches n q ≡ false
not_attached t v q fresh n at = by (attaches n q) refl
  where
    by : (b : Bool) → attaches n q ≡ b → b ≡ false
    by false e = refl
    by true e =
        let refers = All-contains (λ (n : Network). All (Contains (policy_names t.config)) n.policies) t.config.networks n v.references.policies at in
        let named = All-contains (Contains (policy_names t.config)) n.policies q.name refers ((attaches_iff n q).0 e) in
        let p = mapped_is policy_name t.config.policies q.name named in
        absurd (All-contains (λ p. policy_name p ≢ q.name) t.config.policies p.0 fresh p.1 p.2)

policies_grow : GrowsBy policy_name with_policies
policies_grow v small large h ok =
    record {
      networks = λ n at. at;
      ports = λ q at. at;
      policies = more policy_name small large h;
      services = λ s at. at;
      chains = λ d at. at;
      nodes = λ n at. at;
      rules = λ a b has_a has_b.
          let x : Checked = with_policies v small in
          let not : attaches a h.added ≡ false = not_attached x (valid x.topology x.config ok.valid) h.added h.fresh a has_a in
          let fails : (attaches a h.added && attaches b h.added) ≡ false = rw not refl in
          ap (λ (ps : List Policy). filter (λ (r : NumberedRule). fits r.rule a b || fits r.rule b a) (flat_map numbered_rules (by_sequence ps)))
          (same_kept policy_name (λ (p : Policy). attaches a p && attaches b p) small large h fails);
    }

pub new_network : NewIsHitless network_name (λ x. Objects.Network x) networks_of
new_network = new_is_hitless network_name (λ x. Objects.Network x) Kinds.Network networks_of with_networks networks_grow (λ v. refl) network_put

pub new_port : NewIsHitless port_name (λ x. Objects.Port x) ports_of
new_port = new_is_hitless port_name (λ x. Objects.Port x) Kinds.Port ports_of with_ports ports_grow (λ v. refl) port_put

pub new_policy : NewIsHitless policy_name (λ x. Objects.Policy x) policies_of
new_policy = new_is_hitless policy_name (λ x. Objects.Policy x) Kinds.Policy policies_of with_policies policies_grow (λ v. refl) policy_put

pub new_service : NewIsHitless service_name (λ x. Objects.Service x) services_of
new_service = new_is_hitless service_name (λ x. Objects.Service x) Kinds.Service services_of with_services services_grow (λ v. refl) service_put

pub new_chain : NewIsHitless chain_name (λ x. Objects.Chain x) chains_of
new_chain = new_is_hitless chain_name (λ x. Objects.Chain x) Kinds.Chain chains_of with_chains chains_grow (λ v. refl) chain_put

pub new_node : NewIsHitless node_name (λ x. Objects.Node x) nodes_of
new_node = new_is_hitless node_name (λ x. Objects.Node x) Kinds.Node nodes_of with_nodes nodes_grow (λ v. refl) node_put

pub delete_network : DeleteIsHitless Kinds.Network
delete_network = delete_is_hitless network_name (λ x. Objects.Network x) Kinds.Network networks_of with_networks networks_grow (λ v. refl) network_deleted (λ x v. v.names.networks)

pub delete_port : DeleteIsHitless Kinds.Port
delete_port = delete_is_hitless port_name (λ x. Objects.Port x) Kinds.Port ports_of with_ports ports_grow (λ v. refl) port_deleted (λ x v. v.names.ports)

pub delete_policy : DeleteIsHitless Kinds.Policy
delete_policy = delete_is_hitless policy_name (λ x. Objects.Policy x) Kinds.Policy policies_of with_policies policies_grow (λ v. refl) policy_deleted (λ x v. v.names.policies)

pub delete_service : DeleteIsHitless Kinds.Service
delete_service = delete_is_hitless service_name (λ x. Objects.Service x) Kinds.Service services_of with_services services_grow (λ v. refl) service_deleted (λ x v. services_distinct x.topology x.config v)

pub delete_chain : DeleteIsHitless Kinds.Chain
delete_chain = delete_is_hitless chain_name (λ x. Objects.Chain x) Kinds.Chain chains_of with_chains chains_grow (λ v. refl) chain_deleted (λ x v. chains_distinct x.topology x.config v)

pub delete_node : DeleteIsHitless Kinds.Node
delete_node = delete_is_hitless node_name (λ x. Objects.Node x) Kinds.Node nodes_of with_nodes nodes_grow (λ v. refl) node_deleted
    (λ x v. back_pairs (λ a b. a ≢ b) (controller_names x.topology) (map node_name x.topology.nodes) v.names.nodes)
