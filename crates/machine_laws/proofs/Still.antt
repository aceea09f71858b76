-- An edit that moves no compute node leaves the topology as it was.
use Rattle.std.specs.Prelude.{Bool, List, cond, false, true, ◌++◌, ◌==◌, ◌∷◌, ◌≡◌, ◌≢◌, ◌⊎◌}
use Rattle.std.specs.Cmp.Lexicographic.{pointwise}
use Rattle.std.specs.declared.option.Option.TheVariants.{None, Some}
use Rattle.std.specs.declared.option.Option.{Option}
use Rattle.std.proofs.Common.{ap, inl, inr, refl, subst, sym, ◌∙◌}
use Rattle.std.proofs.lemmas.Bool.{and_parts, eqb-true, true≢false}
use Rattle.std.proofs.lemmas.List.Elements.{All-contains}
use Rattle.ov_types.specs.First.{same_name}
use Rattle.config_types.specs.declared.edit.Edit.TheVariants.{Delete, Put}
use Rattle.config_types.specs.declared.edit.Edit.{Edit}
use Rattle.config_types.specs.declared.edit.Object.TheVariants as Objects
use Rattle.config_types.specs.declared.edit.ObjectKind.TheVariants as Kinds
use Rattle.config_types.specs.declared.topology.Node.{Node}
use Rattle.schedule_script.specs.ConfigCheck.Checked.{Checked}
use Rattle.schedule_script.specs.ConfigCheck.EditLaws.{Appends, Replaces}
use Rattle.schedule_script.specs.ConfigCheck.Edits.{edited_config, edited_topology, node_name, with_put}
use Rattle.schedule_script.specs.ConfigCheck.Finding.{node_named}
use Rattle.schedule_script.specs.ConfigCheck.Rules.{node_names}
use Rattle.schedule_script.proofs.ConfigCheck.EditLaws.{node_put}
use Rattle.node_laws.specs.NodeModel.Members.{Member}
use Rattle.node_laws.proofs.NodeModel.Members.{contains_of, in_right}
use Rattle.machine_model.specs.Setup.{Move, Name, listed_by, moves, stands}
use Rattle.machine_model.proofs.Changing.{found_alone, found_member, stood}
use Rattle.machine_model.proofs.Distinct.{Apart}

same_node : (m n : Node) → m.name ≡ n.name → stands (Some m) n ≡ true → m ≡ n
same_node m n named e =
    let address : m.address.0 ≡ n.address.0 = eqb-true m.address.0 n.address.0 (and_parts (m.address.0 == n.address.0) (pointwise same_name m.controllers n.controllers) e).0 in
    let controllers : m.controllers ≡ n.controllers = stood (Some m) n e in
    λ i. record { name = named i; address = record { 0 = address i }; controllers = controllers i }

is_still : (b : Bool) (m : Move) → cond b None (Some m) ≡ None → b ≡ true
is_still true m e = refl
is_still false m e = cc

put_leaves : (n : Node) (x : Checked) → Apart (node_names x.topology) → moves (Put (Objects.Node n)) x.topology ≡ None → edited_topology (Put (Objects.Node n)) x.topology ≡ x.topology
unfolding edited_topology edited_config
put_leaves n x apart still =
    let t = x.topology in
    let new : List Node = with_put node_name n t.nodes in
    let p = node_put n x in
    let is : p.0 ≡ new = sym (ap (λ (v : Checked). v.topology.nodes) p.2) in
    let how : Replaces node_name n t.nodes new ⊎ Appends node_name n t.nodes new = subst (λ (ns : List Node). Replaces node_name n t.nodes ns ⊎ Appends node_name n t.nodes ns) is p.1 in
    let same : stands (node_named t n.name) n ≡ true = is_still (stands (node_named t n.name) n) (record { name = n.name; left = listed_by (node_named t n.name); now = Some n }) still in
    elim how as (λ _. record t { nodes = new } ≡ t) [
      | inl r ↦
          let there : Member r.replaced t.nodes = subst (Member r.replaced) (sym r.was) (in_right r.replaced r.before (r.replaced ∷ r.after) (inl refl)) in
          let found : node_named t n.name ≡ Some r.replaced = subst (λ (k : Name). node_named t k ≡ Some r.replaced) r.named (found_alone r.replaced t.nodes apart there) in
          let node : r.replaced ≡ n = same_node r.replaced n r.named (subst (λ (o : Option Node). stands o n ≡ true) found same) in
          ap (λ (ns : List Node). record t { nodes = ns }) (r.is ∙ ap (λ (k : Node). r.before ++ k ∷ r.after) (sym node) ∙ sym r.was)
      | inr a ↦ absurd (never (node_named t n.name) same (λ k f.
          let q = found_member n.name t.nodes k f in
          All-contains (λ (y : Node). y.name ≢ n.name) t.nodes k a.fresh (contains_of t.nodes k q.0) q.1))
    ]
  where
    never : (o : Option Node) → stands o n ≡ true → ((k : Node) → o ≡ Some k → ⊥) → ⊥
    never None e h = true≢false (sym e)
    never (Some k) e h = h k refl

pub topology_stays : (x : Checked) (e : Edit) → Apart (node_names x.topology) → moves e x.topology ≡ None → edited_topology e x.topology ≡ x.topology
unfolding edited_topology
topology_stays x (Put (Objects.Node n)) apart still = put_leaves n x apart still
topology_stays x (Delete Kinds.Node name) apart still = cc
topology_stays x (Put (Objects.Network n)) apart still = refl
topology_stays x (Put (Objects.Port n)) apart still = refl
topology_stays x (Put (Objects.Policy n)) apart still = refl
topology_stays x (Put (Objects.Service n)) apart still = refl
topology_stays x (Put (Objects.Chain n)) apart still = refl
topology_stays x (Delete Kinds.Network name) apart still = refl
topology_stays x (Delete Kinds.Port name) apart still = refl
topology_stays x (Delete Kinds.Policy name) apart still = refl
topology_stays x (Delete Kinds.Service name) apart still = refl
topology_stays x (Delete Kinds.Chain name) apart still = refl
