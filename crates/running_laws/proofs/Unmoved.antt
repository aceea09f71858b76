-- An edit with which no compute node moves leaves the topology as it is: a node that is put stands as it was.
use Rattle.std.specs.Prelude.{◌≡◌, ◌≢◌, ◌⊎◌, List, [], ◌∷◌, ◌++◌, Bool, true, false, cond, ◌==◌, find}
use Rattle.std.specs.List.{All}
use Rattle.std.specs.Cmp.Lexicographic.{bytes_decides, pointwise}
use Rattle.std.specs.declared.option.Option.{Option}
use Rattle.std.specs.declared.option.Option.TheVariants.{Some, None}
use Rattle.std.proofs.lemmas.Bool.{and_parts, eqb-true, true≢false}
use Rattle.std.proofs.lemmas.Option.{none-some, same_Some}
use Rattle.std.proofs.Common.{refl, sym, ◌∙◌, ap, subst, inl, inr}
use Rattle.ov_types.specs.First.{same_name}
use Rattle.ov_types.proofs.FirstLemmas.{all_head, all_tail}
use Rattle.config_types.specs.declared.edit.Edit.{Edit}
use Rattle.config_types.specs.declared.edit.Edit.TheVariants.{Put, Delete}
use Rattle.config_types.specs.declared.edit.Object.TheVariants as Objects
use Rattle.config_types.specs.declared.edit.ObjectKind.TheVariants as Kinds
use Rattle.config_types.specs.declared.topology.Node.{Node}
use Rattle.config_types.specs.declared.topology.Topology.{Topology}
use Rattle.schedule_script.specs.ConfigCheck.Checked.{Checked}
use Rattle.schedule_script.specs.ConfigCheck.EditLaws.{Appends, Replaces}
use Rattle.schedule_script.specs.ConfigCheck.Edits.{edited_config, edited_topology, node_name, with_put}
use Rattle.schedule_script.specs.ConfigCheck.Finding.{node_named}
use Rattle.schedule_script.specs.ConfigCheck.Rules.{node_names}
use Rattle.schedule_script.proofs.ConfigCheck.EditLaws.{node_put}
use Rattle.node_model.specs.Members.{Member}
use Rattle.node_model.proofs.Members.{in_right}
use Rattle.machine_laws.specs.MachineModel.Setup.{Move, Name, listed_by, moves, stands}
use Rattle.machine_laws.proofs.MachineModel.Changing.{found_alone, stood}
use Rattle.machine_laws.proofs.MachineModel.Distinct.{Apart, same_false}

found_name : (name : Name) (ns : List Node) (m : Node) → find (λ (k : Node). same_name k.name name) ns ≡ Some m → m.name ≡ name
found_name name [] m found = absurd (none-some m found)
found_name name (k ∷ ns) m found = by_test (same_name k.name name) refl found (found_name name ns m)
  where
    by_test : (b : Bool) → same_name k.name name ≡ b → cond b (Some k) (find (λ (k : Node). same_name k.name name) ns) ≡ Some m
        → (find (λ (k : Node). same_name k.name name) ns ≡ Some m → m.name ≡ name) → m.name ≡ name
    by_test true e found rest = ap (λ (k : Node). k.name) (sym (same_Some k m found)) ∙ (bytes_decides k.name name).0 e
    by_test false e found rest = rest found

-- ---- a node that is put in its own place
module _ (n : Node) (t : Topology) (apart : Apart (node_names t)) where
  none_found : (ns : List Node) → All (λ (y : Node). node_name y ≢ node_name n) ns
      → find (λ (k : Node). same_name k.name n.name) ns ≡ None
  none_found [] all = refl
  none_found (k ∷ ns) all =
      ap (λ (b : Bool). cond b (Some k) (find (λ (k : Node). same_name k.name n.name) ns))
      (same_false k.name n.name (all_head (λ (y : Node). node_name y ≢ node_name n) k ns all))
      ∙ none_found ns (all_tail (λ (y : Node). node_name y ≢ node_name n) k ns all)

  abbrev put_nodes : List Node
  put_nodes = with_put node_name n t.nodes

  abbrev IsPut : Type 0
  IsPut = Replaces node_name n t.nodes put_nodes ⊎ Appends node_name n t.nodes put_nodes

  put_as_it_was : IsPut → (m : Node) → node_named t n.name ≡ Some m → m ≡ n → put_nodes ≡ t.nodes
  put_as_it_was (inl r) m found same =
      let here : Member r.replaced t.nodes =
      subst (Member r.replaced) (sym r.was) (in_right r.replaced r.before (r.replaced ∷ r.after) (inl refl))
      in
      let first : node_named t r.replaced.name ≡ Some r.replaced = found_alone r.replaced t.nodes apart here in
      let is : r.replaced ≡ n = same_Some r.replaced m (sym first ∙ ap (node_named t) r.named ∙ found) ∙ same in
      r.is ∙ ap (λ (k : Node). r.before ++ k ∷ r.after) (sym is) ∙ sym r.was
  put_as_it_was (inr a) m found same = absurd (none-some m (sym (none_found t.nodes a.fresh) ∙ found))

  -- it has the name, the address and the control nodes that it had
  same_node : IsPut → (o : Option Node) → node_named t n.name ≡ o → stands o n ≡ true → put_nodes ≡ t.nodes
  same_node put None found stood_there = absurd (true≢false (sym stood_there))
  same_node put (Some m) found stood_there =
      let parts = and_parts (m.address.0 == n.address.0) (pointwise same_name m.controllers n.controllers) stood_there in
      let name : m.name ≡ n.name = found_name n.name t.nodes m found in
      let address : m.address.0 ≡ n.address.0 = eqb-true m.address.0 n.address.0 parts.0 in
      let controllers : m.controllers ≡ n.controllers = stood (Some m) n stood_there in
      put_as_it_was put m found
      (λ i. record { name = name i; address = record { 0 = address i }; controllers = controllers i })

  pub put_unmoved : IsPut → (b : Bool) (move : Move) → stands (node_named t n.name) n ≡ b → cond b None (Some move) ≡ None
      → ◌≡◌ {A = Topology} (record t { nodes = put_nodes }) t
  put_unmoved put true move is none =
      ap (λ (ns : List Node). record t { nodes = ns }) (same_node put (node_named t n.name) refl is)
  put_unmoved put false move is none = absurd (none-some move (sym none))

is_put : (n : Node) (x : Checked)
    → Replaces node_name n x.topology.nodes (with_put node_name n x.topology.nodes)
    ⊎ Appends node_name n x.topology.nodes (with_put node_name n x.topology.nodes)
unfolding edited_topology edited_config
is_put n x =
    let old = x.topology.nodes in
    let p = node_put n x in
    let new : p.0 ≡ with_put node_name n old = sym (ap (λ (v : Checked). v.topology.nodes) p.2) in
    subst (λ (ns : List Node). Replaces node_name n old ns ⊎ Appends node_name n old ns) new p.1

pub unmoved : (x : Checked) (e : Edit) → Apart (node_names x.topology) → moves e x.topology ≡ None
    → edited_topology e x.topology ≡ x.topology
unfolding edited_topology
unmoved x (Put (Objects.Node n)) apart none =
    let t = x.topology in
    put_unmoved n t apart (is_put n x) (stands (node_named t n.name) n)
    (record { name = n.name; left = listed_by (node_named t n.name); now = Some n }) refl none
unmoved x (Put (Objects.Network o)) apart none = refl
unmoved x (Put (Objects.Port o)) apart none = refl
unmoved x (Put (Objects.Policy o)) apart none = refl
unmoved x (Put (Objects.Service o)) apart none = refl
unmoved x (Put (Objects.Chain o)) apart none = refl
unmoved x (Delete Kinds.Node name) apart none =
    absurd (none-some (record { name = name; left = listed_by (node_named x.topology name); now = None }) (sym none))
unmoved x (Delete Kinds.Network name) apart none = refl
unmoved x (Delete Kinds.Port name) apart none = refl
unmoved x (Delete Kinds.Policy name) apart none = refl
unmoved x (Delete Kinds.Service name) apart none = refl
unmoved x (Delete Kinds.Chain name) apart none = refl
