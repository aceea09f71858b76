-- What an edit makes of compute nodes, and of the numbers of sessions.
use Rattle.std.specs.Prelude.{◌≡◌, ◌⊎◌, List, [], ◌∷◌, ◌++◌, map, find, true, false, cond, ◌==◌, is_some}
use Rattle.std.specs.declared.option.Option.{Option}
use Rattle.std.specs.declared.option.Option.TheVariants.{Some, None}
use Rattle.std.specs.Option.{option_map}
use Rattle.std.specs.List.{AllByRecursion}
use Rattle.std.specs.Cmp.Lexicographic.{bytes_decides, pointwise}
use Rattle.std.proofs.lemmas.Bool.{true≢false, and_parts}
use Rattle.std.proofs.lemmas.Option.{same_Some}
use Rattle.std.proofs.Common.{refl, sym, ◌∙◌, ap, subst, inl, inr}
use Rattle.ov_types.specs.First.{same_name}
use Rattle.ov_types.specs.declared.rows.NodeId.{NodeId}
use Rattle.ov_types.proofs.FirstLemmas.{both_none, mapped_none}
use Rattle.schedule_script.specs.ConfigTypes.Edit.{Edit}
use Rattle.schedule_script.specs.ConfigTypes.Edit.TheVariants.{Put, Delete}
use Rattle.schedule_script.specs.ConfigTypes.Object.TheVariants as Objects
use Rattle.schedule_script.specs.ConfigTypes.ObjectKind.TheVariants as Kinds
use Rattle.schedule_script.specs.ConfigTypes.Node.{Node}
use Rattle.schedule_script.specs.ConfigTypes.Topology.{Topology}
use Rattle.schedule_script.specs.ConfigCheck.Checked.{Checked}
use Rattle.schedule_script.specs.ConfigCheck.Finding.{node_named}
use Rattle.schedule_script.specs.ConfigCheck.Rules.{controller_names, node_names, first_broken}
use Rattle.schedule_script.specs.ConfigCheck.Sentences.{IsValid}
use Rattle.schedule_script.specs.ConfigCheck.EditLaws.{Replaces, Appends, Removes}
use Rattle.schedule_script.specs.ConfigCheck.Edits.{edit_fault, edited_config, edited_topology, missing_name, node_name, with_put, without}
use Rattle.schedule_script.specs.ConfigCheck.EditFault.TheVariants.{Missing, Rule}
use Rattle.schedule_script.proofs.ConfigCheck.Validity.{valid_iff}
use Rattle.schedule_script.proofs.ConfigCheck.EditLaws.{node_put, node_deleted}
use Rattle.transform_model.specs.NodeModel.Members.{Member}
use Rattle.transform_model.proofs.NodeModel.Members.{in_map, in_right}
use Rattle.machine_model.specs.Setup.{Name, Move, Numbers, agents_in, came_at, has_name, id_of, is_listed, listed_by, moves, renumbered_at, stands, with_agent, without_agent}
use Rattle.machine_model.proofs.Distinct.{Apart, same_false, apart_of, apart_right, apart_between}

-- ---- finding a node by its name
abbrev find_node : Name → List Node → Option Node
find_node k ns = find (λ (n : Node). same_name n.name k) ns

passed_over : (k : Name) (n : Node) (before after : List Node) → (n.name ≡ k → ⊥) → find_node k (before ++ n ∷ after) ≡ find_node k (before ++ after)
passed_over k n [] after h = ap (λ b. cond b (Some n) (find_node k after)) (same_false n.name k h)
passed_over k n (m ∷ before) after h =
    elim (same_name m.name k) as (λ b. cond b (Some m) (find_node k (before ++ n ∷ after)) ≡ cond b (Some m) (find_node k (before ++ after))) [ true ↦ refl | false ↦ passed_over k n before after h ]

passed_last : (k : Name) (n : Node) (ns : List Node) → (n.name ≡ k → ⊥) → find_node k (ns ++ n ∷ []) ≡ find_node k ns
passed_last k n [] h = ap (λ b. cond b (Some n) None) (same_false n.name k h)
passed_last k n (m ∷ ns) h =
    elim (same_name m.name k) as (λ b. cond b (Some m) (find_node k (ns ++ n ∷ [])) ≡ cond b (Some m) (find_node k ns)) [ true ↦ refl | false ↦ passed_last k n ns h ]

pub found_alone : (n : Node) (ns : List Node) → Apart (map (λ (n : Node). n.name) ns) → Member n ns → find_node n.name ns ≡ Some n
found_alone n [] a m = absurd m
found_alone n (k ∷ ns) a (inl e) = ap (λ b. cond b (Some k) (find_node n.name ns)) ((bytes_decides k.name n.name).1 (ap (λ (n : Node). n.name) e)) ∙ ap Some e
found_alone n (k ∷ ns) a (inr m) =
    ap (λ b. cond b (Some k) (find_node n.name ns)) (same_false k.name n.name (a.0 n.name (in_map (λ (n : Node). n.name) n ns m))) ∙ found_alone n ns a.1 m

found_some : (k : Name) (n : Node) (ns : List Node) → Member n ns → n.name ≡ k → is_some (find_node k ns) ≡ true
found_some k n [] m e = absurd m
found_some k n (l ∷ ns) (inl is) e = ap (λ b. is_some (cond b (Some l) (find_node k ns))) ((bytes_decides l.name k).1 (ap (λ (n : Node). n.name) is ∙ e))
found_some k n (l ∷ ns) (inr m) e =
    elim (same_name l.name k) as (λ b. is_some (cond b (Some l) (find_node k ns)) ≡ true) [ true ↦ refl | false ↦ found_some k n ns m e ]

pub found_member : (k : Name) (ns : List Node) (n : Node) → find_node k ns ≡ Some n → Member n ns × (n.name ≡ k)
found_member k [] n e = cc
found_member k (l ∷ ns) n e =
    elim (same_name l.name k) as (λ b. same_name l.name k ≡ b → cond b (Some l) (find_node k ns) ≡ Some n → Member n (l ∷ ns) × (n.name ≡ k)) [
      | true ↦ λ is e. let f : l ≡ n = same_Some l n e in (inl f, ap (λ (n : Node). n.name) (sym f) ∙ (bytes_decides l.name k).0 is)
      | false ↦ λ _ e. let q = found_member k ns n e in (inr q.0, q.1)
    ] refl e

pub found_named : (k : Name) (ns : List Node) (n : Node) → find_node k ns ≡ Some n → Member k (map (λ (n : Node). n.name) ns)
found_named k [] n e = cc
found_named k (l ∷ ns) n e =
    elim (same_name l.name k) as (λ b. same_name l.name k ≡ b → cond b (Some l) (find_node k ns) ≡ Some n → Member k (map (λ (n : Node). n.name) (l ∷ ns))) [
      | true ↦ λ is _. inl ((bytes_decides l.name k).0 is)
      | false ↦ λ _ e. inr (found_named k ns n e)
    ] refl e

-- ---- what an edit leaves of a topology
-- a node of this name does not move
abbrev pub StaysPut : Option Move → Name → Type 0
StaysPut None k = Unit {0}
StaysPut (Some m) k = m.name ≡ k → ⊥

-- it is gone, or stands there as it is now
abbrev pub MoverIs : Name → Option Node → Topology → Topology → Type 0
MoverIs name None t u = is_some (node_named t name) ≡ true
MoverIs name (Some n) t u = (n.name ≡ name) × (node_named u name ≡ Some n)

abbrev pub Moves : Option Move → Topology → Topology → Type 0
Moves None t u = Unit {0}
Moves (Some m) t u = (m.left ≡ listed_by (node_named t m.name)) × MoverIs m.name m.now t u

pub record Renews (t u : Topology) (m : Option Move) : Type 0 where
  pub asn : u.asn ≡ t.asn
  pub controllers : u.controllers ≡ t.controllers
  pub others : (k : Name) → StaysPut m k → listed_by (node_named u k) ≡ listed_by (node_named t k)
  pub mover : Moves m t u

pub edit_valid : (x : Checked) (e : Edit) → edit_fault x e ≡ None → IsValid (edited_topology e x.topology) (edited_config e x.config)
unfolding edit_fault
edit_valid x e h =
    let t = edited_topology e x.topology in
    let c = edited_config e x.config in
    let p = both_none (option_map (λ name. Missing name) (missing_name e x)) (option_map (λ r. Rule r) (first_broken t c)) in
    (valid_iff t c).0 ((mapped_none (λ r. Rule r) (first_broken t c)).0 (p.0 h).1)

pub not_missing : (x : Checked) (e : Edit) → edit_fault x e ≡ None → missing_name e x ≡ None
unfolding edit_fault
not_missing x e h =
    let t = edited_topology e x.topology in
    let c = edited_config e x.config in
    let p = both_none (option_map (λ name. Missing name) (missing_name e x)) (option_map (λ r. Rule r) (first_broken t c)) in
    (mapped_none (λ (name : Name). Missing name) (missing_name e x)).0 (p.0 h).0

nodes_apart : (x : Checked) (e : Edit) → edit_fault x e ≡ None → Apart (node_names (edited_topology e x.topology))
nodes_apart x e h =
    let t = edited_topology e x.topology in
    apart_right (controller_names t) (node_names t) (apart_of (controller_names t ++ node_names t) (edit_valid x e h).names.nodes)

same_lists : (ms ns : List Name) → pointwise same_name ms ns ≡ true → ms ≡ ns
same_lists [] [] e = refl
same_lists [] (n ∷ ns) e = absurd (true≢false (sym e))
same_lists (m ∷ ms) [] e = absurd (true≢false (sym e))
same_lists (m ∷ ms) (n ∷ ns) e = let p = and_parts (same_name m n) (pointwise same_name ms ns) e in λ i. (bytes_decides m n).0 p.0 i ∷ same_lists ms ns p.1 i

pub stood : (o : Option Node) (n : Node) → stands o n ≡ true → listed_by o ≡ n.controllers
stood None n e = absurd (true≢false (sym e))
stood (Some m) n e = same_lists m.controllers n.controllers (and_parts (m.address.0 == n.address.0) (pointwise same_name m.controllers n.controllers) e).1

-- a put
module _ (n : Node) (t : Topology) where
  abbrev put_nodes : List Node
  put_nodes = with_put node_name n t.nodes

  put_others : (Replaces node_name n t.nodes put_nodes ⊎ Appends node_name n t.nodes put_nodes) → (k : Name) → (n.name ≡ k → ⊥) → find_node k put_nodes ≡ find_node k t.nodes
  put_others (inl r) k h =
      ap (find_node k) r.is
      ∙ passed_over k n r.before r.after h
      ∙ sym (passed_over k r.replaced r.before r.after (λ e. h (sym r.named ∙ e)))
      ∙ ap (find_node k) (sym r.was)
  put_others (inr a) k h = ap (find_node k) a.is ∙ passed_last k n t.nodes h

  put_member : (Replaces node_name n t.nodes put_nodes ⊎ Appends node_name n t.nodes put_nodes) → Member n put_nodes
  put_member (inl r) = subst (Member n) (sym r.is) (in_right n r.before (n ∷ r.after) (inl refl))
  put_member (inr a) = subst (Member n) (sym a.is) (in_right n t.nodes (n ∷ []) (inl refl))

by_put : (n : Node) (x : Checked) → edit_fault x (Put (Objects.Node n)) ≡ None → Renews x.topology (edited_topology (Put (Objects.Node n)) x.topology) (moves (Put (Objects.Node n)) x.topology)
unfolding edited_topology edited_config
by_put n x h =
    let t = x.topology in
    let u : Topology = record t { nodes = put_nodes n t } in
    let p = node_put n x in
    let new : p.0 ≡ put_nodes n t = sym (ap (λ (v : Checked). v.topology.nodes) p.2) in
    let how : Replaces node_name n t.nodes (put_nodes n t) ⊎ Appends node_name n t.nodes (put_nodes n t) = subst (λ (ns : List Node). Replaces node_name n t.nodes ns ⊎ Appends node_name n t.nodes ns) new p.1 in
    let here : node_named u n.name ≡ Some n = found_alone n (put_nodes n t) (nodes_apart x (Put (Objects.Node n)) h) (put_member n t how) in
    let off : (k : Name) → (n.name ≡ k → ⊥) → node_named u k ≡ node_named t k = put_others n t how in
    elim (stands (node_named t n.name) n) as (λ b. stands (node_named t n.name) n ≡ b → Renews t u (cond b None (Some (record { name = n.name; left = listed_by (node_named t n.name); now = Some n })))) [
      | true ↦ λ same. record {
        asn = refl;
        controllers = refl;
        others = λ k _. elim (same_name n.name k) as (λ c. same_name n.name k ≡ c → listed_by (node_named u k) ≡ listed_by (node_named t k)) [
          | true ↦ λ is. subst (λ (k : Name). listed_by (node_named u k) ≡ listed_by (node_named t k)) ((bytes_decides n.name k).0 is) (ap listed_by here ∙ sym (stood (node_named t n.name) n same))
          | false ↦ λ is. ap listed_by (off k (λ e. true≢false (sym ((bytes_decides n.name k).1 e) ∙ is)))
        ] refl;
        mover = tt;
      }
      | false ↦ λ _. record { asn = refl; controllers = refl; others = λ k apart. ap listed_by (off k apart); mover = (refl, (refl, here)) }
    ] refl

by_delete : (name : Name) (x : Checked) → edit_fault x (Delete Kinds.Node name) ≡ None → Renews x.topology (edited_topology (Delete Kinds.Node name) x.topology) (moves (Delete Kinds.Node name) x.topology)
unfolding edited_topology edited_config
by_delete name x h =
    let t = x.topology in
    let u : Topology = record t { nodes = without node_name name t.nodes } in
    let p = node_deleted name x (not_missing x (Delete Kinds.Node name) h) in
    let new : p.0 ≡ u.nodes = sym (ap (λ (v : Checked). v.topology.nodes) p.2) in
    let r : Removes node_name name t.nodes u.nodes = subst (Removes node_name name t.nodes) new p.1 in
    record {
      asn = refl;
      controllers = refl;
      others = λ k apart. ap listed_by (ap (find_node k) r.is ∙ sym (passed_over k r.removed r.before r.after (λ e. apart (sym r.named ∙ e))) ∙ ap (find_node k) (sym r.was));
      mover = (refl, found_some name r.removed t.nodes (subst (Member r.removed) (sym r.was) (in_right r.removed r.before (r.removed ∷ r.after) (inl refl))) r.named);
    }

as_it_was : (t : Topology) → Renews t t None
as_it_was t = record { asn = refl; controllers = refl; others = λ k _. refl; mover = tt }

pub renews : (x : Checked) (e : Edit) → edit_fault x e ≡ None → Renews x.topology (edited_topology e x.topology) (moves e x.topology)
unfolding edited_topology
renews x (Put (Objects.Node n)) h = by_put n x h
renews x (Delete Kinds.Node name) h = by_delete name x h
renews x (Put (Objects.Network n)) h = as_it_was x.topology
renews x (Put (Objects.Port n)) h = as_it_was x.topology
renews x (Put (Objects.Policy n)) h = as_it_was x.topology
renews x (Put (Objects.Service n)) h = as_it_was x.topology
renews x (Put (Objects.Chain n)) h = as_it_was x.topology
renews x (Delete Kinds.Network name) h = as_it_was x.topology
renews x (Delete Kinds.Port name) h = as_it_was x.topology
renews x (Delete Kinds.Policy name) h = as_it_was x.topology
renews x (Delete Kinds.Service name) h = as_it_was x.topology
renews x (Delete Kinds.Chain name) h = as_it_was x.topology

-- no control node has the name of a compute node
abbrev pub KindsApart : Topology → Type 0
KindsApart t = (c : Name) → Member c (controller_names t) → (n : Node) → node_named t c ≡ Some n → ⊥

pub kinds_apart : (t : Topology) → Apart (controller_names t ++ node_names t) → KindsApart t
kinds_apart t a c m n e = apart_between (controller_names t) (node_names t) a c c m (found_named c t.nodes n e) refl

pub edit_apart : (x : Checked) (e : Edit) → edit_fault x e ≡ None → KindsApart (edited_topology e x.topology)
edit_apart x e h =
    let t = edited_topology e x.topology in
    kinds_apart t (apart_of (controller_names t ++ node_names t) (edit_valid x e h).names.nodes)

-- ---- numbers
abbrev pub Named : Name → Option NodeId → Type 0
Named name o = has_name name o ≡ false

unmoved : (name : Name) (os : List (Option NodeId)) → AllByRecursion (Named name) os → without_agent name os ≡ os
unmoved name [] a = refl
unmoved name (o ∷ os) a = ap (λ b. cond b None o ∷ without_agent name os) a.0 ∙ ap (λ (os : List (Option NodeId)). o ∷ os) (unmoved name os a.1)

-- those of a control node that the mover neither listed nor lists
pub numbers_stay : (m : Move) (c : Name) (ns : List Numbers) → AllByRecursion (Named m.name) (agents_in ns c) → ((n : Node) → m.now ≡ Some n → is_listed c n ≡ false)
    → agents_in (map (renumbered_at m) ns) c ≡ agents_in ns c
numbers_stay m c [] a h = refl
numbers_stay m c (n ∷ ns) a h =
    elim (same_name n.control c) as (λ b. same_name n.control c ≡ b → AllByRecursion (Named m.name) (cond b n.agents (agents_in ns c))
    → cond b (came_at m.now n.control (without_agent m.name n.agents)) (agents_in (map (renumbered_at m) ns) c) ≡ cond b n.agents (agents_in ns c)) [
      | true ↦ λ is a. came_off m.now n.control (without_agent m.name n.agents) (λ k e. ap (λ (c : Name). is_listed c k) ((bytes_decides n.control c).0 is) ∙ h k e) ∙ unmoved m.name n.agents a
      | false ↦ λ _ a. numbers_stay m c ns a h
    ] refl a
  where
    came_off : (o : Option Node) (c : Name) (os : List (Option NodeId)) → ((n : Node) → o ≡ Some n → is_listed c n ≡ false) → came_at o c os ≡ os
    came_off None c os h = refl
    came_off (Some n) c os h = ap (λ b. cond b (with_agent (id_of n) os) os) (h n refl)
