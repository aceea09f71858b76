-- Each agent has one number at each control node that it lists, and no other has one.
use Rattle.std.specs.Prelude.{◌≡◌, ◌≢◌, ℕ, ◌⊎◌, List, [], ◌∷◌, ◌++◌, map, true, false, cond, ◌||◌, ◌==◌}
use Rattle.std.specs.declared.option.Option.{Option}
use Rattle.std.specs.declared.option.Option.TheVariants.{Some, None}
use Rattle.std.specs.List.{filter, list_any}
use Rattle.std.specs.Cmp.Lexicographic.{bytes_decides, pointwise}
use Rattle.std.proofs.lemmas.Bool.{true≢false, and_parts, eqb-true}
use Rattle.std.proofs.lemmas.List.Elements.{All-contains}
use Rattle.std.proofs.lemmas.Option.{same_Some}
use Rattle.std.proofs.Common.{refl, sym, ◌∙◌, ap, subst, inl, inr}
use Rattle.ov_types.specs.First.{same_name}
use Rattle.ov_types.specs.declared.rows.NodeId.{NodeId}
use Rattle.schedule_script.specs.ConfigTypes.Edit.{Edit}
use Rattle.schedule_script.specs.ConfigTypes.Edit.TheVariants.{Put, Delete}
use Rattle.schedule_script.specs.ConfigTypes.Object.TheVariants as Objects
use Rattle.schedule_script.specs.ConfigTypes.ObjectKind.TheVariants as Kinds
use Rattle.schedule_script.specs.ConfigTypes.Node.{Node}
use Rattle.schedule_script.specs.ConfigTypes.Topology.{Topology}
use Rattle.schedule_script.specs.ConfigCheck.Checked.{Checked}
use Rattle.schedule_script.specs.ConfigCheck.Finding.{node_named}
use Rattle.schedule_script.specs.ConfigCheck.Rules.{node_names}
use Rattle.schedule_script.specs.ConfigCheck.EditLaws.{Appends, Removes, Replaces}
use Rattle.schedule_script.specs.ConfigCheck.Edits.{edit_fault, edited as checked_edited, edited_config, edited_topology, node_name, with_put, without}
use Rattle.schedule_script.specs.ConfigCheck.EditFault.{EditFault}
use Rattle.schedule_script.proofs.ConfigCheck.EditLaws.{node_deleted, node_put}
use Rattle.transform_model.specs.NodeModel.Members.{Member}
use Rattle.transform_model.proofs.NodeModel.Members.{from_filter, from_map, in_either, in_filter, in_left, in_map, in_right, none_some}
use Rattle.machine_model.specs.Setup.{Name, Move, Numbers, Setup, agents_in, agents_of, came_at, checked, edited, edited_without, first_numbers, has_name, id_of, is_listed, listed_by, lists, moves, opening, remade, renumbered, renumbered_at, stands, with_agent, without_agent}
use Rattle.machine_model.specs.Session.{Message}
use Rattle.machine_model.specs.Network.{MachineState, start}
use Rattle.machine_model.specs.Events.{MachineEvent, Edits, after, edits, next}
use Rattle.machine_model.specs.Moments.{AreOnce, EditIsValid, EditsAreValid, IsLaidOut, LaidOut, NodePair, NumbersFit, WhereLaidOut}
use Rattle.machine_model.proofs.Distinct.{Apart}
use Rattle.machine_model.proofs.Walk.{next_walk}
use Rattle.machine_model.proofs.NodesFact.{Holds, holds_steps}
use Rattle.machine_model.proofs.Changing.{StaysPut, Renews, found_alone, found_member, not_missing, renews, stood}
use Rattle.machine_model.proofs.Listed.{moved_setup}
use Rattle.machine_model.proofs.Asking.{apart_others, contains_of, names_of_nodes}

-- ---- which compute nodes an edit keeps
abbrev IsNow : Option Move → Topology → Type 0
IsNow None u = Unit {0}
IsNow (Some m) u = ((n : Node) → Member n u.nodes → n.name ≡ m.name → m.now ≡ Some n) × ((n : Node) → m.now ≡ Some n → Member n u.nodes × (n.name ≡ m.name))

record Leaves (t u : Topology) (o : Option Move) : Type 0 where
  here : (n : Node) → Member n u.nodes → StaysPut o n.name → Member n t.nodes
  there : (n : Node) → Member n t.nodes → StaysPut o n.name → Member n u.nodes
  now : IsNow o u

other_member : (k n : Node) (before after : List Node) → Member k (before ++ n ∷ after) → (n ≡ k) ⊎ Member k (before ++ after)
other_member k n [] after m = m
other_member k n (b ∷ before) after (inl e) = inr (inl e)
other_member k n (b ∷ before) after (inr m) = elim (other_member k n before after m) as (λ _. (n ≡ k) ⊎ Member k (b ∷ before ++ after)) [ inl e ↦ inl e | inr i ↦ inr (inr i) ]

more_member : (k n : Node) (before after : List Node) → Member k (before ++ after) → Member k (before ++ n ∷ after)
more_member k n [] after m = inr m
more_member k n (b ∷ before) after (inl e) = inl e
more_member k n (b ∷ before) after (inr m) = inr (more_member k n before after m)

same_nodes : (t : Topology) → Leaves t t None
same_nodes t = record { here = λ n m _. m; there = λ n m _. m; now = tt }

same_node : (m n : Node) → m.name ≡ n.name → stands (Some m) n ≡ true → m ≡ n
same_node m n e h =
    let p = and_parts (m.address.0 == n.address.0) (pointwise same_name m.controllers n.controllers) h in
    let a : m.address.0 ≡ n.address.0 = eqb-true m.address.0 n.address.0 p.0 in
    let c : m.controllers ≡ n.controllers = stood (Some m) n h in
    λ i. record { name = e i; address = record { 0 = a i }; controllers = c i }

put_leaves : (n : Node) (x : Checked) → IsLaidOut x.topology → Leaves x.topology (edited_topology (Put (Objects.Node n)) x.topology) (moves (Put (Objects.Node n)) x.topology)
unfolding edited_topology edited_config
put_leaves n x l =
    let t = x.topology in
    let new : List Node = with_put node_name n t.nodes in
    let u : Topology = record t { nodes = new } in
    let mover : Move = record { name = n.name; left = listed_by (node_named t n.name); now = Some n } in
    let p = node_put n x in
    let is : p.0 ≡ new = sym (ap (λ (v : Checked). v.topology.nodes) p.2) in
    let how : Replaces node_name n t.nodes new ⊎ Appends node_name n t.nodes new = subst (λ (ns : List Node). Replaces node_name n t.nodes ns ⊎ Appends node_name n t.nodes ns) is p.1 in
    let apart : Apart (node_names t) = names_of_nodes t l.apart in
    elim how as (λ _. Leaves t u (cond (stands (node_named t n.name) n) None (Some mover))) [
      | inl r ↦
          let apart_here : Apart (map (λ (n : Node). n.name) (r.before ++ r.replaced ∷ r.after)) = subst (λ (ns : List Node). Apart (map (λ (n : Node). n.name) ns)) r.was apart in
          let old : Member r.replaced t.nodes = subst (Member r.replaced) (sym r.was) (in_right r.replaced r.before (r.replaced ∷ r.after) (inl refl)) in
          let fresh : Member n new = subst (Member n) (sym r.is) (in_right n r.before (n ∷ r.after) (inl refl)) in
          let found : node_named t n.name ≡ Some r.replaced = subst (λ (k : Name). node_named t k ≡ Some r.replaced) r.named (found_alone r.replaced t.nodes apart old) in
          let from_new : (k : Node) → Member k new → (n ≡ k) ⊎ Member k (r.before ++ r.after) = λ k m. other_member k n r.before r.after (subst (Member k) r.is m) in
          let from_old : (k : Node) → Member k t.nodes → (r.replaced ≡ k) ⊎ Member k (r.before ++ r.after) = λ k m. other_member k r.replaced r.before r.after (subst (Member k) r.was m) in
          let to_new : (k : Node) → Member k (r.before ++ r.after) → Member k new = λ k m. subst (Member k) (sym r.is) (more_member k n r.before r.after m) in
          let to_old : (k : Node) → Member k (r.before ++ r.after) → Member k t.nodes = λ k m. subst (Member k) (sym r.was) (more_member k r.replaced r.before r.after m) in
          elim (stands (node_named t n.name) n) as (λ b. stands (node_named t n.name) n ≡ b → Leaves t u (cond b None (Some mover))) [
            | true ↦ λ e.
                let same : r.replaced ≡ n = same_node r.replaced n r.named (subst (λ (o : Option Node). stands o n ≡ true) found e) in
                record {
                  here = λ k m _. elim (from_new k m) as (λ _. Member k t.nodes) [ inl f ↦ subst (λ (k : Node). Member k t.nodes) (same ∙ f) old | inr i ↦ to_old k i ];
                  there = λ k m _. elim (from_old k m) as (λ _. Member k new) [ inl f ↦ subst (λ (k : Node). Member k new) (sym same ∙ f) fresh | inr i ↦ to_new k i ];
                  now = tt;
                }
            | false ↦ λ _. record {
              here = λ k m off. elim (from_new k m) as (λ _. Member k t.nodes) [ inl f ↦ absurd (off (ap (λ (n : Node). n.name) f)) | inr i ↦ to_old k i ];
              there = λ k m off. elim (from_old k m) as (λ _. Member k new) [ inl f ↦ absurd (off (sym r.named ∙ ap (λ (n : Node). n.name) f)) | inr i ↦ to_new k i ];
              now = (
                (λ k m e. elim (from_new k m) as (λ _. Some n ≡ Some k) [ inl f ↦ ap Some f | inr i ↦ absurd (apart_others r.replaced r.before r.after apart_here k i (e ∙ sym r.named)) ]),
                (λ k e. let f : n ≡ k = same_Some n k e in (subst (λ (k : Node). Member k new) f fresh, ap (λ (n : Node). n.name) (sym f))),
              );
            }
          ] refl
      | inr a ↦
          let none : (k : Node) → Member k t.nodes → k.name ≡ n.name → ⊥ = λ k m. All-contains (λ (y : Node). y.name ≢ n.name) t.nodes k a.fresh (contains_of t.nodes k m) in
          let from_new : (k : Node) → Member k new → Member k t.nodes ⊎ Member k (n ∷ []) = λ k m. in_either k t.nodes (n ∷ []) (subst (Member k) a.is m) in
          let fresh : Member n new = subst (Member n) (sym a.is) (in_right n t.nodes (n ∷ []) (inl refl)) in
          elim (stands (node_named t n.name) n) as (λ b. stands (node_named t n.name) n ≡ b → Leaves t u (cond b None (Some mover))) [
            | true ↦ λ e. absurd (not_there (node_named t n.name) e refl none)
            | false ↦ λ _. record {
              here = λ k m off. elim (from_new k m) as (λ _. Member k t.nodes) [
                | inl i ↦ i
                | inr j ↦ elim j as (λ _. Member k t.nodes) [ inl f ↦ absurd (off (ap (λ (n : Node). n.name) f)) | inr z ↦ absurd z ]
              ];
              there = λ k m _. subst (Member k) (sym a.is) (in_left k t.nodes (n ∷ []) m);
              now = (
                (λ k m e. elim (from_new k m) as (λ _. Some n ≡ Some k) [
                  | inl i ↦ absurd (none k i e)
                  | inr j ↦ elim j as (λ _. Some n ≡ Some k) [ inl f ↦ ap Some f | inr z ↦ absurd z ]
                ]),
                (λ k e. let f : n ≡ k = same_Some n k e in (subst (λ (k : Node). Member k new) f fresh, ap (λ (n : Node). n.name) (sym f))),
              );
            }
          ] refl
    ]
  where
    not_there : (o : Option Node) → stands o n ≡ true → node_named x.topology n.name ≡ o → ((k : Node) → Member k x.topology.nodes → k.name ≡ n.name → ⊥) → ⊥
    not_there None e f h = true≢false (sym e)
    not_there (Some k) e f h = let q = found_member n.name x.topology.nodes k f in h k q.0 q.1

delete_leaves : (name : Name) (x : Checked) → edit_fault x (Delete Kinds.Node name) ≡ None → IsLaidOut x.topology → Leaves x.topology (edited_topology (Delete Kinds.Node name) x.topology) (moves (Delete Kinds.Node name) x.topology)
unfolding edited_topology edited_config
delete_leaves name x h l =
    let t = x.topology in
    let new : List Node = without node_name name t.nodes in
    let p = node_deleted name x (not_missing x (Delete Kinds.Node name) h) in
    let is : p.0 ≡ new = sym (ap (λ (v : Checked). v.topology.nodes) p.2) in
    let r : Removes node_name name t.nodes new = subst (Removes node_name name t.nodes) is p.1 in
    let apart : Apart (map (λ (n : Node). n.name) (r.before ++ r.removed ∷ r.after)) = subst (λ (ns : List Node). Apart (map (λ (n : Node). n.name) ns)) r.was (names_of_nodes t l.apart) in
    record {
      here = λ k m _. subst (Member k) (sym r.was) (more_member k r.removed r.before r.after (subst (Member k) r.is m));
      there = λ k m off. elim (other_member k r.removed r.before r.after (subst (Member k) r.was m)) as (λ _. Member k new) [
        | inl f ↦ absurd (off (sym r.named ∙ ap (λ (n : Node). n.name) f))
        | inr i ↦ subst (Member k) (sym r.is) i
      ];
      now = (
        (λ k m e. absurd (apart_others r.removed r.before r.after apart k (subst (Member k) r.is m) (e ∙ sym r.named))),
        (λ k e. cc),
      );
    }

leaves : (x : Checked) (e : Edit) → edit_fault x e ≡ None → IsLaidOut x.topology → Leaves x.topology (edited_topology e x.topology) (moves e x.topology)
unfolding edited_topology
leaves x (Put (Objects.Node n)) h l = put_leaves n x l
leaves x (Delete Kinds.Node name) h l = delete_leaves name x h l
leaves x (Put (Objects.Network n)) h l = same_nodes x.topology
leaves x (Put (Objects.Port n)) h l = same_nodes x.topology
leaves x (Put (Objects.Policy n)) h l = same_nodes x.topology
leaves x (Put (Objects.Service n)) h l = same_nodes x.topology
leaves x (Put (Objects.Chain n)) h l = same_nodes x.topology
leaves x (Delete Kinds.Network name) h l = same_nodes x.topology
leaves x (Delete Kinds.Port name) h l = same_nodes x.topology
leaves x (Delete Kinds.Policy name) h l = same_nodes x.topology
leaves x (Delete Kinds.Service name) h l = same_nodes x.topology
leaves x (Delete Kinds.Chain name) h l = same_nodes x.topology

-- ---- lists of numbers
in_without : (name : Name) (b : NodeId) (those : List (Option NodeId)) → Member (Some b) those → same_name b.name name ≡ false → Member (Some b) (without_agent name those)
in_without name b [] m off = absurd m
in_without name b (o ∷ those) (inl e) off = inl (ap (λ (o : Option NodeId). cond (has_name name o) None o) e ∙ ap (λ c. cond c None (Some b)) off)
in_without name b (o ∷ those) (inr m) off = inr (in_without name b those m off)

from_without : (name : Name) (b : NodeId) (those : List (Option NodeId)) → Member (Some b) (without_agent name those) → Member (Some b) those × (same_name b.name name ≡ false)
from_without name b [] m = absurd m
from_without name b (None ∷ those) (inl e) = absurd (none_some b e)
from_without name b (Some a ∷ those) (inl e) =
    elim (same_name a.name name) as (λ c. same_name a.name name ≡ c → cond c None (Some a) ≡ Some b → Member (Some b) (Some a ∷ those) × (same_name b.name name ≡ false)) [
      | true ↦ λ _ e. cc
      | false ↦ λ off e. (inl e, ap (λ (k : NodeId). same_name k.name name) (sym (same_Some a b e)) ∙ off)
    ] refl e
from_without name b (o ∷ those) (inr m) = let q = from_without name b those m in (inr q.0, q.1)

in_with : (a : NodeId) (those : List (Option NodeId)) → Member (Some a) (with_agent a those)
in_with a [] = inl refl
in_with a (None ∷ those) = inl refl
in_with a (Some b ∷ those) = inr (in_with a those)

with_keeps : (a b : NodeId) (those : List (Option NodeId)) → Member (Some b) those → Member (Some b) (with_agent a those)
with_keeps a b [] m = absurd m
with_keeps a b (None ∷ those) (inl e) = cc
with_keeps a b (None ∷ those) (inr m) = inr m
with_keeps a b (Some c ∷ those) (inl e) = inl e
with_keeps a b (Some c ∷ those) (inr m) = inr (with_keeps a b those m)

from_with : (a b : NodeId) (those : List (Option NodeId)) → Member (Some b) (with_agent a those) → (a ≡ b) ⊎ Member (Some b) those
from_with a b [] (inl e) = inl (same_Some a b e)
from_with a b [] (inr m) = absurd m
from_with a b (None ∷ those) (inl e) = inl (same_Some a b e)
from_with a b (None ∷ those) (inr m) = inr (inr m)
from_with a b (Some c ∷ those) (inl e) = inr (inl e)
from_with a b (Some c ∷ those) (inr m) = elim (from_with a b those m) as (λ _. (a ≡ b) ⊎ Member (Some b) (Some c ∷ those)) [ inl e ↦ inl e | inr i ↦ inr (inr i) ]

without_once : (name : Name) (those : List (Option NodeId)) → AreOnce those → AreOnce (without_agent name those)
without_once name [] h = tt
without_once name (None ∷ those) h = without_once name those h
without_once name (Some a ∷ those) h =
    elim (same_name a.name name) as (λ c. AreOnce (cond c None (Some a) ∷ without_agent name those)) [
      | true ↦ without_once name those h.1
      | false ↦ ((λ b m. h.0 b (from_without name b those m).0), without_once name those h.1)
    ]

with_once : (a : NodeId) (those : List (Option NodeId)) → ((b : NodeId) → Member (Some b) those → a.name ≢ b.name) → AreOnce those → AreOnce (with_agent a those)
with_once a [] off h = ((λ b m e. m), tt)
with_once a (None ∷ those) off h = ((λ b m. off b (inr m)), h)
with_once a (Some c ∷ those) off h = (
  (λ b m e. elim (from_with a b those m) as (λ _. ⊥) [
    | inl is ↦ off c (inl refl) (ap (λ (k : NodeId). k.name) is ∙ sym e)
    | inr i ↦ h.0 b i e
  ]),
  with_once a those (λ b m. off b (inr m)) h.1,
)

-- ---- what an edit makes of the numbers at a control node
module _ (t u : Topology) (m : Move) (l : Leaves t u (Some m)) (c : NodeId) (those : List (Option NodeId)) (fit : NumbersFit t c those) where
  abbrev kept : List (Option NodeId)
  kept = without_agent m.name those

  off_name : (n : Name) → same_name n m.name ≡ false → m.name ≡ n → ⊥
  off_name n off e = true≢false (sym ((bytes_decides n m.name).1 (sym e)) ∙ off)

  kept_all : (n : Node) → Member n u.nodes → lists n c ≡ true → same_name n.name m.name ≡ false → Member (Some (id_of n)) kept
  kept_all n i h off = in_without m.name (id_of n) those (fit.all n (l.here n i (off_name n.name off)) h) off

  kept_only : (a : NodeId) → Member (Some a) kept → (n : Node) × Member n u.nodes × (id_of n ≡ a) × (lists n c ≡ true)
  kept_only a i =
      let q = from_without m.name a those i in
      let n = fit.only a q.0 in
      let named : n.0.name ≡ a.name = ap (λ (k : NodeId). k.name) n.2 in
      (n.0, l.there n.0 n.1 (off_name n.0.name (ap (λ (k : Name). same_name k m.name) named ∙ q.1)), n.2, n.3)

  renumbered_fit : NumbersFit u c (came_at m.now c.name kept)
  renumbered_fit = by m.now refl
    where
      by : (o : Option Node) → m.now ≡ o → NumbersFit u c (came_at o c.name kept)
      by None e = record {
        all = λ n i h. elim (same_name n.name m.name) as (λ b. same_name n.name m.name ≡ b → Member (Some (id_of n)) kept) [
          | true ↦ λ is. absurd (none_some n (sym e ∙ l.now.0 n i ((bytes_decides n.name m.name).0 is)))
          | false ↦ λ off. kept_all n i h off
        ] refl;
        only = kept_only;
        once = without_once m.name those fit.once;
      }
      by (Some k) e =
          let there = l.now.1 k e in
          elim (is_listed c.name k) as (λ b. is_listed c.name k ≡ b → NumbersFit u c (cond b (with_agent (id_of k) kept) kept)) [
            | true ↦ λ is. record {
              all = λ n i h. elim (same_name n.name m.name) as (λ b. same_name n.name m.name ≡ b → Member (Some (id_of n)) (with_agent (id_of k) kept)) [
                | true ↦ λ same.
                    let f : k ≡ n = same_Some k n (sym e ∙ l.now.0 n i ((bytes_decides n.name m.name).0 same)) in
                    subst (λ (n : Node). Member (Some (id_of n)) (with_agent (id_of k) kept)) f (in_with (id_of k) kept)
                | false ↦ λ off. with_keeps (id_of k) (id_of n) kept (kept_all n i h off)
              ] refl;
              only = λ a i. elim (from_with (id_of k) a kept i) as (λ _. (n : Node) × Member n u.nodes × (id_of n ≡ a) × (lists n c ≡ true)) [
                | inl f ↦ (k, there.0, f, is)
                | inr j ↦ kept_only a j
              ];
              once = with_once (id_of k) kept (λ b i f. true≢false (sym ((bytes_decides b.name m.name).1 (sym f ∙ there.1)) ∙ (from_without m.name b those i).1)) (without_once m.name those fit.once);
            }
            | false ↦ λ off. record {
              all = λ n i h. elim (same_name n.name m.name) as (λ b. same_name n.name m.name ≡ b → Member (Some (id_of n)) kept) [
                | true ↦ λ same.
                    let f : k ≡ n = same_Some k n (sym e ∙ l.now.0 n i ((bytes_decides n.name m.name).0 same)) in
                    absurd (true≢false (sym h ∙ ap (λ (n : Node). lists n c) (sym f) ∙ off))
                | false ↦ λ apart. kept_all n i h apart
              ] refl;
              only = kept_only;
              once = without_once m.name those fit.once;
            }
          ] refl

-- ---- at every moment
abbrev pub HasEntry : List Numbers → Name → Type 0
HasEntry ns c = list_any (λ (n : Numbers). same_name n.control c) ns ≡ true

pub agents_renumbered : (m : Move) (c : Name) (ns : List Numbers) → HasEntry ns c → agents_in (map (renumbered_at m) ns) c ≡ came_at m.now c (without_agent m.name (agents_in ns c))
agents_renumbered m c [] h = absurd (true≢false (sym h))
agents_renumbered m c (n ∷ ns) h =
    elim (same_name n.control c) as (λ b. same_name n.control c ≡ b → (b || list_any (λ (n : Numbers). same_name n.control c) ns) ≡ true
    → cond b (came_at m.now n.control (without_agent m.name n.agents)) (agents_in (map (renumbered_at m) ns) c) ≡ came_at m.now c (without_agent m.name (cond b n.agents (agents_in ns c)))) [
      | true ↦ λ is _. ap (λ (k : Name). came_at m.now k (without_agent m.name n.agents)) ((bytes_decides n.control c).0 is)
      | false ↦ λ _ h. agents_renumbered m c ns h
    ] refl h

pub entry_kept : (m : Move) (c : Name) (ns : List Numbers) → HasEntry ns c → HasEntry (map (renumbered_at m) ns) c
entry_kept m c [] h = h
entry_kept m c (n ∷ ns) h =
    elim (same_name n.control c) as (λ b. (b || list_any (λ (n : Numbers). same_name n.control c) ns) ≡ true → (b || list_any (λ (n : Numbers). same_name n.control c) (map (renumbered_at m) ns)) ≡ true) [
      | true ↦ λ h. h
      | false ↦ λ h. entry_kept m c ns h
    ] h

pub record AllFit (x : Setup) : Type 0 where
  pub entries : (c : NodeId) → Member c x.topology.controllers → HasEntry x.numbers c.name
  pub fit : (c : NodeId) → Member c x.topology.controllers → NumbersFit x.topology c (agents_of x c.name)

fit_still : (t u : Topology) (c : NodeId) (those : List (Option NodeId)) → Leaves t u None → NumbersFit t c those → NumbersFit u c those
fit_still t u c those l f = record {
  all = λ n i h. f.all n (l.here n i tt) h;
  only = λ a i. let n = f.only a i in (n.0, l.there n.0 n.1 tt, n.2, n.3);
  once = f.once;
}

module _ (x y : Setup) (o : Option Move) (numbers : y.numbers ≡ renumbered o x.numbers) (cs : y.topology.controllers ≡ x.topology.controllers) where
  fit_edited : Leaves x.topology y.topology o → AllFit x → AllFit y
  fit_edited l f = record {
    entries = λ c i. subst (λ (ns : List Numbers). HasEntry ns c.name) (sym numbers) (entry o c.name (f.entries c (subst (Member c) cs i)));
    fit = λ c i. subst (λ (ns : List Numbers). NumbersFit y.topology c (agents_in ns c.name)) (sym numbers) (by o l c (f.entries c (subst (Member c) cs i)) (f.fit c (subst (Member c) cs i)));
  }
    where
      entry : (o : Option Move) (c : Name) → HasEntry x.numbers c → HasEntry (renumbered o x.numbers) c
      entry None c h = h
      entry (Some m) c h = entry_kept m c x.numbers h

      by : (o : Option Move) → Leaves x.topology y.topology o → (c : NodeId) → HasEntry x.numbers c.name → NumbersFit x.topology c (agents_of x c.name) → NumbersFit y.topology c (agents_in (renumbered o x.numbers) c.name)
      by None l c h f = fit_still x.topology y.topology c (agents_of x c.name) l f
      by (Some m) l c h f = subst (NumbersFit y.topology c) (sym (agents_renumbered m c.name x.numbers h)) (renumbered_fit x.topology y.topology m l c (agents_of x c.name) f)

abbrev LaidAndFit : Setup → List NodePair → Type 0
LaidAndFit x ps = IsLaidOut x.topology × AllFit x

fits_edits : (d : Edit) (w : MachineState) → EditIsValid LaidOut w (Edits d) → Holds LaidAndFit w → Holds LaidAndFit (edits (moves d w.setup.topology) (edited w.setup d) w)
fits_edits d w ok q =
    elim (edit_fault (checked w.setup) d) as (λ o. edit_fault (checked w.setup) d ≡ o → ((y : Setup) → edited_without o w.setup d ≡ Some y → LaidOut y) → Holds LaidAndFit (edits (moves d w.setup.topology) (edited_without o w.setup d) w)) [
      | None ↦ λ none ok.
          let m = moves d w.setup.topology in
          let y : Setup = remade (checked_edited d (checked w.setup)) (renumbered m w.setup.numbers) in
          let r : Renews w.setup.topology y.topology m = renews (checked w.setup) d none in
          subst (λ (z : Setup). IsLaidOut z.topology × AllFit z) (sym (moved_setup m (record { setup = y; sessions = w.sessions })))
          (ok y refl, fit_edited w.setup y m refl r.controllers (leaves (checked w.setup) d none q.0) q.1)
      | Some f ↦ λ _ _. q
    ] refl ok

-- an edit without a fault keeps the numbers those of the agents
pub fits_edited : (x : Setup) (d : Edit) (y : Setup) → edited x d ≡ Some y → IsLaidOut x.topology → AllFit x → AllFit y
fits_edited x d y e laid f = by_fault (edit_fault (checked x) d) refl e
  where
    by_fault : (o : Option EditFault) → edit_fault (checked x) d ≡ o → edited_without o x d ≡ Some y → AllFit y
    by_fault (Some fault) is h = absurd (none_some y h)
    by_fault None is h =
        let m = moves d x.topology in
        let z : Setup = remade (checked_edited d (checked x)) (renumbered m x.numbers) in
        subst AllFit (same_Some z y h)
        (fit_edited x z m refl (renews (checked x) d is).controllers (leaves (checked x) d is laid) f)

module _ (size : Name → Message → ℕ) where
  after_fits : (w : MachineState) (es : List MachineEvent) → EditsAreValid size LaidOut w es → Holds LaidAndFit w → Holds LaidAndFit (after size w es)
  after_fits w [] v q = q
  after_fits w (e ∷ es) v q =
      after_fits (next size w e) es v.1 (next_walk size (Holds LaidAndFit) (holds_steps size LaidAndFit) w e (λ d is q. fits_edits d w (subst (EditIsValid LaidOut w) is v.0) q) q)

-- ---- the start
pub start_entries : (c : NodeId) (nodes : List Node) (cs : List NodeId) → Member c cs → HasEntry (first_numbers nodes cs) c.name
start_entries c nodes cs m = entry cs m
  where
    entry : (cs : List NodeId) → Member c cs → HasEntry (first_numbers nodes cs) c.name
    entry [] m = absurd m
    entry (d ∷ cs) (inl e) = ap (λ b. b || list_any (λ (n : Numbers). same_name n.control c.name) (first_numbers nodes cs)) ((bytes_decides d.name c.name).1 (ap (λ (c : NodeId). c.name) e))
    entry (d ∷ cs) (inr m) =
        elim (same_name d.name c.name) as (λ b. (b || list_any (λ (n : Numbers). same_name n.control c.name) (first_numbers nodes cs)) ≡ true) [ true ↦ refl | false ↦ entry cs m ]

first_of_all : (c : NodeId) (nodes : List Node) (cs : List NodeId) → Member c cs
    → (d : NodeId) × (d.name ≡ c.name) × (agents_in (first_numbers nodes cs) c.name ≡ map (λ (n : Node). Some (id_of n)) (filter (λ n. lists n d) nodes))
first_of_all c nodes [] m = absurd m
first_of_all c nodes (d ∷ cs) m =
    elim (same_name d.name c.name) as (λ b. same_name d.name c.name ≡ b → (e : NodeId) × (e.name ≡ c.name) × (cond b (map (λ (n : Node). Some (id_of n)) (filter (λ n. lists n d) nodes)) (agents_in (first_numbers nodes cs) c.name) ≡ map (λ (n : Node). Some (id_of n)) (filter (λ n. lists n e) nodes))) [
      | true ↦ λ is. (d, (bytes_decides d.name c.name).0 is, refl)
      | false ↦ λ off. first_of_all c nodes cs (rest m off)
    ] refl
  where
    rest : Member c (d ∷ cs) → same_name d.name c.name ≡ false → Member c cs
    rest (inl e) off = absurd (true≢false (sym ((bytes_decides d.name c.name).1 (ap (λ (c : NodeId). c.name) e)) ∙ off))
    rest (inr i) off = i

start_fit : (t : Topology) → Apart (node_names t) → (c d : NodeId) → d.name ≡ c.name → NumbersFit t c (map (λ (n : Node). Some (id_of n)) (filter (λ n. lists n d) t.nodes))
start_fit t apart c d e = record {
  all = λ n i h. in_map (λ (n : Node). Some (id_of n)) n (filter (λ n. lists n d) t.nodes) (in_filter (λ (n : Node). lists n d) n t.nodes i (ap (λ (k : Name). is_listed k n) e ∙ h));
  only = λ a i.
      let q = from_map (λ (n : Node). Some (id_of n)) (Some a) (filter (λ n. lists n d) t.nodes) i in
      let f = from_filter (λ (n : Node). lists n d) q.0 t.nodes q.1 in
      (q.0, f.0, same_Some (id_of q.0) a q.2, ap (λ (k : Name). is_listed k q.0) (sym e) ∙ f.1);
  once = once t.nodes apart;
}
  where
    once : (ns : List Node) → Apart (map (λ (n : Node). n.name) ns) → AreOnce (map (λ (n : Node). Some (id_of n)) (filter (λ n. lists n d) ns))
    once [] a = tt
    once (n ∷ ns) a =
        elim (lists n d) as (λ b. AreOnce (map (λ (n : Node). Some (id_of n)) (cond b (n ∷ filter (λ n. lists n d) ns) (filter (λ n. lists n d) ns)))) [
          | true ↦ (
            (λ b m f.
                let q = from_map (λ (n : Node). Some (id_of n)) (Some b) (filter (λ n. lists n d) ns) m in
                let g = from_filter (λ (n : Node). lists n d) q.0 ns q.1 in
                a.0 q.0.name (in_map (λ (n : Node). n.name) q.0 ns g.0) (f ∙ sym (ap (λ (k : NodeId). k.name) (same_Some (id_of q.0) b q.2)))),
            once ns a.1,
          )
          | false ↦ once ns a.1
        ]

pub start_fits : (x : Checked) → IsLaidOut x.topology → AllFit (opening x)
start_fits x l = record {
  entries = λ c i. start_entries c x.topology.nodes x.topology.controllers i;
  fit = λ c i.
      let q = first_of_all c x.topology.nodes x.topology.controllers i in
      subst (NumbersFit x.topology c) (sym q.2) (start_fit x.topology (names_of_nodes x.topology l.apart) c q.0 q.1);
}

pub numbers_fit : WhereLaidOut (λ size w. (c : NodeId) → Member c w.setup.topology.controllers → NumbersFit w.setup.topology c (agents_of w.setup c.name))
numbers_fit size positive x l es v c i = (after_fits size (start x) es v (l, start_fits x l)).1.fit c i
