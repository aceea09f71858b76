-- The numbers of sessions at the start, in the topology's order, and the passes where some go, in that of the old list.
use Rattle.std.specs.Prelude.{◌≡◌, ◌<◌, ℕ, zero, suc, List, [], ◌∷◌, map, Bool, true, false, cond, Option, None, Some, slice_get}
use Rattle.std.specs.List.{filter}
use Rattle.std.specs.Cmp.Lexicographic.{bytes_decides}
use Rattle.std.proofs.lemmas.Option.{same_Some}
use Rattle.std.proofs.Common.{refl, sym, ◌∙◌, ap, subst, inl, inr, arith}
use Rattle.ov_types.specs.First.{same_name}
use Rattle.ov_types.specs.declared.rows.NodeId.{NodeId}
use Rattle.config_types.specs.declared.edit.Edit.{Edit}
use Rattle.config_types.specs.declared.edit.Edit.TheVariants.{Put, Delete}
use Rattle.config_types.specs.declared.edit.Object.TheVariants as Objects
use Rattle.config_types.specs.declared.edit.ObjectKind.TheVariants as Kinds
use Rattle.config_types.specs.declared.topology.Node.{Node}
use Rattle.config_types.specs.declared.topology.Topology.{Topology}
use Rattle.schedule_script.specs.ConfigCheck.Checked.{Checked}
use Rattle.schedule_script.specs.ConfigCheck.Finding.{node_named}
use Rattle.node_laws.specs.NodeModel.Members.{Member}
use Rattle.machine_model.specs.Setup.{Move, Name, Setup, agents_in, agents_of, edited, first_numbers, id_of, is_listed, listed_by, lists, moves, opening, stands}
use Rattle.machine_model.specs.Session.{Message}
use Rattle.machine_model.specs.Network.{MachineState, config}
use Rattle.machine_model.specs.Steps.{pass}
use Rattle.machine_model.specs.Events.{Edits, edits, next, passes}
use Rattle.machine_laws.specs.Rounding.{AreNumberedInOrder, with_new_sessions}

abbrev of_node : Node → Option NodeId
of_node n = Some (id_of n)

abbrev listing : List Node → NodeId → List (Option NodeId)
listing nodes c = map of_node (filter (λ n. lists n c) nodes)

-- those of a control node are of the nodes that list it
own_numbers : (nodes : List Node) (cs : List NodeId) (c : NodeId) → Member c cs → agents_in (first_numbers nodes cs) c.name ≡ listing nodes c
own_numbers nodes [] c m = absurd m
own_numbers nodes (d ∷ cs) c m =
    elim (same_name d.name c.name) as (λ b. same_name d.name c.name ≡ b → cond b (listing nodes d) (agents_in (first_numbers nodes cs) c.name) ≡ listing nodes c) [
      | true ↦ λ e. ap (λ (name : Name). map of_node (filter (λ n. is_listed name n) nodes)) ((bytes_decides d.name c.name).0 e)
      | false ↦ λ e. elim m as (λ _. agents_in (first_numbers nodes cs) c.name ≡ listing nodes c) [
        | inl is ↦ absurd (never (sym ((bytes_decides d.name c.name).1 (ap (λ (c : NodeId). c.name) is)) ∙ e))
        | inr n ↦ own_numbers nodes cs c n
      ]
    ] refl
  where
    never : true ≡ false → ⊥
    never e = cc

-- a place in a list, and in the list of those that pass a test
module _ (test : Node → Bool) where
  abbrev kept : List Node → List (Option NodeId)
  kept ns = map of_node (filter test ns)

  one_place : (ns : List Node) (j : ℕ) (n : Node) → slice_get ns j ≡ Some n → test n ≡ true → (q : ℕ) × (slice_get (kept ns) q ≡ Some (of_node n))
  one_place [] j n e t = cc
  one_place (k ∷ ns) zero n e t =
      let same : k ≡ n = cc in
      (0, ap (λ b. slice_get (map of_node (cond b (k ∷ filter test ns) (filter test ns))) 0) (ap test same ∙ t) ∙ ap (λ k. Some (of_node k)) same)
  one_place (k ∷ ns) (suc j) n e t =
      let r = one_place ns j n e t in
      elim (test k) as (λ b. (q : ℕ) × (slice_get (map of_node (cond b (k ∷ filter test ns) (filter test ns))) q ≡ Some (of_node n))) [
        | true ↦ (suc r.0, r.1)
        | false ↦ r
      ]

  abbrev InOrder : List (Option NodeId) → Node → Node → Type 0
  InOrder agents m n = AreNumberedInOrder agents (id_of m) (id_of n)

  one_more : (k m n : Node) (ns : List Node) → InOrder (kept ns) m n → InOrder (map of_node (k ∷ filter test ns)) m n
  one_more k m n ns o = record { first = suc o.first; second = suc o.second; in_order = next o.first o.second o.in_order; first_has = o.first_has; second_has = o.second_has }
    where
      next : (p q : ℕ) → p < q → suc p < suc q
      next p q lt = omega (arith, lt)

  two_places : (ns : List Node) (i j : ℕ) (m n : Node) → i < j → slice_get ns i ≡ Some m → slice_get ns j ≡ Some n → test m ≡ true → test n ≡ true → InOrder (kept ns) m n
  two_places [] i j m n lt e f s t = cc
  two_places (k ∷ ns) zero zero m n lt e f s t = absurd (omega (arith, lt))
  two_places (k ∷ ns) zero (suc j) m n lt e f s t =
      let same : k ≡ m = cc in
      let r = one_place ns j n f t in
      subst (λ b. InOrder (map of_node (cond b (k ∷ filter test ns) (filter test ns))) m n) (sym (ap test same ∙ s))
      (record { first = 0; second = suc r.0; in_order = some r.0; first_has = ap (λ k. Some (of_node k)) same; second_has = r.1 })
    where
      some : (q : ℕ) → 0 < suc q
      some q = omega arith
  two_places (k ∷ ns) (suc i) zero m n lt e f s t = absurd (omega (arith, lt))
  two_places (k ∷ ns) (suc i) (suc j) m n lt e f s t =
      let r = two_places ns i j m n (less i j lt) e f s t in
      elim (test k) as (λ b. InOrder (map of_node (cond b (k ∷ filter test ns) (filter test ns))) m n) [
        | true ↦ one_more k m n ns r
        | false ↦ r
      ]
    where
      less : (i j : ℕ) → suc i < suc j → i < j
      less i j lt = omega (arith, lt)

pub first_numbers_in_order : (x : Checked) (c : NodeId) (i j : ℕ) (m n : Node) → Member c x.topology.controllers → i < j → slice_get x.topology.nodes i ≡ Some m → slice_get x.topology.nodes j ≡ Some n → lists m c ≡ true → lists n c ≡ true
    → AreNumberedInOrder (agents_of (opening x) c.name) (id_of m) (id_of n)
first_numbers_in_order x c i j m n has lt e f s t =
    subst (λ (agents : List (Option NodeId)). AreNumberedInOrder agents (id_of m) (id_of n)) (sym (own_numbers x.topology.nodes x.topology.controllers c has))
    (two_places (λ n. lists n c) x.topology.nodes i j m n lt e f s t)

-- ---- passes of the control nodes that a compute node listed
left_of : (d : Edit) (t : Topology) (m : Move) → moves d t ≡ Some m → m.left ≡ listed_by (node_named t m.name)
left_of (Put (Objects.Node n)) t m e =
    elim (stands (node_named t n.name) n) as (λ b. cond b None (Some (put_by n)) ≡ Some m → m.left ≡ listed_by (node_named t m.name)) [
      | true ↦ λ f. absurd (never f)
      | false ↦ λ f. subst (λ (m : Move). m.left ≡ listed_by (node_named t m.name)) (same_Some (put_by n) m f) refl
    ] e
  where
    put_by : Node → Move
    put_by n = record { name = n.name; left = listed_by (node_named t n.name); now = Some n }

    never : None ≡ Some m → ⊥
    never f = cc
left_of (Delete Kinds.Node name) t m e = subst (λ (m : Move). m.left ≡ listed_by (node_named t m.name)) (same_Some (record { name = name; left = listed_by (node_named t name); now = None }) m e) refl
left_of d t m e = cc

pub passes_in_order : (size : Name → Message → ℕ) (w : MachineState) (d : Edit) (x : Setup) (m : Move) (n : Node) (a b : Name) → edited w.setup d ≡ Some x → moves d w.setup.topology ≡ Some m → node_named w.setup.topology m.name ≡ Some n → n.controllers ≡ a ∷ b ∷ []
    → next size w (Edits d) ≡ pass config (pass b (pass a (with_new_sessions w x m)))
unfolding next
passes_in_order size w d x m n a b made move node lists =
    (λ k. edits (move k) (made k) w)
    ∙ ap (λ (names : List Name). pass config (passes names (with_new_sessions w x m))) (left_of d w.setup.topology m move ∙ ap listed_by node ∙ lists)
