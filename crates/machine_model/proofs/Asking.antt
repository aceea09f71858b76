-- The sessions are those that the topology of the moment asks for, in the same order.
use Rattle.std.specs.Prelude.{◌≡◌, ◌≢◌, ℕ, ◌⊎◌, List, [], ◌∷◌, ◌++◌, map, Bool, true, false, not, cond, ◌&&◌}
use Rattle.std.specs.declared.option.Option.{Option}
use Rattle.std.specs.declared.option.Option.TheVariants.{Some, None}
use Rattle.std.specs.List.{AllByRecursion, Contains, filter, list_any}
use Rattle.std.specs.Cmp.Lexicographic.{bytes_decides}
use Rattle.std.proofs.lemmas.Bool.{true≢false}
use Rattle.std.proofs.lemmas.List.Elements.{All-contains}
use Rattle.std.proofs.Common.{refl, sym, ◌∙◌, ap, subst, inl, inr}
use Rattle.ov_types.specs.First.{same_name}
use Rattle.ov_types.proofs.FirstLemmas.{contains_here, contains_later}
use Rattle.ov_types.specs.declared.rows.NodeId.{NodeId}
use Rattle.schedule_script.specs.ConfigTypes.Node.{Node}
use Rattle.schedule_script.specs.ConfigTypes.Topology.{Topology}
use Rattle.schedule_script.specs.ConfigTypes.Edit.{Edit}
use Rattle.schedule_script.specs.ConfigTypes.Edit.TheVariants.{Put, Delete}
use Rattle.schedule_script.specs.ConfigTypes.Object.TheVariants as Objects
use Rattle.schedule_script.specs.ConfigTypes.ObjectKind.TheVariants as Kinds
use Rattle.schedule_script.specs.ConfigCheck.Checked.{Checked}
use Rattle.schedule_script.specs.ConfigCheck.Finding.{node_named}
use Rattle.schedule_script.specs.ConfigCheck.EditLaws.{Appends, Removes, Replaces}
use Rattle.schedule_script.specs.ConfigCheck.Edits.{edit_fault, edited as checked_edited, edited_config, edited_topology, node_name, with_put, without}
use Rattle.schedule_script.proofs.ConfigCheck.EditLaws.{node_deleted, node_put}
use Rattle.schedule_script.specs.ConfigCheck.Rules.{controller_names, node_names}
use Rattle.transform_model.specs.NodeModel.Members.{Member}
use Rattle.transform_model.proofs.NodeModel.Members.{in_filter, in_left, in_map, in_right}
use Rattle.machine_model.specs.Setup.{Name, Move, Setup, checked, edited, edited_without, listed_by, lists, moves, remade, renumbered, stands}
use Rattle.machine_model.specs.Session.{Controller, Agent, Message, Session}
use Rattle.machine_model.specs.Network.{AreNamed, MachineState, accesses, accesses_of, asked, between, brought, config, feeds, is_of, peerings, replaced, same_role, start}
use Rattle.machine_model.specs.Events.{MachineEvent, after, edits, moved, next}
use Rattle.machine_model.specs.Moments.{EditIsValid, EditsAreValid, HasSessions, IsLaidOut, LaidOut, NodePair, WhereLaidOut, nodes}
use Rattle.machine_model.proofs.Distinct.{Apart, apart_of, apart_right, same_false}
use Rattle.machine_model.proofs.Walk.{next_walk}
use Rattle.machine_model.proofs.NodesFact.{Holds, holds_steps, pass_nodes}
use Rattle.machine_model.proofs.Changing.{Renews, found_alone, found_member, not_missing, renews, stood}
use Rattle.machine_model.proofs.Listed.{moved_nodes, moved_setup, resessioned}

-- ---- lists
map_joined : (ss ts : List Session) → map nodes (ss ++ ts) ≡ map nodes ss ++ map nodes ts
map_joined [] ts = refl
map_joined (s ∷ ss) ts = ap (λ (ps : List NodePair). nodes s ∷ ps) (map_joined ss ts)

joined : (ps qs rs : List NodePair) → (ps ++ qs) ++ rs ≡ ps ++ (qs ++ rs)
joined [] qs rs = refl
joined (p ∷ ps) qs rs = ap (λ (xs : List NodePair). p ∷ xs) (joined ps qs rs)

joined_none : (ps : List NodePair) → ps ++ [] ≡ ps
joined_none [] = refl
joined_none (p ∷ ps) = ap (λ (xs : List NodePair). p ∷ xs) (joined_none ps)

abbrev asked_of : List NodeId → List Node → List NodePair
asked_of cs ns = map nodes ((feeds cs ++ peerings cs) ++ accesses cs ns)

-- ---- the same of the nodes of sessions alone
module _ (name : Name) where
  abbrev is_link : NodePair → Bool
  is_link p = same_name p.1.0 name && same_role Agent p.1.1

  abbrev others_of : List NodePair → List NodePair
  others_of ps = filter (λ p. not (is_link p)) ps

  abbrev IsNone : List NodePair → Type 0
  IsNone ps = AllByRecursion (λ p. is_link p ≡ false) ps

  abbrev AreAll : List NodePair → Type 0
  AreAll ps = AllByRecursion (λ p. is_link p ≡ true) ps

  abbrev pub relinked : List NodePair → List NodePair → List NodePair
  relinked new [] = new
  relinked new (p ∷ ps) = cond (is_link p) (new ++ others_of ps) (p ∷ relinked new ps)

  others_nodes : (ss : List Session) → map nodes (filter (λ s. not (is_of name s)) ss) ≡ others_of (map nodes ss)
  others_nodes [] = refl
  others_nodes (s ∷ ss) =
      elim (is_of name s) as (λ b. map nodes (cond (not b) (s ∷ filter (λ s. not (is_of name s)) ss) (filter (λ s. not (is_of name s)) ss)) ≡ cond (not b) (nodes s ∷ others_of (map nodes ss)) (others_of (map nodes ss))) [
        | true ↦ others_nodes ss
        | false ↦ ap (λ (ps : List NodePair). nodes s ∷ ps) (others_nodes ss)
      ]

  pub replaced_nodes : (new ss : List Session) → map nodes (replaced name new ss) ≡ relinked (map nodes new) (map nodes ss)
  replaced_nodes new [] = refl
  replaced_nodes new (s ∷ ss) =
      elim (is_of name s) as (λ b. map nodes (cond b (new ++ filter (λ s. not (is_of name s)) ss) (s ∷ replaced name new ss)) ≡ cond b (map nodes new ++ others_of (map nodes ss)) (nodes s ∷ relinked (map nodes new) (map nodes ss))) [
        | true ↦ map_joined new (filter (λ s. not (is_of name s)) ss) ∙ ap (λ (ps : List NodePair). map nodes new ++ ps) (others_nodes ss)
        | false ↦ ap (λ (ps : List NodePair). nodes s ∷ ps) (replaced_nodes new ss)
      ]

  others_kept : (ps : List NodePair) → IsNone ps → others_of ps ≡ ps
  others_kept [] h = refl
  others_kept (p ∷ ps) h = ap (λ b. cond (not b) (p ∷ others_of ps) (others_of ps)) h.0 ∙ ap (λ (qs : List NodePair). p ∷ qs) (others_kept ps h.1)

  others_gone : (ps qs : List NodePair) → AreAll ps → others_of (ps ++ qs) ≡ others_of qs
  others_gone [] qs h = refl
  others_gone (p ∷ ps) qs h = ap (λ b. cond (not b) (p ∷ others_of (ps ++ qs)) (others_of (ps ++ qs))) h.0 ∙ others_gone ps qs h.1

  -- those before stay
  passed_by : (new ps qs : List NodePair) → IsNone ps → relinked new (ps ++ qs) ≡ ps ++ relinked new qs
  passed_by new [] qs h = refl
  passed_by new (p ∷ ps) qs h = ap (λ b. cond b (new ++ others_of (ps ++ qs)) (p ∷ relinked new (ps ++ qs))) h.0 ∙ ap (λ (xs : List NodePair). p ∷ xs) (passed_by new ps qs h.1)

  -- new ones come in the place of the old ones, where there are some, and else after all
  in_place : (new : List NodePair) (p : NodePair) (ps qs : List NodePair) → is_link p ≡ true → AreAll ps → IsNone qs → relinked new (p ∷ ps ++ qs) ≡ new ++ qs
  in_place new p ps qs e h g =
      ap (λ b. cond b (new ++ others_of (ps ++ qs)) (p ∷ relinked new (ps ++ qs))) e
      ∙ ap (λ (xs : List NodePair). new ++ xs) (others_gone ps qs h ∙ others_kept qs g)

  all_left : (qs : List NodePair) → IsNone qs → relinked [] qs ≡ qs
  all_left [] g = refl
  all_left (q ∷ qs) g = ap (λ b. cond b (others_of qs) (q ∷ relinked [] qs)) g.0 ∙ ap (λ (xs : List NodePair). q ∷ xs) (all_left qs g.1)

  none_left : (ps qs : List NodePair) → AreAll ps → IsNone qs → relinked [] (ps ++ qs) ≡ qs
  none_left [] qs h g = all_left qs g
  none_left (p ∷ ps) qs h g = ap (λ b. cond b (others_of (ps ++ qs)) (p ∷ relinked [] (ps ++ qs))) h.0 ∙ others_gone ps qs h.1 ∙ others_kept qs g

  at_end : (new ps : List NodePair) → IsNone ps → relinked new ps ≡ ps ++ new
  at_end new [] h = refl
  at_end new (p ∷ ps) h = ap (λ b. cond b (new ++ others_of ps) (p ∷ relinked new ps)) h.0 ∙ ap (λ (xs : List NodePair). p ∷ xs) (at_end new ps h.1)

  none_joined : (ps qs : List NodePair) → IsNone ps → IsNone qs → IsNone (ps ++ qs)
  none_joined [] qs h g = g
  none_joined (p ∷ ps) qs h g = (h.0, none_joined ps qs h.1 g)

  -- ---- what a topology asks for
  not_agent : (b : Bool) → (b && false) ≡ false
  not_agent true = refl
  not_agent false = refl

  feeds_other : (cs : List NodeId) → IsNone (map nodes (feeds cs))
  feeds_other [] = tt
  feeds_other (c ∷ cs) = (not_agent (same_name c.name name), feeds_other cs)

  peers_other : (cs : List NodeId) → IsNone (map nodes (peerings cs))
  peers_other [] = tt
  peers_other (c ∷ cs) = subst IsNone (sym (map_joined (map (λ (d : NodeId). between c.name Controller d.name Controller) cs) (peerings cs))) (none_joined _ _ (each cs) (peers_other cs))
    where
      each : (ds : List NodeId) → IsNone (map nodes (map (λ (d : NodeId). between c.name Controller d.name Controller) ds))
      each [] = tt
      each (d ∷ ds) = (not_agent (same_name d.name name), each ds)

  is_agent : (b : Bool) → (b && true) ≡ b
  is_agent true = refl
  is_agent false = refl

  module _ (cs : List NodeId) where
    abbrev links : Node → List NodePair
    links n = map nodes (accesses_of cs n)

    abbrev all_links : List Node → List NodePair
    all_links ns = map nodes (accesses cs ns)

    links_other : (n : Node) → (n.name ≡ name → ⊥) → IsNone (links n)
    links_other n h = each (filter (lists n) cs)
      where
        each : (ds : List NodeId) → IsNone (map nodes (map (λ (c : NodeId). between c.name Controller n.name Agent) ds))
        each [] = tt
        each (d ∷ ds) = (is_agent (same_name n.name name) ∙ same_false n.name name h, each ds)

    links_own : (n : Node) → n.name ≡ name → AreAll (links n)
    links_own n e = each (filter (lists n) cs)
      where
        each : (ds : List NodeId) → AreAll (map nodes (map (λ (c : NodeId). between c.name Controller n.name Agent) ds))
        each [] = tt
        each (d ∷ ds) = (is_agent (same_name n.name name) ∙ (bytes_decides n.name name).1 e, each ds)

    all_other : (ns : List Node) → ((n : Node) → Member n ns → n.name ≡ name → ⊥) → IsNone (all_links ns)
    all_other [] h = tt
    all_other (n ∷ ns) h = subst IsNone (sym (map_joined (accesses_of cs n) (accesses cs ns))) (none_joined (links n) (all_links ns) (links_other n (h n (inl refl))) (all_other ns (λ k m. h k (inr m))))

    links_joined : (before after : List Node) → all_links (before ++ after) ≡ all_links before ++ all_links after
    links_joined [] after = refl
    links_joined (n ∷ before) after =
        map_joined (accesses_of cs n) (accesses cs (before ++ after))
        ∙ ap (λ (ps : List NodePair). links n ++ ps) (links_joined before after)
        ∙ sym (joined (links n) (all_links before) (all_links after))
        ∙ ap (λ (ps : List NodePair). ps ++ all_links after) (sym (map_joined (accesses_of cs n) (accesses cs before)))

    -- a node among others
    links_around : (n : Node) (before after : List Node) → all_links (before ++ n ∷ after) ≡ all_links before ++ (links n ++ all_links after)
    links_around n before after = links_joined before (n ∷ after) ∙ ap (λ (ps : List NodePair). all_links before ++ ps) (map_joined (accesses_of cs n) (accesses cs after))

    abbrev front : List NodePair
    front = map nodes (feeds cs ++ peerings cs)

    front_other : IsNone front
    front_other = subst IsNone (sym (map_joined (feeds cs) (peerings cs))) (none_joined (map nodes (feeds cs)) (map nodes (peerings cs)) (feeds_other cs) (peers_other cs))

    asked_parts : (ns : List Node) → asked_of cs ns ≡ front ++ all_links ns
    asked_parts ns = map_joined (feeds cs ++ peerings cs) (accesses cs ns)

    module _ (old : Node) (before after : List Node) (named : old.name ≡ name) (others : (n : Node) → Member n (before ++ after) → n.name ≡ name → ⊥) where
      before_other : IsNone (all_links before)
      before_other = all_other before (λ n m. others n (in_left n before after m))

      after_other : IsNone (all_links after)
      after_other = all_other after (λ n m. others n (in_right n before after m))

      -- what is left of a list of sessions, from those of the node on
      from_there : (new : List NodePair) → relinked new (asked_of cs (before ++ old ∷ after)) ≡ front ++ (all_links before ++ relinked new (links old ++ all_links after))
      from_there new =
          ap (relinked new) (asked_parts (before ++ old ∷ after) ∙ ap (λ (ps : List NodePair). front ++ ps) (links_around old before after))
          ∙ passed_by new front (all_links before ++ (links old ++ all_links after)) front_other
          ∙ ap (λ (ps : List NodePair). front ++ ps) (passed_by new (all_links before) (links old ++ all_links after) before_other)

      pub asked_replaced : (now : Node) → (links old ≡ [] → ⊥) → relinked (links now) (asked_of cs (before ++ old ∷ after)) ≡ asked_of cs (before ++ now ∷ after)
      asked_replaced now some =
          from_there (links now)
          ∙ ap (λ (ps : List NodePair). front ++ (all_links before ++ ps)) (in_their_place (links old) some (links_own old named))
          ∙ sym (asked_parts (before ++ now ∷ after) ∙ ap (λ (ps : List NodePair). front ++ ps) (links_around now before after))
        where
          in_their_place : (ps : List NodePair) → (ps ≡ [] → ⊥) → AreAll ps → relinked (links now) (ps ++ all_links after) ≡ links now ++ all_links after
          in_their_place [] some h = absurd (some refl)
          in_their_place (p ∷ ps) some h = in_place (links now) p ps (all_links after) h.0 h.1 after_other

      pub asked_removed : relinked [] (asked_of cs (before ++ old ∷ after)) ≡ asked_of cs (before ++ after)
      asked_removed =
          from_there []
          ∙ ap (λ (ps : List NodePair). front ++ (all_links before ++ ps)) (none_left (links old) (all_links after) (links_own old named) after_other)
          ∙ sym (asked_parts (before ++ after) ∙ ap (λ (ps : List NodePair). front ++ ps) (links_joined before after))

    pub asked_appended : (now : Node) (ns : List Node) → ((n : Node) → Member n ns → n.name ≡ name → ⊥) → relinked (links now) (asked_of cs ns) ≡ asked_of cs (ns ++ now ∷ [])
    asked_appended now ns others =
        at_end (links now) (asked_of cs ns) (subst IsNone (sym (asked_parts ns)) (none_joined front (all_links ns) front_other (all_other ns others)))
        ∙ ap (λ (ps : List NodePair). ps ++ links now) (asked_parts ns)
        ∙ joined front (all_links ns) (links now)
        ∙ sym (asked_parts (ns ++ now ∷ []) ∙ ap (λ (ps : List NodePair). front ++ ps) (links_around now ns [] ∙ ap (λ (ps : List NodePair). all_links ns ++ ps) (joined_none (links now))))

-- ---- what an edit makes of what is asked for
pub contains_of : {A : Type 0} (xs : List A) (x : A) → Member x xs → Contains xs x
contains_of [] x m = absurd m
contains_of (y ∷ ys) x (inl e) = subst (Contains (y ∷ ys)) e (contains_here y ys)
contains_of (y ∷ ys) x (inr m) = contains_later x y ys (contains_of ys x m)

pub apart_others : (r : Node) (before after : List Node) → Apart (map (λ (n : Node). n.name) (before ++ r ∷ after)) → (k : Node) → Member k (before ++ after) → k.name ≡ r.name → ⊥
apart_others r [] after a k m e = a.0 k.name (in_map (λ (n : Node). n.name) k after m) (sym e)
apart_others r (b ∷ before) after a k (inl is) e =
    a.0 r.name (in_map (λ (n : Node). n.name) r (before ++ r ∷ after) (in_right r before (r ∷ after) (inl refl))) (ap (λ (n : Node). n.name) is ∙ e)
apart_others r (b ∷ before) after a k (inr m) e = apart_others r before after a.1 k m e

not_none : (cs : List NodeId) (n : Node) (c : NodeId) → Member c cs → lists n c ≡ true → map nodes (accesses_of cs n) ≡ [] → ⊥
not_none cs n c m e h = by (filter (lists n) cs) (in_filter (lists n) c cs m e) h
  where
    by : (ds : List NodeId) → Member c ds → map nodes (map (λ (c : NodeId). between c.name Controller n.name Agent) ds) ≡ [] → ⊥
    by [] m h = m
    by (d ∷ ds) m h = cc

abbrev pub relinked_by : Option Move → List NodeId → List NodePair → List NodePair
relinked_by None cs ps = ps
relinked_by (Some m) cs ps = relinked m.name (map nodes (brought cs m.now)) ps

pub resessioned_nodes : (o : Option Move) (cs : List NodeId) (ss : List Session) → map nodes (resessioned o cs ss) ≡ relinked_by o cs (map nodes ss)
resessioned_nodes None cs ss = refl
resessioned_nodes (Some m) cs ss = replaced_nodes m.name (brought cs m.now) ss

-- by its name and the control nodes that it lists
same_links : (cs : List NodeId) (r n : Node) → r.name ≡ n.name → r.controllers ≡ n.controllers → map nodes (accesses_of cs r) ≡ map nodes (accesses_of cs n)
same_links cs r n e f =
    ap (λ (k : Name). map nodes (map (λ (c : NodeId). between c.name Controller k Agent) (filter (λ (c : NodeId). list_any (same_name c.name) r.controllers) cs))) e
    ∙ ap (λ (ns : List Name). map nodes (map (λ (c : NodeId). between c.name Controller n.name Agent) (filter (λ (c : NodeId). list_any (same_name c.name) ns) cs))) f

pub names_of_nodes : (t : Topology) → AreNamed t → Apart (node_names t)
names_of_nodes t named = apart_right (controller_names t) (node_names t) (apart_of (config ∷ controller_names t ++ node_names t) named).1

asked_by_put : (n : Node) (x : Checked) → IsLaidOut x.topology → relinked_by (moves (Put (Objects.Node n)) x.topology) x.topology.controllers (map nodes (asked x.topology)) ≡ map nodes (asked (edited_topology (Put (Objects.Node n)) x.topology))
unfolding edited_topology edited_config
asked_by_put n x l =
    let t = x.topology in
    let cs = t.controllers in
    let new : List Node = with_put node_name n t.nodes in
    let p = node_put n x in
    let is : p.0 ≡ new = sym (ap (λ (v : Checked). v.topology.nodes) p.2) in
    let how : Replaces node_name n t.nodes new ⊎ Appends node_name n t.nodes new = subst (λ (ns : List Node). Replaces node_name n t.nodes ns ⊎ Appends node_name n t.nodes ns) is p.1 in
    let apart : Apart (node_names t) = names_of_nodes t l.apart in
    let goal : Option Move → Type 0 = λ o. relinked_by o cs (map nodes (asked t)) ≡ asked_of cs new in
    elim how as (λ _. goal (cond (stands (node_named t n.name) n) None (Some (record { name = n.name; left = listed_by (node_named t n.name); now = Some n })))) [
      | inl r ↦
          let apart_here : Apart (map (λ (n : Node). n.name) (r.before ++ r.replaced ∷ r.after)) = subst (λ (ns : List Node). Apart (map (λ (n : Node). n.name) ns)) r.was apart in
          let there : Member r.replaced t.nodes = subst (Member r.replaced) (sym r.was) (in_right r.replaced r.before (r.replaced ∷ r.after) (inl refl)) in
          let found : node_named t n.name ≡ Some r.replaced = subst (λ (k : Name). node_named t k ≡ Some r.replaced) r.named (found_alone r.replaced t.nodes apart there) in
          elim (stands (node_named t n.name) n) as (λ b. stands (node_named t n.name) n ≡ b → goal (cond b None (Some (record { name = n.name; left = listed_by (node_named t n.name); now = Some n })))) [
            | true ↦ λ e.
                let same : r.replaced.controllers ≡ n.controllers = ap listed_by (sym found) ∙ stood (node_named t n.name) n e in
                ap (asked_of cs) r.was
                ∙ asked_parts n.name cs (r.before ++ r.replaced ∷ r.after)
                ∙ ap (λ (ps : List NodePair). map nodes (feeds cs ++ peerings cs) ++ ps)
                (links_around n.name cs r.replaced r.before r.after
                ∙ ap (λ (ps : List NodePair). map nodes (accesses cs r.before) ++ (ps ++ map nodes (accesses cs r.after))) (same_links cs r.replaced n r.named same)
                ∙ sym (links_around n.name cs n r.before r.after))
                ∙ sym (asked_parts n.name cs (r.before ++ n ∷ r.after))
                ∙ ap (asked_of cs) (sym r.is)
            | false ↦ λ _.
                let some = l.listing r.replaced there in
                ap (λ (ns : List Node). relinked n.name (map nodes (accesses_of cs n)) (asked_of cs ns)) r.was
                ∙ asked_replaced n.name cs r.replaced r.before r.after r.named (λ k m e. apart_others r.replaced r.before r.after apart_here k m (e ∙ sym r.named)) n (not_none cs r.replaced some.0 some.1 some.2)
                ∙ ap (asked_of cs) (sym r.is)
          ] refl
      | inr a ↦
          let fresh : (k : Node) → Member k t.nodes → k.name ≡ n.name → ⊥ = λ k m. All-contains (λ (y : Node). y.name ≢ n.name) t.nodes k a.fresh (contains_of t.nodes k m) in
          elim (stands (node_named t n.name) n) as (λ b. stands (node_named t n.name) n ≡ b → goal (cond b None (Some (record { name = n.name; left = listed_by (node_named t n.name); now = Some n })))) [
            | true ↦ λ e. absurd (stands_there (node_named t n.name) n e refl (λ k f. let q = found_member n.name t.nodes k f in fresh k q.0 q.1))
            | false ↦ λ _. asked_appended n.name cs n t.nodes fresh ∙ ap (asked_of cs) (sym a.is)
          ] refl
    ]
  where
    stands_there : (o : Option Node) (n : Node) → stands o n ≡ true → node_named x.topology n.name ≡ o → ((k : Node) → node_named x.topology n.name ≡ Some k → ⊥) → ⊥
    stands_there None n e f h = true≢false (sym e)
    stands_there (Some k) n e f h = h k f

asked_by_delete : (name : Name) (x : Checked) → edit_fault x (Delete Kinds.Node name) ≡ None → IsLaidOut x.topology → relinked_by (moves (Delete Kinds.Node name) x.topology) x.topology.controllers (map nodes (asked x.topology)) ≡ map nodes (asked (edited_topology (Delete Kinds.Node name) x.topology))
unfolding edited_topology edited_config
asked_by_delete name x h l =
    let t = x.topology in
    let cs = t.controllers in
    let new : List Node = without node_name name t.nodes in
    let p = node_deleted name x (not_missing x (Delete Kinds.Node name) h) in
    let is : p.0 ≡ new = sym (ap (λ (v : Checked). v.topology.nodes) p.2) in
    let r : Removes node_name name t.nodes new = subst (Removes node_name name t.nodes) is p.1 in
    let apart : Apart (map (λ (n : Node). n.name) (r.before ++ r.removed ∷ r.after)) = subst (λ (ns : List Node). Apart (map (λ (n : Node). n.name) ns)) r.was (names_of_nodes t l.apart) in
    ap (λ (ns : List Node). relinked name [] (asked_of cs ns)) r.was
    ∙ asked_removed name cs r.removed r.before r.after r.named (λ k m e. apart_others r.removed r.before r.after apart k m (e ∙ sym r.named))
    ∙ ap (asked_of cs) (sym r.is)

asked_by : (x : Checked) (e : Edit) → edit_fault x e ≡ None → IsLaidOut x.topology → relinked_by (moves e x.topology) x.topology.controllers (map nodes (asked x.topology)) ≡ map nodes (asked (edited_topology e x.topology))
unfolding edited_topology
asked_by x (Put (Objects.Node n)) h l = asked_by_put n x l
asked_by x (Delete Kinds.Node name) h l = asked_by_delete name x h l
asked_by x (Put (Objects.Network n)) h l = refl
asked_by x (Put (Objects.Port n)) h l = refl
asked_by x (Put (Objects.Policy n)) h l = refl
asked_by x (Put (Objects.Service n)) h l = refl
asked_by x (Put (Objects.Chain n)) h l = refl
asked_by x (Delete Kinds.Network name) h l = refl
asked_by x (Delete Kinds.Port name) h l = refl
asked_by x (Delete Kinds.Policy name) h l = refl
asked_by x (Delete Kinds.Service name) h l = refl
asked_by x (Delete Kinds.Chain name) h l = refl

-- ---- at every moment
abbrev IsAsked : Setup → List NodePair → Type 0
IsAsked x ps = ps ≡ map nodes (asked x.topology)

asked_edits : (d : Edit) (w : MachineState) → IsLaidOut w.setup.topology → HasSessions w → HasSessions (edits (moves d w.setup.topology) (edited w.setup d) w)
asked_edits d w l a =
    let x = w.setup in
    let m = moves d x.topology in
    elim (edit_fault (checked x) d) as (λ o. edit_fault (checked x) d ≡ o → HasSessions (edits m (edited_without o x d) w)) [
      | None ↦ λ none.
          let y : Setup = remade (checked_edited d (checked x)) (renumbered m x.numbers) in
          let v : MachineState = record { setup = y; sessions = w.sessions } in
          let r : Renews x.topology y.topology m = renews (checked x) d none in
          pass_nodes config (moved m v)
          ∙ moved_nodes m v
          ∙ resessioned_nodes m y.topology.controllers w.sessions
          ∙ ap (λ (cs : List NodeId). relinked_by m cs (map nodes w.sessions)) r.controllers
          ∙ ap (relinked_by m x.topology.controllers) a
          ∙ asked_by (checked x) d none l
          ∙ ap (λ (z : Setup). map nodes (asked z.topology)) (sym (moved_setup m v))
      | Some f ↦ λ _. a
    ] refl

module _ (size : Name → Message → ℕ) where
  abbrev pub both : Setup → List NodePair → Type 0
  both x ps = IsLaidOut x.topology × IsAsked x ps

  module _ (w : MachineState) (l : IsLaidOut w.setup.topology) (a : HasSessions w) where
    laid_edit : (d : Edit) → ((y : Setup) → edited w.setup d ≡ Some y → LaidOut y) → IsLaidOut (edits (moves d w.setup.topology) (edited w.setup d) w).setup.topology
    laid_edit d ok =
        elim (edited w.setup d) as (λ o. edited w.setup d ≡ o → IsLaidOut (edits (moves d w.setup.topology) o w).setup.topology) [
          | None ↦ λ _. l
          | Some y ↦ λ is. subst (λ (z : Setup). IsLaidOut z.topology) (sym (moved_setup (moves d w.setup.topology) (record { setup = y; sessions = w.sessions }))) (ok y is)
        ] refl

    next_laid : (e : MachineEvent) → EditIsValid LaidOut w e → Holds both (next size w e)
    next_laid e ok = next_walk size (Holds both) (holds_steps size both) w e (λ d is q. (laid_edit d (subst (EditIsValid LaidOut w) is ok), asked_edits d w l a)) (l, a)

  pub after_laid : (w : MachineState) (es : List MachineEvent) → EditsAreValid size LaidOut w es → Holds both w → Holds both (after size w es)
  after_laid w [] v q = q
  after_laid w (e ∷ es) v q = after_laid (next size w e) es v.1 (next_laid w q.0 q.1 e v.0)

pub sessions_are_asked : WhereLaidOut (λ size w. IsLaidOut w.setup.topology × HasSessions w)
sessions_are_asked size positive x l es v = after_laid size (start x) es v (l, refl)
