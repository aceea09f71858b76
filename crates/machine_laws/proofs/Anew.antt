-- What stands between control nodes and a compute node that an edit moves.
use Rattle.std.specs.Prelude.{◌≡◌, ℕ, List, [], ◌∷◌, ◌++◌, map, Bool, true, false, cond, is_some, ◌&&◌}
use Rattle.std.specs.declared.option.Option.{Option}
use Rattle.std.specs.declared.option.Option.TheVariants.{Some, None}
use Rattle.std.specs.List.{filter, list_any}
use Rattle.std.specs.Cmp.Lexicographic.{bytes_decides}
use Rattle.std.proofs.lemmas.Bool.{true≢false, and_parts, false_from_ne_true}
use Rattle.std.proofs.Common.{refl, sym, ◌∙◌, ap, subst, inl, inr}
use Rattle.ov_types.specs.First.{same_name}
use Rattle.ov_types.specs.declared.rows.NodeId.{NodeId}
use Rattle.config_types.specs.declared.edit.Edit.{Edit}
use Rattle.config_types.specs.declared.topology.Node.{Node}
use Rattle.config_types.specs.declared.topology.Topology.{Topology}
use Rattle.schedule_script.specs.ConfigCheck.Checked.{Checked}
use Rattle.schedule_script.specs.ConfigCheck.Edits.{edit_fault, edited as checked_edited, edited_topology}
use Rattle.schedule_script.specs.ConfigCheck.Finding.{node_named}
use Rattle.schedule_script.specs.ConfigCheck.Rules.{controller_names, node_names}
use Rattle.schedule_script.specs.ConfigCheck.EditFault.{EditFault}
use Rattle.node_laws.specs.NodeModel.Members.{Member}
use Rattle.node_laws.proofs.NodeModel.Members.{from_map, in_either, in_filter, in_flat_map, in_map, in_right}
use Rattle.machine_model.specs.Setup.{Name, Move, Setup, checked, edited_without, listed_by, lists, moves, remade, renumbered}
use Rattle.machine_model.specs.Session.{Agent, Controller, Message, Session, passed, turned}
use Rattle.machine_model.specs.Network.{MachineState, accesses, accesses_of, asked, between, brought, config, feeds, is_at, is_of, peerings, replaced, same_role, start, view, views_of, wanted}
use Rattle.machine_model.specs.Steps.{at_node, joins, pass, session_in, session_of}
use Rattle.machine_model.specs.Events.{MachineEvent, Edits, after, edits, moved, next, passes}
use Rattle.machine_model.specs.Moments.{Each, EditIsValid, EditsAreValid, HasSessions, IsLaidOut, LaidOut, NodePair, WhereLaidOut, nodes}
use Rattle.machine_model.specs.Deeds.{IsNew}
use Rattle.machine_model.proofs.Apart.{NamesApart, access_link, access_session, feed_session, from_accesses, from_peerings, names_apart}
use Rattle.machine_model.proofs.Asking.{sessions_are_asked}
use Rattle.machine_model.proofs.Changing.{MoverIs, Renews, found_alone, found_member, renews}
use Rattle.machine_model.proofs.Deeds.{edit_made}
use Rattle.machine_model.proofs.Distinct.{apart_of}
use Rattle.machine_model.proofs.Moving.{node_leaves}
use Rattle.machine_model.proofs.NetworkFact.{at_node_nodes, passed_nodes}
use Rattle.machine_model.proofs.Replaced.{each_of, each_replaced}
use Rattle.machine_model.proofs.Turns.{laid_apart}
use Rattle.machine_model.proofs.Twins.{Found, NoTwins, found_each}
use Rattle.machine_laws.specs.Closing.{MovesNode, anew}

-- ---- of a session nothing is there
abbrev blank : NodePair → Session
blank p = between p.0.0 p.0.1 p.1.0 p.1.1

abbrev IsBlankFor : Name → Session → Type 0
IsBlankFor name s = is_of name s ≡ true → s ≡ blank (nodes s)

blank_new : (p : NodePair) → IsNew (blank p)
blank_new p = record {
  down = refl;
  near = record { phase = refl; notice = refl; sent = refl; held = refl; flight = refl };
  far = record { phase = refl; notice = refl; sent = refl; held = refl; flight = refl };
}

module _ (name : Name) where
  nodes_leave : (n : Name) (w : MachineState) (ss : List Session) → Each (IsBlankFor name) ss → Each (IsBlankFor name) (map (at_node n (λ s. passed (wanted w.setup (views_of n w.sessions) (view s)) s)) ss)
  nodes_leave n w [] e = tt
  nodes_leave n w (s ∷ ss) e =
      let W = λ (s : Session). wanted w.setup (views_of n w.sessions) (view s) in
      let t : Session = at_node n (λ s. passed (W s) s) s in
      let kept : nodes t ≡ nodes s = at_node_nodes n (λ s. passed (W s) s) (λ s. passed_nodes (W s) s) s in
      let same : is_of name t ≡ is_of name s = ap (λ (p : NodePair). same_name p.1.0 name && same_role Agent p.1.1) kept in
      ((λ is. let here = e.0 (sym same ∙ is) in node_leaves n W s (subst IsNew (sym here) (blank_new (nodes s))) ∙ here ∙ ap blank (sym kept)), nodes_leave n w ss e.1)

  passes_leave : (ns : List Name) (w : MachineState) → Each (IsBlankFor name) w.sessions → Each (IsBlankFor name) (passes ns w).sessions
  passes_leave [] w e = e
  passes_leave (n ∷ ns) w e = passes_leave ns (pass n w) (nodes_leave n w w.sessions e)

units : (ss : List Session) → Each (λ _. Unit {0}) ss
units [] = tt
units (s ∷ ss) = (tt, units ss)

brought_blank : (name : Name) (cs : List NodeId) (o : Option Node) → Each (IsBlankFor name) (brought cs o)
brought_blank name cs None = tt
brought_blank name cs (Some n) = each_of (IsBlankFor name) (λ (c : NodeId). between c.name Controller n.name Agent) (λ c is. refl) (filter (lists n) cs)

moved_blank : (m : Move) (v : MachineState) → Each (IsBlankFor m.name) (pass config (moved (Some m) v)).sessions
moved_blank m v =
    let u : MachineState = record { setup = v.setup; sessions = replaced m.name (brought v.setup.topology.controllers m.now) v.sessions } in
    nodes_leave m.name config (passes m.left u) (passes m.left u).sessions
    (passes_leave m.name m.left u
    (each_replaced (λ _. Unit {0}) (IsBlankFor m.name) m.name (λ s off _ is. absurd (true≢false (sym is ∙ off))) (brought v.setup.topology.controllers m.now) v.sessions
    (brought_blank m.name v.setup.topology.controllers m.now) (units v.sessions)))

edit_blank : (size : Name → Message → ℕ) (w : MachineState) (d : Edit) (m : Move) → edit_fault (checked w.setup) d ≡ None → moves d w.setup.topology ≡ Some m → Each (IsBlankFor m.name) (next size w (Edits d)).sessions
unfolding next
edit_blank size w d m none is =
    let y : Setup = remade (checked_edited d (checked w.setup)) (renumbered (moves d w.setup.topology) w.setup.numbers) in
    subst (λ (f : Option EditFault). Each (IsBlankFor m.name) (edits (moves d w.setup.topology) (edited_without f w.setup d) w).sessions) (sym none)
    (subst (λ (o : Option Move). Each (IsBlankFor m.name) (pass config (moved o (record { setup = y; sessions = w.sessions }))).sessions) (sym is) (moved_blank m (record { setup = y; sessions = w.sessions })))

-- ---- the sessions that a topology asks for with the compute node of a name
module _ (t : Topology) (laid : IsLaidOut t) (ss : List Session) (stand : map nodes ss ≡ map nodes (asked t)) (name : Name) (no_config : name ≡ config → ⊥) (no_site : Member name (controller_names t) → ⊥) (empty : Each (IsBlankFor name) ss) (apart : NoTwins (map nodes ss)) (c : NodeId) (there : Member c t.controllers) where
  names : NamesApart t
  names = names_apart t (apart_of (config ∷ controller_names t ++ node_names t) laid.apart)

  abbrev listed : Option Node → Bool
  listed o = list_any (same_name c.name) (listed_by o)

  site : (d : NodeId) → Member d t.controllers → Member d.name (controller_names t)
  site d m = in_map (λ (d : NodeId). d.name) d t.controllers m

  -- it lists the control node
  in_sessions : (n : Node) → Member n t.nodes → lists n c ≡ true → (s : Session) × Member s ss × (nodes s ≡ access_link c n)
  in_sessions n m l =
      let access : Member (access_session c n) (asked t) =
      in_right (access_session c n) (feeds t.controllers ++ peerings t.controllers) (accesses t.controllers t.nodes)
      (in_flat_map (accesses_of t.controllers) n (access_session c n) t.nodes m (in_map (λ (c : NodeId). access_session c n) c (filter (lists n) t.controllers) (in_filter (lists n) c t.controllers there l))) in
      from_map nodes (access_link c n) ss (subst (Member (access_link c n)) (sym stand) (in_map nodes (access_session c n) (asked t) access))

  each_there : (P : Session → Type 0) (us : List Session) (s : Session) → Each P us → Member s us → P s
  each_there P [] s e m = absurd m
  each_there P (u ∷ us) s e (inl is) = subst P is e.0
  each_there P (u ∷ us) s e (inr m) = each_there P us s e.1 m

  one_stands : (n : Node) → Member n t.nodes → n.name ≡ name → lists n c ≡ true → session_in ss c.name name ≡ Some (between c.name Controller name Agent)
  one_stands n m is l =
      let q = in_sessions n m l in
      let s = q.0 in
      let found : Found ss s = each_there (Found ss) ss s (found_each ss apart) q.1 in
      let of_it : is_of name s ≡ true = ap (λ (p : NodePair). same_name p.1.0 name && same_role Agent p.1.1) q.2 ∙ ap (λ b. b && true) ((bytes_decides n.name name).1 is) in
      let new : s ≡ blank (nodes s) = each_there (IsBlankFor name) ss s empty q.1 of_it in
      let whole : s ≡ between c.name Controller name Agent = new ∙ ap blank q.2 ∙ ap (λ (k : Name). between c.name Controller k Agent) is in
      ap (λ (k : Name). session_in ss k name) (ap (λ (p : NodePair). p.0.0) (sym q.2))
      ∙ ap (λ (k : Name). session_in ss s.near.name k) (sym is ∙ ap (λ (p : NodePair). p.1.0) (sym q.2))
      ∙ found.0
      ∙ ap Some whole

  -- it does not
  abbrev IsNotIt : NodePair → Type 0
  IsNotIt p = (p.0.0 ≡ c.name → p.1.0 ≡ name → ⊥) × (p.0.0 ≡ name → p.1.0 ≡ c.name → ⊥)

  none_joins : (us : List Session) → ((s : Session) → Member s us → IsNotIt (nodes s)) → session_in us c.name name ≡ None
  none_joins [] h = refl
  none_joins (s ∷ us) h =
      let p = h s (inl refl) in
      let off : joins c.name name s ≡ false = false_from_ne_true (joins c.name name s) (λ e. let q = and_parts (is_at c.name s.near) (is_at name s.far) e in p.0 ((bytes_decides s.near.name c.name).0 q.0) ((bytes_decides s.far.name name).0 q.1)) in
      let off_back : joins name c.name s ≡ false = false_from_ne_true (joins name c.name s) (λ e. let q = and_parts (is_at name s.near) (is_at c.name s.far) e in p.1 ((bytes_decides s.near.name name).0 q.0) ((bytes_decides s.far.name c.name).0 q.1)) in
      ap (λ b. cond b (Some s) (cond (joins name c.name s) (Some (turned s)) (session_in us c.name name))) off
      ∙ ap (λ b. cond b (Some (turned s)) (session_in us c.name name)) off_back
      ∙ none_joins us (λ u m. h u (inr m))

  not_it : listed (node_named t name) ≡ false → (u : Session) → Member u (asked t) → IsNotIt (nodes u)
  not_it off u m =
      elim (in_either u (feeds t.controllers ++ peerings t.controllers) (accesses t.controllers t.nodes) m) as (λ _. IsNotIt (nodes u)) [
        | inl front ↦ elim (in_either u (feeds t.controllers) (peerings t.controllers) front) as (λ _. IsNotIt (nodes u)) [
          | inl f ↦
              let q = from_map feed_session u t.controllers f in
              subst (λ (u : Session). IsNotIt (nodes u)) q.2 ((λ _ e. no_site (subst (λ (k : Name). Member k (controller_names t)) e (site q.0 q.1))), (λ e _. no_config (sym e)))
          | inr f ↦
              let q = from_peerings t.controllers u f in
              subst IsNotIt q.4 ((λ _ e. no_site (subst (λ (k : Name). Member k (controller_names t)) e (site q.2 q.3))), (λ e _. no_site (subst (λ (k : Name). Member k (controller_names t)) e (site q.0 q.1))))
        ]
        | inr f ↦
            let q = from_accesses t.controllers t.nodes u f in
            subst IsNotIt q.4 (
              (λ e is.
                  let here : node_named t name ≡ Some q.2 = subst (λ (k : Name). node_named t k ≡ Some q.2) is (found_alone q.2 t.nodes names.computers_apart q.3) in
                  true≢false (sym (ap listed here ∙ subst (λ (k : Name). list_any (same_name k) q.2.controllers ≡ true) e q.5) ∙ off)),
              (λ e _. no_site (subst (λ (k : Name). Member k (controller_names t)) e (site q.0 q.1))),
            )
      ]

  none_stands : listed (node_named t name) ≡ false → session_in ss c.name name ≡ None
  none_stands off = none_joins ss (λ s m.
      let q = from_map nodes (nodes s) (asked t) (subst (Member (nodes s)) stand (in_map nodes s ss m)) in
      subst IsNotIt q.2 (not_it off q.0 q.1))

  pub stands_anew : session_in ss c.name name ≡ cond (listed (node_named t name)) (Some (between c.name Controller name Agent)) None
  stands_anew = by (node_named t name) refl
    where
      by : (o : Option Node) → node_named t name ≡ o → session_in ss c.name name ≡ cond (listed o) (Some (between c.name Controller name Agent)) None
      by None e = none_stands (ap listed e)
      by (Some n) e =
          let q = found_member name t.nodes n e in
          elim (lists n c) as (λ b. lists n c ≡ b → session_in ss c.name name ≡ cond b (Some (between c.name Controller name Agent)) None) [
            | true ↦ λ l. one_stands n q.0 q.1 l
            | false ↦ λ l. none_stands (ap listed e ∙ l)
          ] refl

-- ---- a schedule with an event more
module _ (size : Name → Message → ℕ) where
  after_more : (w : MachineState) (es : List MachineEvent) (e : MachineEvent) → after size w (es ++ e ∷ []) ≡ next size (after size w es) e
  after_more w [] e = refl
  after_more w (d ∷ es) e = after_more (next size w d) es e

  valid_more : (w : MachineState) (es : List MachineEvent) (e : MachineEvent) → EditsAreValid size LaidOut w es → EditIsValid LaidOut (after size w es) e → EditsAreValid size LaidOut w (es ++ e ∷ [])
  valid_more w [] e v h = (h, tt)
  valid_more w (d ∷ es) e v h = (v.0, valid_more (next size w d) es e v.1 h)

edit_renews : (size : Name → Message → ℕ) (w : MachineState) (d : Edit) (m : Move) → edit_fault (checked w.setup) d ≡ None → moves d w.setup.topology ≡ Some m → Renews w.setup.topology (next size w (Edits d)).setup.topology (Some m)
edit_renews size w d m none is =
    subst (λ (u : Topology). Renews w.setup.topology u (Some m)) (ap (λ (x : Checked). x.topology) (sym (edit_made size w d none)))
    (subst (Renews w.setup.topology (edited_topology d w.setup.topology)) is (renews (checked w.setup) d none))

-- a compute node has no other node's name
no_other : (t : Topology) → IsLaidOut t → (name : Name) (n : Node) → node_named t name ≡ Some n → (name ≡ config → ⊥) × (Member name (controller_names t) → ⊥)
no_other t laid name n e =
    let names = names_apart t (apart_of (config ∷ controller_names t ++ node_names t) laid.apart) in
    let q = found_member name t.nodes n e in
    let here : Member name (node_names t) = subst (λ (k : Name). Member k (node_names t)) q.1 (in_map (λ (n : Node). n.name) n t.nodes q.0) in
    ((λ is. names.no_computer_config name here is), (λ m. names.kinds_apart name name m here refl))

mover_free : (t u : Topology) → IsLaidOut t → IsLaidOut u → (m : Move) → Renews t u (Some m) → (m.name ≡ config → ⊥) × (Member m.name (controller_names u) → ⊥)
mover_free t u l k m r = by m.now r.mover.1
  where
    gone : (o : Option Node) → node_named t m.name ≡ o → is_some o ≡ true → (m.name ≡ config → ⊥) × (Member m.name (controller_names u) → ⊥)
    gone (Some n) e h =
        let q = no_other t l m.name n e in
        (q.0, (λ i. q.1 (subst (λ (cs : List NodeId). Member m.name (map (λ (c : NodeId). c.name) cs)) r.controllers i)))
    gone None e h = absurd (true≢false (sym h))

    by : (o : Option Node) → MoverIs m.name o t u → (m.name ≡ config → ⊥) × (Member m.name (controller_names u) → ⊥)
    by None h = gone (node_named t m.name) refl h
    by (Some n) h = no_other u k m.name n h.1

pub moved_anew : WhereLaidOut (λ size w. (d : Edit) (name : Name) → EditIsValid LaidOut w (Edits d) → MovesNode w d name → (c : NodeId) → Member c w.setup.topology.controllers → session_of (next size w (Edits d)) c.name name ≡ anew (next size w (Edits d)) c.name name)
moved_anew size positive x l es v d name ok k c m =
    let w = after size (start x) es in
    let u = next size w (Edits d) in
    let all = es ++ Edits d ∷ [] in
    let valid = valid_more size (start x) es (Edits d) v ok in
    let same : after size (start x) all ≡ u = after_more size (start x) es (Edits d) in
    let q = subst (λ (w : MachineState). IsLaidOut w.setup.topology × HasSessions w) same (sessions_are_asked size positive x l all valid) in
    let apart = subst (λ (w : MachineState). NoTwins (map nodes w.sessions)) same (laid_apart size positive x l all valid) in
    let r = edit_renews size w d k.move k.accepted k.moved in
    let free = subst (λ (n : Name). (n ≡ config → ⊥) × (Member n (controller_names u.setup.topology) → ⊥)) k.named (mover_free w.setup.topology u.setup.topology (sessions_are_asked size positive x l es v).0 q.0 k.move r) in
    stands_anew u.setup.topology q.0 u.sessions q.1 name free.0 free.1
    (subst (λ (n : Name). Each (IsBlankFor n) u.sessions) k.named (edit_blank size w d k.move k.accepted k.moved)) apart c (subst (Member c) (sym r.controllers) m)
