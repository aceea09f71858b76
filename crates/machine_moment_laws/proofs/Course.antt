-- What every step of a window keeps of each session, every window keeps: where no session of nodes that last is ever down.
use Rattle.std.specs.Prelude.{◌≡◌, ℕ, List, [], ◌∷◌, map, Bool, ◌&&◌, ◌==◌, true, false, cond, is_some}
use Rattle.std.specs.List.{AllByRecursion, filter}
use Rattle.std.specs.Cmp.Lexicographic.{bytes_decides}
use Rattle.std.specs.declared.option.Option.{Option}
use Rattle.std.specs.declared.option.Option.TheVariants.{Some, None}
use Rattle.std.proofs.Common.{refl, sym, ◌∙◌, ap, subst}
use Rattle.std.proofs.lemmas.Bool.{true≢false, and_parts}
use Rattle.std.proofs.lemmas.Option.{same_Some}
use Rattle.ov_types.specs.declared.rows.NodeId.{NodeId}
use Rattle.config_types.specs.declared.edit.Edit.{Edit}
use Rattle.config_types.specs.declared.topology.Node.{Node}
use Rattle.node_laws.proofs.NodeModel.Members.{none_some}
use Rattle.node_laws.specs.NodeModel.Maps.{Map}
use Rattle.machine_model.specs.Setup.{Name, Move, Setup, edited, lists, moves}
use Rattle.machine_model.specs.Session.{Agent, Controller, Message, Session, turned, passed, opened, arrived, octets_arrived}
use Rattle.machine_model.specs.Network.{MachineState, between, brought, config, is_at, replaced, sessions_of, view, views_of, wanted}
use Rattle.machine_model.specs.Events.{MachineEvent, Edits, Deliver, DeliverOctets, Lose, Connect, Restart, Round, Settle, Show, Trace, Break, edits, moved, passes, is_earlier, next, after}
use Rattle.machine_model.specs.Steps.{at_node, joins, with_session, change_session, pass, in_flight, is_broken, around, connect, connect_if, may_connect, session_in, without_breaks}
use Rattle.machine_model.specs.Moments.{Each, EditIsValid, EditsAreValid, NodePair, nodes}
use Rattle.machine_model.proofs.Listed.{each_member, resessioned}
use Rattle.machine_model.proofs.Replaced.{each_replaced}
use Rattle.machine_model.proofs.Walk.{Takes, connect_walk, delivers_walk, round_walk, settle_walk}
use Rattle.machine_model.proofs.NetworkFact.{with_session_keeps, opened_nodes}
use Rattle.machine_model.proofs.NodesFact.{pass_nodes, session_nodes, map_nodes, arrived_nodes, octets_nodes}
use Rattle.machine_laws.proofs.AtNode.{each_at_node}
use Rattle.machine_moment_laws.specs.Windows.{IsOfWindow}

-- the session of two nodes that is found
abbrev IsOf : Name → Name → Session → Type 0
IsOf a b s = (s.near.name ≡ a) × (s.far.name ≡ b)

joined_names : (a b : Name) (s : Session) → joins a b s ≡ true → IsOf a b s
joined_names a b s e =
    let q = and_parts (is_at a s.near) (is_at b s.far) e in
    ((bytes_decides s.near.name a).0 q.0, (bytes_decides s.far.name b).0 q.1)

module _ (P : Session → Type 0) (both : (s : Session) → P s → P (turned s)) (a b : Name) where
  found : (ss : List Session) → Each P ss → (s : Session) → session_in ss a b ≡ Some s → P s × IsOf a b s
  found [] e s h = absurd (none_some s h)
  found (t ∷ ss) e s h =
      elim (joins a b t) as (λ c. joins a b t ≡ c → cond c (Some t) (cond (joins b a t) (Some (turned t)) (session_in ss a b)) ≡ Some s → P s × IsOf a b s) [
        | true ↦ λ j h. subst (λ (s : Session). P s × IsOf a b s) (same_Some t s h) (e.0, joined_names a b t j)
        | false ↦ λ _ h. elim (joins b a t) as (λ c. joins b a t ≡ c → cond c (Some (turned t)) (session_in ss a b) ≡ Some s → P s × IsOf a b s) [
          | true ↦ λ j h. let q = joined_names b a t j in subst (λ (s : Session). P s × IsOf a b s) (same_Some (turned t) s h) (both t e.0, (q.1, q.0))
          | false ↦ λ _ h. found ss e.1 s h
        ] refl h
      ] refl h

  on_joined : (f : Session → Session) → ((s : Session) → IsOf a b s → P s → P (f s)) → (ss : List Session) → Each P ss → Each P (with_session a b f ss)
  on_joined f h [] e = tt
  on_joined f h (s ∷ ss) e =
      elim (joins a b s) as (λ c. joins a b s ≡ c → Each P (cond c (f s ∷ ss) (cond (joins b a s) (turned (f (turned s)) ∷ ss) (s ∷ with_session a b f ss)))) [
        | true ↦ λ j. (h s (joined_names a b s j) e.0, e.1)
        | false ↦ λ _. elim (joins b a s) as (λ c. joins b a s ≡ c → Each P (cond c (turned (f (turned s)) ∷ ss) (s ∷ with_session a b f ss))) [
          | true ↦ λ j. let q = joined_names b a s j in (both (f (turned s)) (h (turned s) (q.1, q.0) (both s e.0)), e.1)
          | false ↦ λ _. (e.0, on_joined f h ss e.1)
        ] refl
      ] refl

-- ---- what is asked of a fact of sessions, and of what is said of the setup and the nodes of all sessions
pub record KeepsInWindow (size : Name → Message → ℕ) (lasts : Name → Bool) (Here : Setup → List NodePair → Type 0) (Asked : Setup → Type 0) (P : Session → Type 0) (MayTell : Session → Map → Type 0) : Type 0 where
  pub both : (s : Session) → P s → P (turned s)
  pub begins : (x : Setup) (c : NodeId) (n : Node) → lasts n.name ≡ false → P (between c.name Controller n.name Agent)
  pub arrives : (s : Session) → P s → P (arrived s)
  pub octets : (n : ℕ) (s : Session) → P s → P (octets_arrived size n s)
  pub passes : (m : Map) (s : Session) → MayTell s m → P s → P (passed m s)
  pub off : (s : Session) → P s → may_connect s ≡ true → (lasts s.near.name && lasts s.far.name) ≡ false
  pub opens : (s : Session) → (lasts s.near.name && lasts s.far.name) ≡ false → P s → P (opened s)
  pub clears : (s : Session) → P s → P (without_breaks s)
  pub wants : (x : Setup) (ss : List Session) (n : Name) → Here x (map nodes ss) → Each P ss → Each (λ s. MayTell s (wanted x (views_of n ss) (view s))) (sessions_of n ss)
  -- an accepted edit
  pub here : (w : MachineState) (d : Edit) (y : Setup) → Here w.setup (map nodes w.sessions) → edited w.setup d ≡ Some y → Asked y
      → Here y (map nodes (resessioned (moves d w.setup.topology) y.topology.controllers w.sessions))
  pub moves_off : (w : MachineState) (d : Edit) (y : Setup) → Here w.setup (map nodes w.sessions) → edited w.setup d ≡ Some y → Asked y
      → (m : Move) → moves d w.setup.topology ≡ Some m → (n : Node) → m.now ≡ Some n → lasts n.name ≡ false

module _ (size : Name → Message → ℕ) (lasts : Name → Bool) (Here : Setup → List NodePair → Type 0) (Asked : Setup → Type 0) (P : Session → Type 0) (MayTell : Session → Map → Type 0) (k : KeepsInWindow size lasts Here Asked P MayTell) where
  abbrev pub AllKeep : MachineState → Type 0
  AllKeep w = Here w.setup (map nodes w.sessions) × Each P w.sessions

  on_node : (n : Name) (f : Session → Session) (Q : Session → Type 0) → ((s : Session) → Q s → P s → P (f s)) → (ss : List Session) → Each P ss → Each Q (sessions_of n ss) → Each P (map (at_node n f) ss)
  on_node n f Q h ss e q = each_at_node P Q P n f (λ s p q. h s q p) (λ s p q. k.both (f (turned s)) (h (turned s) q (k.both s p))) (λ s p. p) ss e q

  pass_keeps : (n : Name) (w : MachineState) → AllKeep w → AllKeep (pass n w)
  pass_keeps n w e = (
    subst (Here w.setup) (sym (pass_nodes n w)) e.0,
    on_node n (λ s. passed (wanted w.setup (views_of n w.sessions) (view s)) s) (λ s. MayTell s (wanted w.setup (views_of n w.sessions) (view s))) (λ s q p. k.passes (wanted w.setup (views_of n w.sessions) (view s)) s q p) w.sessions e.1 (k.wants w.setup w.sessions n e.0 e.1),
  )

  pub takes_keep : Takes AllKeep
  takes_keep from to w e =
      pass_keeps to (change_session to from arrived w)
      (subst (Here w.setup) (sym (session_nodes to from arrived arrived_nodes w.sessions)) e.0, with_session_keeps P k.both arrived k.arrives to from w.sessions e.1)

  octets_keep : (from to : Name) (n : ℕ) (w : MachineState) → AllKeep w → AllKeep (pass to (change_session to from (octets_arrived size n) w))
  octets_keep from to n w e =
      pass_keeps to (change_session to from (octets_arrived size n) w)
      (subst (Here w.setup) (sym (session_nodes to from (octets_arrived size n) (octets_nodes size n) w.sessions)) e.0, with_session_keeps P k.both (octets_arrived size n) (k.octets n) to from w.sessions e.1)

  pub clears_keep : (w : MachineState) → AllKeep w → AllKeep (record { setup = w.setup; sessions = map without_breaks w.sessions })
  clears_keep w e = (subst (Here w.setup) (sym (map_nodes without_breaks (λ s. refl) w.sessions)) e.0, each w.sessions e.1)
    where
      each : (ss : List Session) → Each P ss → Each P (map without_breaks ss)
      each [] e = tt
      each (s ∷ ss) e = (k.clears s e.0, each ss e.1)

  -- ---- a session that is connected is none of nodes that last
  swapped : (b c : Bool) → (b && c) ≡ false → (c && b) ≡ false
  swapped true true e = e
  swapped true false e = refl
  swapped false true e = refl
  swapped false false e = refl

  opens_keep : (a b : Name) (w : MachineState) → (lasts a && lasts b) ≡ false → AllKeep w → AllKeep (connect a b w)
  opens_keep a b w fresh e =
      let open_first : (s : Session) → IsOf a b s → P s → P (opened s) = λ s at p. k.opens s ((λ i. lasts (at.0 i) && lasts (at.1 i)) ∙ fresh) p in
      let open_second : (s : Session) → IsOf a b s → P s → P (around opened s) = λ s at p. k.both (opened (turned s)) (k.opens (turned s) (swapped (lasts s.near.name) (lasts s.far.name) ((λ i. lasts (at.0 i) && lasts (at.1 i)) ∙ fresh)) (k.both s p)) in
      let v : MachineState = change_session a b opened w in
      let u : MachineState = pass a v in
      let first : AllKeep u = pass_keeps a v (subst (Here w.setup) (sym (session_nodes a b opened opened_nodes w.sessions)) e.0, on_joined P k.both a b opened open_first w.sessions e.1) in
      elim (is_broken u a b) as (λ c. AllKeep (cond c u (pass b (change_session a b (around opened) u)))) [
        | true ↦ first
        | false ↦ pass_keeps b (change_session a b (around opened) u)
            (subst (Here w.setup) (sym (session_nodes a b (around opened) (λ s. ap (λ (p : NodePair). (p.1, p.0)) (opened_nodes (turned s))) u.sessions)) first.0, on_joined P k.both a b (around opened) open_second u.sessions first.1)
      ]

  some_is : (o : Option Session) → is_some o ≡ true → (s : Session) × (o ≡ Some s)
  some_is (Some s) e = (s, refl)
  some_is None e = absurd (true≢false (sym e))

  pub connects_keep : (a b : Name) (w : MachineState) → ((s : Session) → session_in w.sessions a b ≡ Some s → may_connect s ≡ true) → is_some (session_in w.sessions a b) ≡ true → AllKeep w → AllKeep (connect a b w)
  connects_keep a b w may some e =
      let q = some_is (session_in w.sessions a b) some in
      let f = found P k.both a b w.sessions e.1 q.0 q.1 in
      opens_keep a b w ((λ i. lasts (sym f.1.0 i) && lasts (sym f.1.1 i)) ∙ k.off q.0 f.0 (may q.0 q.1)) e

  -- ---- an accepted edit
  passes_keep : (ns : List Name) (w : MachineState) → AllKeep w → AllKeep (passes ns w)
  passes_keep [] w h = h
  passes_keep (n ∷ ns) w h = passes_keep ns (pass n w) (pass_keeps n w h)

  brought_keep : (x : Setup) (o : Option Node) → ((n : Node) → o ≡ Some n → lasts n.name ≡ false) → Each P (brought x.topology.controllers o)
  brought_keep x None off = tt
  brought_keep x (Some n) off = each_member P (λ (c : NodeId). between c.name Controller n.name Agent) (filter (lists n) x.topology.controllers) (λ c m. k.begins x c n (off n refl))

  moved_keeps : (m : Option Move) (w : MachineState) → Here w.setup (map nodes (resessioned m w.setup.topology.controllers w.sessions)) → ((v : Move) → m ≡ Some v → (n : Node) → v.now ≡ Some n → lasts n.name ≡ false) → Each P w.sessions → AllKeep (moved m w)
  moved_keeps None w h off e = (h, e)
  moved_keeps (Some m) w h off e =
      let new : List Session = brought w.setup.topology.controllers m.now in
      passes_keep m.left (record { setup = w.setup; sessions = replaced m.name new w.sessions })
      (h, each_replaced P P m.name (λ s off p. p) new w.sessions (brought_keep w.setup m.now (off m refl)) e)

  edit_keeps : (d : Edit) (w : MachineState) → ((y : Setup) → edited w.setup d ≡ Some y → Asked y) → AllKeep w → AllKeep (edits (moves d w.setup.topology) (edited w.setup d) w)
  edit_keeps d w asked h = by (edited w.setup d) refl
    where
      by : (o : Option Setup) → edited w.setup d ≡ o → AllKeep (edits (moves d w.setup.topology) o w)
      by None is = h
      by (Some y) is =
          let v : MachineState = record { setup = y; sessions = w.sessions } in
          pass_keeps config (moved (moves d w.setup.topology) v)
          (moved_keeps (moves d w.setup.topology) v (k.here w d y h.0 is (asked y is)) (λ m e n f. k.moves_off w d y h.0 is (asked y is) m e n f) h.1)

  -- ---- a window
  next_keeps : (w : MachineState) (e : MachineEvent) → IsOfWindow e → EditIsValid Asked w e → AllKeep w → AllKeep (next size w e)
  unfolding next
  next_keeps w (Edits d) of ok q = edit_keeps d w ok q
  next_keeps w (Deliver from to n) of ok q = delivers_walk AllKeep takes_keep n from to w q
  next_keeps w (DeliverOctets from to n) of ok q = elim (in_flight w from to == 0) as (λ b. AllKeep (cond b w (pass to (change_session to from (octets_arrived size n) w)))) [ true ↦ q | false ↦ octets_keep from to n w q ]
  next_keeps w (Lose a b) of ok q = absurd of
  next_keeps w (Connect a b) of ok q = elim (is_earlier w.sessions a b) as (λ c. AllKeep (cond c (connect_if a b w) (connect_if b a w))) [ true ↦ connect_walk AllKeep connects_keep a b w q | false ↦ connect_walk AllKeep connects_keep b a w q ]
  next_keeps w (Restart n) of ok q = absurd of
  next_keeps w Round of ok q = round_walk AllKeep takes_keep w q
  next_keeps w Settle of ok q = settle_walk AllKeep takes_keep connects_keep clears_keep w q
  next_keeps w (Show n) of ok q = q
  next_keeps w (Trace p) of ok q = q
  next_keeps w (Break a b n) of ok q = absurd of

  pub window_keeps : (w : MachineState) (es : List MachineEvent) → AllByRecursion IsOfWindow es → EditsAreValid size Asked w es → AllKeep w → AllKeep (after size w es)
  window_keeps w [] of ok h = h
  window_keeps w (e ∷ es) of ok h = window_keeps (next size w e) es of.1 ok.1 (next_keeps w e of.0 ok.0 h)
