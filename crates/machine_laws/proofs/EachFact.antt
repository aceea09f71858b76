-- What every step of an end keeps of a session, every event keeps of each session.
use Rattle.std.specs.Prelude.{◌≡◌, ℕ, List, [], ◌∷◌, map, true, false, cond}
use Rattle.std.specs.List.{filter}
use Rattle.std.specs.declared.option.Option.TheVariants.{Some, None}
use Rattle.std.specs.declared.option.Option.{Option}
use Rattle.std.proofs.Common.{refl, subst}
use Rattle.std.proofs.lemmas.Option.{same_Some}
use Rattle.node_laws.specs.NodeModel.Maps.{Map}
use Rattle.config_types.specs.declared.edit.Edit.{Edit}
use Rattle.config_types.specs.declared.topology.Node.{Node}
use Rattle.config_types.specs.declared.topology.Topology.{Topology}
use Rattle.schedule_script.specs.ConfigCheck.Edits.{edit_fault, edited as checked_edited}
use Rattle.schedule_script.specs.ConfigCheck.EditFault.{EditFault}
use Rattle.ov_types.specs.declared.rows.NodeId.{NodeId}
use Rattle.node_laws.specs.NodeModel.Members.{Member}
use Rattle.node_laws.proofs.NodeModel.Members.{from_filter, none_some}
use Rattle.machine_model.specs.Setup.{Name, Move, Setup, checked, edited, edited_without, lists, moves, remade, renumbered}
use Rattle.machine_model.specs.Session.{Agent, Controller, Message, Session, turned, shut, lost, passed, opened, arrived, octets_arrived}
use Rattle.machine_model.specs.Network.{MachineState, between, brought, config, replaced, sessions_of, view, views_of, wanted}
use Rattle.machine_model.specs.Events.{MachineEvent, Edits, Deliver, DeliverOctets, Lose, Connect, Restart, Round, Settle, Show, Trace, Break, edits, moved, passes, add_break, next, after}
use Rattle.machine_model.specs.Steps.{at_node, with_session, change_session, pass, is_broken, around, connect, resumed, without_breaks}
use Rattle.machine_model.specs.Moments.{EditIsValid, EditsAreValid}
use Rattle.machine_model.proofs.Changing.{MoverIs, Moves, found_member, renews}
use Rattle.machine_model.proofs.Listed.{each_member}
use Rattle.machine_model.proofs.Replaced.{each_replaced}
use Rattle.machine_model.proofs.Walk.{Takes, Steps, resumed_walk, next_walk}
use Rattle.machine_model.proofs.NetworkFact.{Each, with_session_keeps}
use Rattle.machine_laws.proofs.AtNode.{each_at_node}

-- a compute node that moves stands in the topology then, unless it is gone
abbrev pub Comes : Option Move → Setup → Type 0
Comes None x = Unit {0}
Comes (Some m) x = (n : Node) → m.now ≡ Some n → Member n x.topology.nodes

moved_there : (m : Option Move) (t : Topology) (x : Setup) → Moves m t x.topology → Comes m x
moved_there None t x h = tt
moved_there (Some m) t x h =
    λ n now. (found_member m.name x.topology.nodes n (subst (λ o. MoverIs m.name o t x.topology) now h.1).1).0

pub comes_there : (x : Setup) (d : Edit) (y : Setup) → edited x d ≡ Some y → Comes (moves d x.topology) y
comes_there x d y e = by_fault (edit_fault (checked x) d) refl e
  where
    by_fault : (o : Option EditFault) → edit_fault (checked x) d ≡ o → edited_without o x d ≡ Some y → Comes (moves d x.topology) y
    by_fault (Some f) is h = absurd (none_some y h)
    by_fault None is h =
        subst (Comes (moves d x.topology)) (same_Some _ y h)
        (moved_there (moves d x.topology) x.topology (remade (checked_edited d (checked x)) (renumbered (moves d x.topology) x.numbers)) (renews (checked x) d is).mover)

-- a fact of a session that does not mind which end is near, and that every step of the near end keeps, where it tells what it may tell
pub record Keeps (size : Name → Message → ℕ) (Valid : Setup → Type 0) (P : Session → Type 0) (MayTell : Session → Map → Type 0) : Type 0 where
  pub both : (s : Session) → P s → P (turned s)
  -- the new session of a compute node
  pub begins : (x : Setup) → Valid x → (c : NodeId) → Member c x.topology.controllers → (n : Node) → Member n x.topology.nodes
      → P (between c.name Controller n.name Agent)
  pub arrives : (s : Session) → P s → P (arrived s)
  pub octets : (n : ℕ) (s : Session) → P s → P (octets_arrived size n s)
  pub passes : (m : Map) (s : Session) → MayTell s m → P s → P (passed m s)
  pub shuts : (s : Session) → P s → P (shut s)
  pub loses : (s : Session) → P s → P (lost s)
  pub opens : (s : Session) → P s → P (opened s)
  pub breaks : (a b : List ℕ) (s : Session) → P s → P (record { is_down = s.is_down; near = record s.near { breaks = a }; far = record s.far { breaks = b } })
  pub wants : (x : Setup) (ss : List Session) (n : Name) → Valid x → Each P ss → Each (λ s. MayTell s (wanted x (views_of n ss) (view s))) (sessions_of n ss)

module _ (size : Name → Message → ℕ) (Valid : Setup → Type 0) (P : Session → Type 0) (MayTell : Session → Map → Type 0) (k : Keeps size Valid P MayTell) where
  abbrev pub AllKeep : MachineState → Type 0
  AllKeep w = Valid w.setup × Each P w.sessions

  at_far : (f : Session → Session) → ((s : Session) → P s → P (f s)) → (s : Session) → P s → P (turned (f (turned s)))
  at_far f h s p = k.both (f (turned s)) (h (turned s) (k.both s p))

  pub on_session : (a b : Name) (f : Session → Session) → ((s : Session) → P s → P (f s)) → (ss : List Session) → Each P ss → Each P (with_session a b f ss)
  on_session a b f h ss e = with_session_keeps P k.both f h a b ss e

  on_node : (n : Name) (f : Session → Session) (Q : Session → Type 0) → ((s : Session) → Q s → P s → P (f s)) → (ss : List Session) → Each P ss → Each Q (sessions_of n ss) → Each P (map (at_node n f) ss)
  on_node n f Q h ss e q = each_at_node P Q P n f (λ s p q. h s q p) (λ s p q. k.both (f (turned s)) (h (turned s) q (k.both s p))) (λ s p. p) ss e q

  pub pass_keeps : (n : Name) (w : MachineState) → AllKeep w → AllKeep (pass n w)
  pass_keeps n w e = (e.0, on_node n (λ s. passed (wanted w.setup (views_of n w.sessions) (view s)) s) (λ s. MayTell s (wanted w.setup (views_of n w.sessions) (view s))) (λ s q p. k.passes (wanted w.setup (views_of n w.sessions) (view s)) s q p) w.sessions e.1 (k.wants w.setup w.sessions n e.0 e.1))

  takes_keep : Takes AllKeep
  takes_keep from to w e = pass_keeps to (change_session to from arrived w) (e.0, on_session to from arrived k.arrives w.sessions e.1)

  connect_keeps : (a b : Name) (w : MachineState) → AllKeep w → AllKeep (connect a b w)
  connect_keeps a b w e =
      let u : MachineState = pass a (change_session a b opened w) in
      let first : AllKeep u = pass_keeps a (change_session a b opened w) (e.0, on_session a b opened k.opens w.sessions e.1) in
      elim (is_broken u a b) as (λ c. AllKeep (cond c u (pass b (change_session a b (around opened) u)))) [
        | true ↦ first
        | false ↦ pass_keeps b (change_session a b (around opened) u) (first.0, on_session a b (around opened) (at_far opened k.opens) u.sessions first.1)
      ]

  unbroken_keeps : (ss : List Session) → Each P ss → Each P (map without_breaks ss)
  unbroken_keeps [] e = tt
  unbroken_keeps (s ∷ ss) e = (k.breaks [] [] s e.0, unbroken_keeps ss e.1)

  each_unit : (ss : List Session) → Each (λ _. Unit {0}) ss
  each_unit [] = tt
  each_unit (s ∷ ss) = (tt, each_unit ss)

  steps_keep : Steps size AllKeep
  steps_keep = record {
    takes = takes_keep;
    octets = λ from to n w h. pass_keeps to (change_session to from (octets_arrived size n) w) (h.0, on_session to from (octets_arrived size n) (k.octets n) w.sessions h.1);
    loses = λ a b w h. (h.0, on_session a b lost k.loses w.sessions h.1);
    connects = λ a b w may some h. connect_keeps a b w h;
    restarts = λ n w h. (h.0, on_node n shut (λ _. Unit {0}) (λ s _ p. k.shuts s p) w.sessions h.1 (each_unit (sessions_of n w.sessions)));
    clears = λ w h. (h.0, unbroken_keeps w.sessions h.1);
    breaks = λ a b n w h. (h.0, on_session a b (add_break n) (λ s p. k.breaks (add_break n s).near.breaks s.far.breaks s p) w.sessions h.1);
  }

  pub resumed_keeps : (w : MachineState) → AllKeep w → AllKeep (resumed w)
  resumed_keeps = resumed_walk AllKeep steps_keep.takes steps_keep.connects steps_keep.clears

  passes_keep : (ns : List Name) (w : MachineState) → AllKeep w → AllKeep (passes ns w)
  passes_keep [] w h = h
  passes_keep (n ∷ ns) w h = passes_keep ns (pass n w) (pass_keeps n w h)

  brought_keep : (x : Setup) → Valid x → (o : Option Node) → ((n : Node) → o ≡ Some n → Member n x.topology.nodes) → Each P (brought x.topology.controllers o)
  brought_keep x v None there = tt
  brought_keep x v (Some n) there =
      each_member P (λ (c : NodeId). between c.name Controller n.name Agent) (filter (lists n) x.topology.controllers)
      (λ c m. k.begins x v c (from_filter (lists n) c x.topology.controllers m).0 n (there n refl))

  moved_keeps : (m : Option Move) (w : MachineState) → Comes m w.setup → AllKeep w → AllKeep (moved m w)
  moved_keeps None w there h = h
  moved_keeps (Some m) w there h =
      let new : List Session = brought w.setup.topology.controllers m.now in
      passes_keep m.left (record { setup = w.setup; sessions = replaced m.name new w.sessions })
      (h.0, each_replaced P P m.name (λ s off p. p) new w.sessions (brought_keep w.setup h.0 m.now there) h.1)

  edits_keep : (m : Option Move) (o : Option Setup) (w : MachineState) → ((x : Setup) → o ≡ Some x → Valid x × Comes m x) → AllKeep w → AllKeep (edits m o w)
  edits_keep m None w ok h = h
  edits_keep m (Some x) w ok h =
      let v : MachineState = record { setup = x; sessions = w.sessions } in
      pass_keeps config (moved m v) (moved_keeps m v (ok x refl).1 ((ok x refl).0, h.1))

  next_keeps : (w : MachineState) (e : MachineEvent) → EditIsValid Valid w e → AllKeep w → AllKeep (next size w e)
  next_keeps w e ok = next_walk size AllKeep steps_keep w e (λ d is. edits_keep (moves d w.setup.topology) (edited w.setup d) w (λ x e. (subst (EditIsValid Valid w) is ok x e, comes_there w.setup d x e)))

  pub after_keeps : (w : MachineState) (es : List MachineEvent) → EditsAreValid size Valid w es → AllKeep w → AllKeep (after size w es)
  after_keeps w [] ok h = h
  after_keeps w (e ∷ es) ok h = after_keeps (next size w e) es ok.1 (next_keeps w e ok.0 h)

-- ---- from one sense of valid to another
pub edit_valid : (Old New : Setup → Type 0) (w : MachineState) (e : MachineEvent) → ((d : Edit) (y : Setup) → edited w.setup d ≡ Some y → Old y → New y) → EditIsValid Old w e → EditIsValid New w e
edit_valid Old New w (Edits d) h v = λ y is. h d y is (v y is)
edit_valid Old New w (Deliver a b n) h v = tt
edit_valid Old New w (DeliverOctets a b n) h v = tt
edit_valid Old New w (Lose a b) h v = tt
edit_valid Old New w (Connect a b) h v = tt
edit_valid Old New w (Restart n) h v = tt
edit_valid Old New w Round h v = tt
edit_valid Old New w Settle h v = tt
edit_valid Old New w (Show n) h v = tt
edit_valid Old New w (Trace p) h v = tt
edit_valid Old New w (Break a b n) h v = tt

pub edits_valid : (size : Name → Message → ℕ) (Old New : Setup → Type 0) → ((y : Setup) → Old y → New y) → (w : MachineState) (es : List MachineEvent) → EditsAreValid size Old w es → EditsAreValid size New w es
edits_valid size Old New h w [] v = tt
edits_valid size Old New h w (e ∷ es) v = (edit_valid Old New w e (λ d y is old. h y old) v.0, edits_valid size Old New h (next size w e) es v.1)

-- where that takes the setup before the edit too
module _ (size : Name → Message → ℕ) (Old New : Setup → Type 0) (P : Session → Type 0) (MayTell : Session → Map → Type 0) (k : Keeps size New P MayTell) (leads : (x : Setup) (d : Edit) (y : Setup) → New x → edited x d ≡ Some y → Old y → New y) where
  pub edits_valid_on : (w : MachineState) (es : List MachineEvent) → New w.setup × Each P w.sessions → EditsAreValid size Old w es → EditsAreValid size New w es
  edits_valid_on w [] h v = tt
  edits_valid_on w (e ∷ es) h v =
      let ok = edit_valid Old New w e (λ d y is old. leads w.setup d y h.0 is old) v.0 in
      (ok, edits_valid_on (next size w e) es (next_keeps size New P MayTell k w e ok h) v.1)
