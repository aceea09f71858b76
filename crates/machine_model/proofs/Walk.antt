-- What the steps of a network keep, every delivery, round, connection, settling and event keeps.
use Rattle.std.specs.Prelude.{◌≡◌, ℕ, zero, suc, ◌+◌, List, [], ◌∷◌, map, true, false, cond, ◌==◌, is_some}
use Rattle.std.specs.declared.option.Option.{Option}
use Rattle.std.specs.declared.option.Option.TheVariants.{Some, None}
use mathlib.Core.Bool.{beq}
use Rattle.std.proofs.lemmas.Option.{same_Some}
use Rattle.std.proofs.Common.{refl, sym, ◌∙◌, ap, subst}
use Rattle.schedule_script.specs.ConfigTypes.Edit.{Edit}
use Rattle.machine_model.specs.Setup.{Name, edited, longest, moves}
use Rattle.machine_model.specs.Session.{Message, Session, shut, lost, arrived, octets_arrived}
use Rattle.machine_model.specs.Network.{MachineState}
use Rattle.machine_model.specs.Steps.{change_session, change_node, pass, session_in, session_of, in_flight, repeat, deliver, Due, dues, notice_stands, deliver_due, deliver_all, round, connect, may_connect, connect_found, connect_if, connect_all, is_quiet, without_breaks, rounds_from, resumed, settle}
use Rattle.machine_model.specs.Events.{MachineEvent, Edits, Deliver, DeliverOctets, Lose, Connect, Restart, Round, Settle, Show, Trace, Break, edits, lose, is_earlier, add_break, is_node, next, after}

module _ (Q : MachineState → Type 0) where
  -- ---- deliveries: one message is taken, and a pass is made
  abbrev pub Takes : Type 0
  Takes = (from to : Name) (w : MachineState) → Q w → Q (pass to (change_session to from arrived w))

  module _ (takes : Takes) where
    pub deliver_walk : (from to : Name) (w : MachineState) → Q w → Q (deliver from to w)
    deliver_walk from to w q = elim (in_flight w from to == 0) as (λ b. Q (cond b w (pass to (change_session to from arrived w)))) [ true ↦ q | false ↦ takes from to w q ]

    repeat_walk : (f : MachineState → MachineState) → ((w : MachineState) → Q w → Q (f w)) → (n : ℕ) (w : MachineState) → Q w → Q (repeat n f w)
    repeat_walk f h zero w q = q
    repeat_walk f h (suc n) w q = repeat_walk f h n (f w) (h w q)

    pub delivers_walk : (n : ℕ) (from to : Name) (w : MachineState) → Q w → Q (repeat n (deliver from to) w)
    delivers_walk n from to = repeat_walk (deliver from to) (deliver_walk from to) n

    pub due_walk : (d : Due) (w : MachineState) → Q w → Q (deliver_due d w)
    due_walk d w q = elim (beq (notice_stands w d) d.is_notice) as (λ b. Q (cond b (deliver d.from d.to w) w)) [ true ↦ deliver_walk d.from d.to w q | false ↦ q ]

    pub dues_walk : (n : ℕ) (d : Due) (w : MachineState) → Q w → Q (repeat n (deliver_due d) w)
    dues_walk n d = repeat_walk (deliver_due d) (due_walk d) n

    pub all_walk : (ds : List Due) (w : MachineState) → Q w → Q (deliver_all ds w)
    all_walk [] w q = q
    all_walk (d ∷ ds) w q = all_walk ds (repeat d.count (deliver_due d) w) (dues_walk d.count d w q)

    pub round_walk : (w : MachineState) → Q w → Q (round w)
    unfolding round
    round_walk w q = all_walk (dues w) w q

  -- ---- connections of sessions that may connect
  abbrev pub Connects : Type 0
  Connects = (a b : Name) (w : MachineState) → ((s : Session) → session_in w.sessions a b ≡ Some s → may_connect s ≡ true) → is_some (session_in w.sessions a b) ≡ true → Q w → Q (connect a b w)

  module _ (connects : Connects) where
    pub connect_walk : (a b : Name) (w : MachineState) → Q w → Q (connect_if a b w)
    connect_walk a b w q =
        elim (session_of w a b) as (λ o. session_of w a b ≡ o → Q (connect_found o a b w)) [
          | None ↦ λ _. q
          | Some s ↦ λ is. elim (may_connect s) as (λ c. may_connect s ≡ c → Q (cond c (connect a b w) w)) [
            | true ↦ λ may. connects a b w (λ t is'. subst (λ (s : Session). may_connect s ≡ true) (same_Some s t (sym is ∙ is')) may) (ap is_some is) q
            | false ↦ λ _. q
          ] refl
        ] refl

    pub connections_walk : (ss : List Session) (w : MachineState) → Q w → Q (connect_all ss w)
    connections_walk [] w q = q
    connections_walk (s ∷ ss) w q = connections_walk ss (connect_if s.near.name s.far.name w) (connect_walk s.near.name s.far.name w q)

  -- ---- settling
  abbrev pub Clears : Type 0
  Clears = (w : MachineState) → Q w → Q (record { setup = w.setup; sessions = map without_breaks w.sessions })

  module _ (takes : Takes) (connects : Connects) (clears : Clears) where
    rounds_walk : (n done : ℕ) (w : MachineState) → Q w → Q (rounds_from n done w).1
    rounds_walk zero done w q = q
    rounds_walk (suc n) done w q = elim (is_quiet w) as (λ b. Q (cond b (done, w) (rounds_from n (done + 1) (round w))).1) [ true ↦ q | false ↦ rounds_walk n (done + 1) (round w) (round_walk takes w q) ]

    pub resumed_walk : (w : MachineState) → Q w → Q (resumed w)
    resumed_walk w q =
        let v = round (record { setup = w.setup; sessions = map without_breaks w.sessions }) in
        connections_walk connects v.sessions v (round_walk takes (record { setup = w.setup; sessions = map without_breaks w.sessions }) (clears w q))

    pub settle_walk : (w : MachineState) → Q w → Q (settle w).1
    unfolding settle
    settle_walk w q = rounds_walk (longest w.setup + 5) 1 (resumed w) (resumed_walk w q)

-- ---- events
-- every step that an event is made of, but for edits
pub record Steps (size : Name → Message → ℕ) (Q : MachineState → Type 0) : Type 0 where
  pub takes : Takes Q
  pub octets : (from to : Name) (n : ℕ) (w : MachineState) → Q w → Q (pass to (change_session to from (octets_arrived size n) w))
  pub loses : (a b : Name) (w : MachineState) → Q w → Q (change_session a b lost w)
  pub connects : Connects Q
  pub restarts : (n : Name) (w : MachineState) → Q w → Q (change_node n shut w)
  pub clears : Clears Q
  pub breaks : (a b : Name) (n : ℕ) (w : MachineState) → Q w → Q (change_session a b (add_break n) w)

module _ (size : Name → Message → ℕ) (Q : MachineState → Type 0) (k : Steps size Q) where
  lose_walk : (o : Option Session) (a b : Name) (w : MachineState) → Q w → Q (lose o a b w)
  lose_walk None a b w q = q
  lose_walk (Some s) a b w q = elim s.is_down as (λ c. Q (cond c w (change_session a b lost w))) [ true ↦ q | false ↦ k.loses a b w q ]

  pub next_walk : (w : MachineState) (e : MachineEvent) → ((d : Edit) → e ≡ Edits d → Q w → Q (edits (moves d w.setup.topology) (edited w.setup d) w)) → Q w → Q (next size w e)
  unfolding next
  next_walk w (Edits d) edit q = edit d refl q
  next_walk w (Deliver from to n) edit q = delivers_walk Q k.takes n from to w q
  next_walk w (DeliverOctets from to n) edit q = elim (in_flight w from to == 0) as (λ b. Q (cond b w (pass to (change_session to from (octets_arrived size n) w)))) [ true ↦ q | false ↦ k.octets from to n w q ]
  next_walk w (Lose a b) edit q = lose_walk (session_of w a b) a b w q
  next_walk w (Connect a b) edit q = elim (is_earlier w.sessions a b) as (λ c. Q (cond c (connect_if a b w) (connect_if b a w))) [ true ↦ connect_walk Q k.connects a b w q | false ↦ connect_walk Q k.connects b a w q ]
  next_walk w (Restart n) edit q = elim (is_node w n) as (λ c. Q (cond c (change_node n shut w) w)) [ true ↦ k.restarts n w q | false ↦ q ]
  next_walk w Round edit q = round_walk Q k.takes w q
  next_walk w Settle edit q = settle_walk Q k.takes k.connects k.clears w q
  next_walk w (Show n) edit q = q
  next_walk w (Trace p) edit q = q
  next_walk w (Break a b n) edit q = k.breaks a b n w q

  -- where edits keep it too, a schedule keeps it
  pub after_walk : ((d : Edit) (w : MachineState) → Q w → Q (edits (moves d w.setup.topology) (edited w.setup d) w)) → (w : MachineState) (es : List MachineEvent) → Q w → Q (after size w es)
  after_walk edit w [] q = q
  after_walk edit w (e ∷ es) q = after_walk edit (next size w e) es (next_walk w e (λ d _. edit d w) q)
