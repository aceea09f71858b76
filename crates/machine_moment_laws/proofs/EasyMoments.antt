-- Where no session is down and no break is pending, from there on each session is not down or new, and each node has told what it
-- wants, at every moment of a window.
use Rattle.std.specs.Prelude.{◌≡◌, ◌==◌, ℕ, Bool, List, [], ◌∷◌, map, not, true, false, cond, is_some}
use Rattle.std.specs.declared.option.Option.{Option}
use Rattle.std.specs.declared.option.Option.TheVariants.{None, Some}
use Rattle.std.proofs.Common.{ap, arith, inl, inr, refl, subst, sym, ◌∙◌}
use Rattle.std.proofs.lemmas.Bool.{true≢false}
use Rattle.config_types.specs.declared.edit.Edit.{Edit}
use Rattle.node_laws.specs.NodeModel.Maps.{Map, difference}
use Rattle.node_laws.specs.NodeModel.Step.{Confirmed, Idle, Opened, Phase, Up, is_idle}
use Rattle.machine_model.specs.Events.{MachineEvent, Edits, Deliver, DeliverOctets, Lose, Connect, Restart, Round, Settle, Show, Trace, Break, edits, is_earlier, moved, next, passes}
use Rattle.machine_model.specs.Moments.{ArePositive, Each, EditIsValid, nodes}
use Rattle.machine_model.specs.Network.{MachineState, between, brought, config, fresh, replaced, view, views_of, wanted}
use Rattle.machine_model.specs.Session.{Carries, Controller, Hello, Keepalive, Message, Open, Role, Session, SessionEnd, arrived, closed, is_live, may_send, octets_arrived, opened, passed, told, took_octets, turned}
use Rattle.machine_model.specs.Setup.{Move, Name, Setup, edited, moves}
use Rattle.machine_model.specs.Steps.{around, change_session, connect, connect_found, connect_if, in_flight, is_broken, may_connect, pass, session_in, without_breaks}
use Rattle.machine_model.proofs.Apart.{NamesApart}
use Rattle.machine_model.proofs.Calm.{told_easy}
use Rattle.machine_model.proofs.Listed.{Placed}
use Rattle.machine_model.proofs.NetworkFact.{IsSound, connect_all_sound, each_map, nodes_keep, with_session_keeps}
use Rattle.machine_model.proofs.NodesFact.{Holds}
use Rattle.machine_model.proofs.Replaced.{each_brought, each_replaced}
use Rattle.machine_model.proofs.SessionFact.{DownEnd, Fact, sends}
use Rattle.machine_model.proofs.Twins.{each_and, each_weaker}
use Rattle.machine_model.proofs.Walk.{Takes, connect_walk, delivers_walk, round_walk, settle_walk}
use Rattle.machine_moment_laws.specs.Windows.{IsOfWindow}
use Rattle.machine_moment_laws.proofs.Easy.{IsEasy, IsNew, IsNewEnd, easy_arrived, easy_far, easy_near, easy_passed, easy_turned}
use Rattle.machine_moment_laws.proofs.Meeting.{AreTaken, calm_cleared, meets_octets_arrived}
use Rattle.machine_moment_laws.proofs.Tells.{AllTell, clears_tell, connect_tell, octets_tell, takes_tell}
use Rattle.machine_moment_laws.proofs.TellsEdits.{edits_tell}
use Rattle.machine_moment_laws.proofs.Unbroken.{NoBreak, opened_none, passed_none}

-- ---- no notice waits
abbrev NoNotice : Session → Type 0
NoNotice s = (s.near.notice ≡ false) × (s.far.notice ≡ false)

-- no break is pending, and none does
abbrev IsAlone : Session → Type 0
IsAlone s = NoBreak s × NoNotice s

alone_turned : (s : Session) → IsAlone s → IsAlone (turned s)
alone_turned s n = ((n.0.1, n.0.0), (n.1.1, n.1.0))

told_notice : (ms : List Message) (s : Session) → s.near.breaks ≡ [] → NoNotice s → NoNotice (told ms s)
told_notice ms s unbroken n = subst NoNotice (sym (told_easy ms s unbroken)) (by s.is_down)
  where
    by : (d : Bool) → NoNotice (sends ms (record { is_down = d; near = s.near; far = s.far }))
    by true = n
    by false = n

opened_alone : (s : Session) → IsAlone s → IsAlone (opened s)
unfolding opened
opened_alone s n = (opened_none s n.0, told_notice _ (record { is_down = false; near = record s.near { phase = Opened }; far = s.far }) n.0.0 n.1)

passed_notice : (m : Map) (s : Session) → s.near.breaks ≡ [] → NoNotice s → NoNotice (passed m s)
unfolding passed
passed_notice m s unbroken n =
    elim (may_send s) as (λ b. NoNotice (cond b (told (map Carries (difference s.near.sent m)) (record s { near = record s.near { sent = m } })) s)) [
      | true ↦ told_notice (map Carries (difference s.near.sent m)) (record s { near = record s.near { sent = m } }) unbroken n
      | false ↦ n
    ]

passed_alone : (m : Map) (s : Session) → IsAlone s → IsAlone (passed m s)
passed_alone m s n = (passed_none m s n.0, passed_notice m s n.0.0 n.1)

alone_around : (s : Session) → IsAlone s → IsAlone (around opened s)
alone_around s n = alone_turned (opened (turned s)) (opened_alone (turned s) (alone_turned s n))

pass_alone : (n : Name) (w : MachineState) → Each IsAlone w.sessions → Each IsAlone (pass n w).sessions
pass_alone n w e = nodes_keep IsAlone alone_turned (λ s. passed (wanted w.setup (views_of n w.sessions) (view s)) s) (λ s a. passed_alone (wanted w.setup (views_of n w.sessions) (view s)) s a) n w.sessions e

connect_alone : (a b : Name) (w : MachineState) → Each IsAlone w.sessions → Each IsAlone (connect a b w).sessions
connect_alone a b w e =
    let u : MachineState = pass a (change_session a b opened w) in
    let first : Each IsAlone u.sessions = pass_alone a (change_session a b opened w) (with_session_keeps IsAlone alone_turned opened opened_alone a b w.sessions e) in
    elim (is_broken u a b) as (λ c. Each IsAlone (cond c u (pass b (change_session a b (around opened) u))).sessions) [
      | true ↦ first
      | false ↦ pass_alone b (change_session a b (around opened) u) (with_session_keeps IsAlone alone_turned (around opened) alone_around a b u.sessions first)
    ]

-- ---- an end that is not live has nothing
idle_of : (p : Phase) → not (is_idle p) ≡ false → p ≡ Idle
idle_of Idle e = refl
idle_of Opened e = absurd (true≢false e)
idle_of Confirmed e = absurd (true≢false e)
idle_of Up e = absurd (true≢false e)

new_end : (e : SessionEnd) → DownEnd e → e.notice ≡ false → e.breaks ≡ [] → IsNewEnd e
new_end e d n unbroken =
    let off : is_live e ≡ false = sym d.notice ∙ n in
    let t = d.tidy off in
    record { phase = idle_of e.phase off; notice = n; sent = t.0; held = t.1; flight = d.flight; taken = d.taken; breaks = unbroken }

down_end : (e : SessionEnd) → IsNewEnd e → DownEnd e
down_end e n = record { notice = n.notice ∙ sym (ap (λ (p : Phase). not (is_idle p)) n.phase); flight = n.flight; taken = n.taken; tidy = λ _. (n.sent, n.held) }

new_fresh : (n : Name) (r : Role) → IsNewEnd (fresh n r)
new_fresh n r = record { phase = refl; notice = refl; sent = refl; held = refl; flight = refl; taken = refl; breaks = refl }

new_octets : (size : Name → Message → ℕ) (n : ℕ) (s : Session) → IsNew s → octets_arrived size n s ≡ s
unfolding octets_arrived
new_octets size n s new =
    ap (λ b. cond b (record s { near = closed s.near }) (took_octets size n s.far.flight s)) new.near.notice ∙ ap (λ (f : List Message). took_octets size n f s) new.far.flight

module _ (size : Name → Message → ℕ) (positive : ArePositive size) where
  alone_easy : (s : Session) → Fact size s → IsAlone s → IsEasy size positive s
  alone_easy s (inl j) n = inl (j, n.0.0, n.0.1)
  alone_easy s (inr d) n = inr (record { down = d.down; near = new_end s.near d.near n.1.0 n.0.0; far = new_end s.far d.far n.1.1 n.0.1 })

  easy_fact : (s : Session) → IsEasy size positive s → Fact size s
  easy_fact s (inl c) = inl c.0
  easy_fact s (inr n) = inr (record { down = n.down; near = down_end s.near n.near; far = down_end s.far n.far })

  easy_none : (s : Session) → IsEasy size positive s → NoBreak s
  easy_none s (inl c) = (c.1, c.2)
  easy_none s (inr n) = (n.near.breaks, n.far.breaks)

  easy_alone : (s : Session) → IsEasy size positive s → IsAlone s
  easy_alone s e = (easy_none s e, (easy_near size positive s e, easy_far size positive s e))

  easy_octets : (n : ℕ) (s : Session) → IsEasy size positive s → IsEasy size positive (octets_arrived size n s)
  easy_octets n s (inr new) = inr (subst IsNew (sym (new_octets size n s new)) new)
  easy_octets n s (inl c) =
      inl (meets_octets_arrived (λ p q k. ⊥) 0 size positive (nodes s) n s (
        c,
        record {
          near_held = λ k says. absurd says;
          far_held = λ k says. absurd says;
          near_flight = any_taken (nodes s).0 (nodes s).1 s.near.flight;
          far_flight = any_taken (nodes s).1 (nodes s).0 s.far.flight;
        },
      )).0
    where
      any_taken : (from to : Name × Role) (f : List Message) → AreTaken (λ p q k. ⊥) 0 from to f
      any_taken from to [] = tt
      any_taken from to (Open ∷ f) = (omega arith, any_taken from to f)
      any_taken from to (Keepalive ∷ f) = (omega arith, any_taken from to f)
      any_taken from to (Hello ∷ f) = (omega arith, any_taken from to f)
      any_taken from to (Carries d ∷ f) = ((λ says. absurd says), any_taken from to f)

  easy_cleared : (s : Session) → IsEasy size positive s → IsEasy size positive (without_breaks s)
  easy_cleared s (inl c) = inl (calm_cleared size positive s c)
  easy_cleared s (inr n) = inr (record { down = n.down; near = cleared s.near n.near; far = cleared s.far n.far })
    where
      cleared : (e : SessionEnd) → IsNewEnd e → IsNewEnd (record e { breaks = [] })
      cleared e n = record { phase = n.phase; notice = n.notice; sent = n.sent; held = n.held; flight = n.flight; taken = n.taken; breaks = refl }

  -- ---- the network
  abbrev pub IsUndisturbed : MachineState → Type 0
  IsUndisturbed w = Each (IsEasy size positive) w.sessions × AllTell w

  none_of : (ss : List Session) → Each (IsEasy size positive) ss → Each NoBreak ss
  none_of ss e = each_weaker (IsEasy size positive) NoBreak easy_none ss e

  pass_easy : (n : Name) (w : MachineState) → Each (IsEasy size positive) w.sessions → Each (IsEasy size positive) (pass n w).sessions
  pass_easy n w e = nodes_keep (IsEasy size positive) (easy_turned size positive) (λ s. passed (wanted w.setup (views_of n w.sessions) (view s)) s) (λ s f. easy_passed size positive (wanted w.setup (views_of n w.sessions) (view s)) s f) n w.sessions e

  takes_on : Takes IsUndisturbed
  takes_on from to w h = (
    pass_easy to (change_session to from arrived w) (with_session_keeps (IsEasy size positive) (easy_turned size positive) arrived (easy_arrived size positive) to from w.sessions h.0),
    takes_tell to from w (none_of w.sessions h.0) h.1,
  )

  octets_on : (from to : Name) (n : ℕ) (w : MachineState) → IsUndisturbed w → IsUndisturbed (pass to (change_session to from (octets_arrived size n) w))
  octets_on from to n w h = (
    pass_easy to (change_session to from (octets_arrived size n) w) (with_session_keeps (IsEasy size positive) (easy_turned size positive) (octets_arrived size n) (easy_octets n) to from w.sessions h.0),
    octets_tell size to from n w (none_of w.sessions h.0) h.1,
  )

  pub clears_on : (w : MachineState) → IsUndisturbed w → IsUndisturbed (record { setup = w.setup; sessions = map without_breaks w.sessions })
  clears_on w h = (each_map (IsEasy size positive) (IsEasy size positive) without_breaks easy_cleared w.sessions h.0, clears_tell w h.1)

  -- a session that may connect is found
  connect_is : (a b : Name) (w : MachineState) → ((s : Session) → session_in w.sessions a b ≡ Some s → may_connect s ≡ true) → is_some (session_in w.sessions a b) ≡ true → connect_if a b w ≡ connect a b w
  connect_is a b w may some = by (session_in w.sessions a b) refl some
    where
      by : (o : Option Session) → session_in w.sessions a b ≡ o → is_some o ≡ true → connect_if a b w ≡ connect a b w
      by None is e = absurd (true≢false (sym e))
      by (Some s) is e = ap (λ (o : Option Session). connect_found o a b w) is ∙ ap (λ (c : Bool). cond c (connect a b w) w) (may s is)

  connects_on : (a b : Name) (w : MachineState) → ((s : Session) → session_in w.sessions a b ≡ Some s → may_connect s ≡ true) → is_some (session_in w.sessions a b) ≡ true → IsUndisturbed w → IsUndisturbed (connect a b w)
  connects_on a b w may some h =
      let sound : IsSound size positive (connect a b w) =
      subst (IsSound size positive) (connect_is a b w may some)
      (connect_all_sound size positive (between a Controller b Controller ∷ []) w (each_weaker (IsEasy size positive) (Fact size) easy_fact w.sessions h.0)) in
      let alone = connect_alone a b w (each_weaker (IsEasy size positive) IsAlone easy_alone w.sessions h.0) in (
        each_weaker (λ s. Fact size s × IsAlone s) (IsEasy size positive) (λ s q. alone_easy s q.0 q.1) (connect a b w).sessions (each_and (Fact size) IsAlone (connect a b w).sessions sound alone),
        connect_tell a b w (none_of w.sessions h.0) h.1,
      )

  -- ---- an edit
  passes_easy : (ns : List Name) (w : MachineState) → Each (IsEasy size positive) w.sessions → Each (IsEasy size positive) (passes ns w).sessions
  passes_easy [] w e = e
  passes_easy (n ∷ ns) w e = passes_easy ns (pass n w) (pass_easy n w e)

  moved_easy : (m : Option Move) (w : MachineState) → Each (IsEasy size positive) w.sessions → Each (IsEasy size positive) (moved m w).sessions
  moved_easy None w e = e
  moved_easy (Some m) w e =
      let new : List Session = brought w.setup.topology.controllers m.now in
      passes_easy m.left (record { setup = w.setup; sessions = replaced m.name new w.sessions })
      (each_replaced (IsEasy size positive) (IsEasy size positive) m.name (λ s off f. f) new w.sessions
      (each_brought (IsEasy size positive) (λ n k r q. inr (record { down = refl; near = new_fresh n r; far = new_fresh k q })) w.setup.topology.controllers m.now) e)

  edits_easy : (m : Option Move) (o : Option Setup) (w : MachineState) → Each (IsEasy size positive) w.sessions → Each (IsEasy size positive) (edits m o w).sessions
  edits_easy m None w e = e
  edits_easy m (Some x) w e =
      let v : MachineState = record { setup = x; sessions = w.sessions } in
      pass_easy config (moved m v) (moved_easy m v e)

  abbrev pub AreApart : MachineState → MachineEvent → Type 0
  AreApart w e = NamesApart w.setup.topology × EditIsValid (λ y. NamesApart y.topology) w e

  edits_on : (d : Edit) (w : MachineState) → Holds Placed w → AreApart w (Edits d) → IsUndisturbed w → IsUndisturbed (edits (moves d w.setup.topology) (edited w.setup d) w)
  edits_on d w p names h = (edits_easy (moves d w.setup.topology) (edited w.setup d) w h.0, edits_tell d w p (none_of w.sessions h.0) names.0 names.1 h.1)

  -- ---- an event of a window
  pub undisturbed_next : (w : MachineState) (e : MachineEvent) → IsOfWindow e → Holds Placed w → AreApart w e → IsUndisturbed w → IsUndisturbed (next size w e)
  unfolding next
  undisturbed_next w (Edits d) of p names q = edits_on d w p names q
  undisturbed_next w (Deliver from to n) of p names q = delivers_walk IsUndisturbed takes_on n from to w q
  undisturbed_next w (DeliverOctets from to n) of p names q = elim (in_flight w from to == 0) as (λ b. IsUndisturbed (cond b w (pass to (change_session to from (octets_arrived size n) w)))) [ true ↦ q | false ↦ octets_on from to n w q ]
  undisturbed_next w (Lose a b) of p names q = absurd of
  undisturbed_next w (Connect a b) of p names q = elim (is_earlier w.sessions a b) as (λ c. IsUndisturbed (cond c (connect_if a b w) (connect_if b a w))) [ true ↦ connect_walk IsUndisturbed connects_on a b w q | false ↦ connect_walk IsUndisturbed connects_on b a w q ]
  undisturbed_next w (Restart n) of p names q = absurd of
  undisturbed_next w Round of p names q = round_walk IsUndisturbed takes_on w q
  undisturbed_next w Settle of p names q = settle_walk IsUndisturbed takes_on connects_on clears_on w q
  undisturbed_next w (Show n) of p names q = q
  undisturbed_next w (Trace t) of p names q = q
  undisturbed_next w (Break a b n) of p names q = absurd of
