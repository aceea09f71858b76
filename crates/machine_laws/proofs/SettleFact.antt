-- The event `settle`: after its first round no notice is pending, and after its connects no session is down.
use Rattle.std.specs.Prelude.{◌≡◌, ◌⊎◌, ℕ, zero, suc, ◌<◌, ◌≤◌, List, [], ◌∷◌, map, length, Bool, true, false, not, cond, ◌&&◌, ◌==◌, is_some}
use Rattle.std.specs.declared.option.Option.{Option}
use Rattle.std.specs.declared.option.Option.TheVariants.{Some, None}
use Rattle.std.specs.Option.{unwrap_or, option_map}
use Rattle.std.specs.List.{AllByRecursion, flat_map}
use mathlib.Core.Bool.{beq}
use Rattle.std.proofs.lemmas.Bool.{true≢false}
use Rattle.std.proofs.Common.{refl, sym, ◌∙◌, ap, subst, inl, inr, arith}
use Rattle.node_laws.specs.NodeModel.Maps.{Map, difference}
use Rattle.machine_model.specs.Setup.{Name}
use Rattle.node_laws.specs.NodeModel.Step.{Opened}
use Rattle.machine_model.specs.Session.{Message, Carries, SessionEnd, Session, turned, closed, may_send, told, passed, greeting, opened, took_first, arrived, waiting}
use Rattle.machine_model.specs.Network.{MachineState, view, views_of, wanted}
use Rattle.machine_model.specs.Steps.{change_session, pass, session_in, in_flight, repeat, deliver, Due, due_at, dues, notice_stands, deliver_due, deliver_all, round, is_broken, around, connect, may_connect, connect_found, connect_if, connect_all, reconnected, resumed, without_breaks}
use Rattle.machine_model.proofs.SessionFact.{sends, Joined, Down, Fact, Fact-turned, passed_keeps, arrived_keeps}
use Rattle.machine_model.proofs.NodesFact.{HasSetup, setup_connects}
use Rattle.machine_model.proofs.Walk.{Takes, Connects, due_walk, dues_walk, all_walk, connect_walk, connections_walk, resumed_walk}
use Rattle.machine_model.proofs.NetworkFact.{Each, NodePair, nodes, passed_nodes, opened_nodes, with_session_keeps, nodes_keep, found, each_map, breaks_apart, round_sound, connect_all_sound}
use Rattle.machine_model.proofs.NodesFact.{arrived_nodes, turned_nodes, map_nodes, round_nodes, connect_if_nodes, connect_all_nodes}
use Rattle.machine_model.proofs.ToldNext.{is_among, found_among}
use Rattle.machine_model.proofs.Calm.{told_easy, ArrivalOf, arrives}
use Rattle.machine_model.proofs.Twins.{NoTwins, each_and, each_weaker, Found, found_each, found_changed, Pairs, MaybeBoth, pairs_found, pairs_session, pairs_node}
use Rattle.machine_model.proofs.RoundFact.{IsCalm, AreCalm, fact_joined}
use Rattle.machine_model.proofs.Turns.{notice_of}

-- ---- sends that meet no break
-- all that a pass leaves of a session as it was
pub record Steady (s t : Session) : Type 0 where
  pub down : t.is_down ≡ s.is_down
  pub near_notice : t.near.notice ≡ s.near.notice
  pub far_notice : t.far.notice ≡ s.far.notice
  pub near_breaks : t.near.breaks ≡ s.near.breaks
  pub far_breaks : t.far.breaks ≡ s.far.breaks

steady_refl : (s : Session) → Steady s s
steady_refl s = record { down = refl; near_notice = refl; far_notice = refl; near_breaks = refl; far_breaks = refl }

steady_sends : (d : Bool) (near far : SessionEnd) (ms : List Message) → Steady (record { is_down = d; near = near; far = far }) (sends ms (record { is_down = d; near = near; far = far }))
steady_sends true near far ms = record { down = refl; near_notice = refl; far_notice = refl; near_breaks = refl; far_breaks = refl }
steady_sends false near far ms = record { down = refl; near_notice = refl; far_notice = refl; near_breaks = refl; far_breaks = refl }

steady_told : (ms : List Message) (s : Session) → s.near.breaks ≡ [] → Steady s (told ms s)
steady_told ms s e = subst (Steady s) (sym (told_easy ms s e)) (steady_sends s.is_down s.near s.far ms)

steady_passed : (m : Map) (s : Session) → s.near.breaks ≡ [] → Steady s (passed m s)
unfolding passed
steady_passed m s e =
    elim (may_send s) as (λ b. Steady s (cond b (told (map Carries (difference s.near.sent m)) (record s { near = record s.near { sent = m } })) s)) [
      | true ↦
          let t = record s { near = record s.near { sent = m } } in
          let k = steady_told (map Carries (difference s.near.sent m)) t e in
          record { down = k.down; near_notice = k.near_notice; far_notice = k.far_notice; near_breaks = k.near_breaks; far_breaks = k.far_breaks }
      | false ↦ steady_refl s
    ]

-- an end that opens
steady_opened : (s : Session) → s.near.breaks ≡ [] → Steady (record { is_down = false; near = s.near; far = s.far }) (opened s)
unfolding opened
steady_opened s e =
    let k = steady_told (greeting s ∷ []) (record { is_down = false; near = record s.near { phase = Opened }; far = s.far }) e in
    record { down = k.down; near_notice = k.near_notice; far_notice = k.far_notice; near_breaks = k.near_breaks; far_breaks = k.far_breaks }

-- whether a notice waits at the first node, of its session with the second
abbrev pub notice_at : MachineState → Name → Name → Bool
notice_at w a b = notice_of (session_in w.sessions a b)

module _ (size : Name → Message → ℕ) (positive : (n : Name) (m : Message) → 0 < size n m) where
  -- ---- the first round. No break is pending
  abbrev pub IsFit : Session → Type 0
  IsFit s = Fact size s × (s.near.breaks ≡ []) × (s.far.breaks ≡ [])

  abbrev pub AreFit : MachineState → Type 0
  AreFit w = Each IsFit w.sessions

  fit_turned : (s : Session) → IsFit s → IsFit (turned s)
  fit_turned s f = (Fact-turned size s f.0, f.2, f.1)

  -- what arrives: no notice waits there any more, and none comes at the other end
  pub record Hears (s t : Session) : Type 0 where
    pub near_notice : t.near.notice ≡ false
    pub far_notice : s.far.notice ≡ false → t.far.notice ≡ false
    pub near_breaks : t.near.breaks ≡ s.near.breaks
    pub far_breaks : t.far.breaks ≡ s.far.breaks

  hears_joined : (s : Session) → Joined size s → s.near.breaks ≡ [] → Hears s (arrived s)
  hears_joined s j e = by_flight s.far.flight (arrives size s j e)
    where
      by_flight : (f : List Message) → ArrivalOf f s (arrived s) → Hears s (arrived s)
      by_flight [] a = subst (Hears s) (sym a) (record { near_notice = j.near_notice; far_notice = λ _. j.far_notice; near_breaks = refl; far_breaks = refl })
      by_flight (m ∷ ms) a =
          let k = fact_joined size positive (arrived s) (arrived_keeps size positive s (inl j)) a.whole in
          record { near_notice = k.near_notice; far_notice = λ _. k.far_notice; near_breaks = a.near_breaks; far_breaks = a.far_breaks }

  hears_down : (s : Session) → Down s → Hears s (arrived s)
  unfolding arrived
  hears_down s d =
      elim s.near.notice as (λ b. s.near.notice ≡ b → Hears s (cond b (record s { near = closed s.near }) (took_first s.far.flight s))) [
        | true ↦ λ _. record { near_notice = refl; far_notice = λ e. e; near_breaks = refl; far_breaks = refl }
        | false ↦ λ is. subst (λ (f : List Message). Hears s (took_first f s)) (sym d.far.flight) (record { near_notice = is; far_notice = λ e. e; near_breaks = refl; far_breaks = refl })
      ] refl

  hears : (s : Session) → IsFit s → Hears s (arrived s)
  hears s f = elim f.0 as (λ _. Hears s (arrived s)) [ inl j ↦ hears_joined s j f.1 | inr d ↦ hears_down s d ]

  fit_arrived : (s : Session) → IsFit s → IsFit (arrived s)
  fit_arrived s f = let h = hears s f in (arrived_keeps size positive s f.0, h.near_breaks ∙ f.1, h.far_breaks ∙ f.2)

  fit_passed : (m : Map) (s : Session) → IsFit s → IsFit (passed m s)
  fit_passed m s f = let k = steady_passed m s f.1 in (passed_keeps size positive m s f.0, k.near_breaks ∙ f.1, k.far_breaks ∙ f.2)

  fit_change : (to from : Name) (w : MachineState) → AreFit w → AreFit (change_session to from arrived w)
  fit_change to from w c = with_session_keeps IsFit fit_turned arrived fit_arrived to from w.sessions c

  fit_pass : (n : Name) (w : MachineState) → AreFit w → AreFit (pass n w)
  fit_pass n w c = nodes_keep IsFit fit_turned (λ s. passed (wanted w.setup (views_of n w.sessions) (view s)) s) (λ s d. fit_passed (wanted w.setup (views_of n w.sessions) (view s)) s d) n w.sessions c

  fit_takes : Takes AreFit
  fit_takes from to w c = fit_pass to (change_session to from arrived w) (fit_change to from w c)

  fit_due : (d : Due) (w : MachineState) → AreFit w → AreFit (deliver_due d w)
  fit_due = due_walk AreFit fit_takes

  fit_repeat : (n : ℕ) (d : Due) (w : MachineState) → AreFit w → AreFit (repeat n (deliver_due d) w)
  fit_repeat = dues_walk AreFit fit_takes

  fit_all : (ds : List Due) (w : MachineState) → AreFit w → AreFit (deliver_all ds w)
  fit_all = all_walk AreFit fit_takes

  -- no notice comes
  abbrev Hushed : Session → Session → Type 0
  Hushed s t = (s.near.notice ≡ false → t.near.notice ≡ false) × (s.far.notice ≡ false → t.far.notice ≡ false)

  hushed_both : (s t : Session) → Hushed s t → Hushed (turned s) (turned t)
  hushed_both s t h = (h.1, h.0)

  hushed_same : (s : Session) → Hushed s s
  hushed_same s = ((λ e. e), (λ e. e))

  hushed_passed : (m : Map) (s : Session) → s.near.breaks ≡ [] → Hushed s (passed m s)
  hushed_passed m s e = let k = steady_passed m s e in ((λ e. k.near_notice ∙ e), (λ e. k.far_notice ∙ e))

  hushed_arrived : (s : Session) → IsFit s → Hushed s (arrived s)
  hushed_arrived s f = let h = hears s f in ((λ _. h.near_notice), h.far_notice)

  still : (a b : Name) (v w : MachineState) → Pairs Hushed v.sessions w.sessions → notice_at v a b ≡ false → notice_at w a b ≡ false
  still a b v w p =
      by_both (session_in v.sessions a b) (session_in w.sessions a b) (pairs_found Hushed hushed_both a b v.sessions w.sessions p)
    where
      by_both : (o q : Option Session) → MaybeBoth (λ s u. (s.near.name ≡ a) × (s.far.name ≡ b) × Hushed s u) o q → notice_of o ≡ false → notice_of q ≡ false
      by_both None None h e = refl
      by_both (Some s) (Some u) h e = h.2.0 e
      by_both None (Some u) h e = absurd h
      by_both (Some s) None h e = absurd h

  still_pass : (n a b : Name) (w : MachineState) → AreFit w → notice_at w a b ≡ false → notice_at (pass n w) a b ≡ false
  still_pass n a b w c e =
      let W = λ (s : Session). wanted w.setup (views_of n w.sessions) (view s) in
      still a b w (pass n w) (pairs_node Hushed hushed_both hushed_same IsFit fit_turned (λ s. passed (W s) s) (λ s. passed_nodes (W s) s) n (λ s f. hushed_passed (W s) s f.1) w.sessions c) e

  abbrev Still : Name → Name → MachineState → Type 0
  Still a b w = AreFit w × (notice_at w a b ≡ false)

  still_takes : (a b : Name) → Takes (Still a b)
  still_takes a b from to w q =
      let v = change_session to from arrived w in (
        fit_takes from to w q.0,
        still_pass to a b v (fit_change to from w q.0) (still a b w v (pairs_session Hushed hushed_both hushed_same IsFit fit_turned arrived arrived_nodes to from (λ s _ f. hushed_arrived s f) w.sessions q.0) q.1),
      )

  still_repeat : (n : ℕ) (d : Due) (a b : Name) (w : MachineState) → AreFit w → notice_at w a b ≡ false → notice_at (repeat n (deliver_due d) w) a b ≡ false
  still_repeat n d a b w c e = (dues_walk (Still a b) (still_takes a b) n d w (c, e)).1

  still_all : (ds : List Due) (a b : Name) (w : MachineState) → AreFit w → notice_at w a b ≡ false → notice_at (deliver_all ds w) a b ≡ false
  still_all ds a b w c e = (all_walk (Still a b) (still_takes a b) ds w (c, e)).1

  -- and a delivery leaves none where it is made
  no_wait : (o : Option Session) → (unwrap_or (option_map waiting o) 0 == 0) ≡ true → notice_of o ≡ false
  no_wait None e = refl
  no_wait (Some s) e = elim s.near.notice as (λ b. (cond b 1 (length s.far.flight) == 0) ≡ true → b ≡ false) [ true ↦ λ e. absurd (true≢false (sym e)) | false ↦ λ _. refl ] e

  taken_notice : (from to : Name) (w : MachineState) → AreFit w → notice_at (deliver from to w) to from ≡ false
  taken_notice from to w c =
      elim (in_flight w from to == 0) as (λ x. (in_flight w from to == 0) ≡ x → notice_at (cond x w (pass to (change_session to from arrived w))) to from ≡ false) [
        | true ↦ λ idle. no_wait (session_in w.sessions to from) idle
        | false ↦ λ _.
            let v = change_session to from arrived w in
            still_pass to to from v (fit_change to from w c)
            (ap notice_of (found_changed to from arrived arrived_nodes w.sessions)
            ∙ elim (session_in w.sessions to from) as (λ o. session_in w.sessions to from ≡ o → notice_of (option_map arrived o) ≡ false) [
              | None ↦ λ _. refl
              | Some s ↦ λ is. (hears s (found IsFit fit_turned w.sessions to from c s is)).near_notice
            ] refl)
      ] refl

  -- what waited is taken, where it was a notice; else there is none
  abbrev Awaits : MachineState → Due → Type 0
  Awaits w d = ((d.is_notice ≡ true) × (1 ≤ d.count)) ⊎ (notice_at w d.to d.from ≡ false)

  taken_due : (d : Due) (w : MachineState) → AreFit w → (d.is_notice ≡ true) ⊎ (notice_at w d.to d.from ≡ false) → notice_at (deliver_due d w) d.to d.from ≡ false
  taken_due d w c h =
      elim (beq (notice_stands w d) d.is_notice) as (λ x. beq (notice_stands w d) d.is_notice ≡ x → notice_at (cond x (deliver d.from d.to w) w) d.to d.from ≡ false) [
        | true ↦ λ _. taken_notice d.from d.to w c
        | false ↦ λ off. elim h as (λ _. notice_at w d.to d.from ≡ false) [
          | inl p ↦ no_longer (notice_at w d.to d.from) (ap (beq (notice_at w d.to d.from)) (sym p) ∙ off)
          | inr e ↦ e
        ]
      ] refl
    where
      no_longer : (b : Bool) → beq b true ≡ false → b ≡ false
      no_longer true e = absurd (true≢false e)
      no_longer false e = refl

  taken_repeat : (n : ℕ) (d : Due) (w : MachineState) → AreFit w → ((d.is_notice ≡ true) × (1 ≤ n)) ⊎ (notice_at w d.to d.from ≡ false) → notice_at (repeat n (deliver_due d) w) d.to d.from ≡ false
  taken_repeat zero d w c (inl p) = absurd (omega (arith, p.1))
  taken_repeat zero d w c (inr e) = e
  taken_repeat (suc n) d w c h =
      still_repeat n d d.to d.from (deliver_due d w) (fit_due d w c)
      (taken_due d w c (elim h as (λ _. (d.is_notice ≡ true) ⊎ (notice_at w d.to d.from ≡ false)) [ inl p ↦ inl p.0 | inr e ↦ inr e ]))

  others_await : (d : Due) (w : MachineState) → AreFit w → (es : List Due) → AllByRecursion (Awaits w) es → AllByRecursion (Awaits (repeat d.count (deliver_due d) w)) es
  others_await d w c [] h = tt
  others_await d w c (e ∷ es) h = (elim h.0 as (λ _. Awaits (repeat d.count (deliver_due d) w) e) [ inl p ↦ inl p | inr q ↦ inr (still_repeat d.count d e.to e.from w c q) ], others_await d w c es h.1)

  all_taken : (ds : List Due) (w : MachineState) → AreFit w → AllByRecursion (Awaits w) ds → AllByRecursion (λ d. notice_at (deliver_all ds w) d.to d.from ≡ false) ds
  all_taken [] w c h = tt
  all_taken (d ∷ ds) w c h =
      let v = repeat d.count (deliver_due d) w in
      let cv = fit_repeat d.count d w c in
      (still_all ds d.to d.from v cv (taken_repeat d.count d w c h.0), all_taken ds v cv (others_await d w c ds h.1))

  awaits_one : (w : MachineState) (s : Session) → session_in w.sessions s.near.name s.far.name ≡ Some s → Awaits w (due_at s)
  awaits_one w s is =
      elim s.near.notice as (λ b. s.near.notice ≡ b → ((b ≡ true) × (1 ≤ cond b 1 (length s.far.flight))) ⊎ (notice_at w s.near.name s.far.name ≡ false)) [
        | true ↦ λ _. inl (refl, omega arith)
        | false ↦ λ off. inr (ap notice_of is ∙ off)
      ] refl

  awaits_all : (w : MachineState) (ss : List Session) → Each (Found w.sessions) ss → AllByRecursion (Awaits w) (flat_map (λ s. due_at (turned s) ∷ due_at s ∷ []) ss)
  awaits_all w [] f = tt
  awaits_all w (s ∷ ss) f = (awaits_one w (turned s) f.0.1, (awaits_one w s f.0.0, awaits_all w ss f.1))

  abbrev BothStill : MachineState → NodePair → Type 0
  BothStill w p = (notice_at w p.0.0 p.1.0 ≡ false) × (notice_at w p.1.0 p.0.0 ≡ false)

  both_still : (w : MachineState) (ss : List Session) → AllByRecursion (λ d. notice_at w d.to d.from ≡ false) (flat_map (λ s. due_at (turned s) ∷ due_at s ∷ []) ss) → AllByRecursion (BothStill w) (map nodes ss)
  both_still w [] h = tt
  both_still w (s ∷ ss) h = ((h.1.0, h.0), both_still w ss h.1.1)

  -- without notices and breaks
  pub record Hush (s : Session) : Type 0 where
    pub near_notice : s.near.notice ≡ false
    pub far_notice : s.far.notice ≡ false
    pub near_breaks : s.near.breaks ≡ []
    pub far_breaks : s.far.breaks ≡ []

  all_hush : (w : MachineState) (ss : List Session) → Each (Found w.sessions) ss → Each IsFit ss → AllByRecursion (BothStill w) (map nodes ss) → Each Hush ss
  all_hush w [] f c h = tt
  all_hush w (s ∷ ss) f c h = (
    record { near_notice = sym (ap notice_of f.0.0) ∙ h.0.0; far_notice = sym (ap notice_of f.0.1) ∙ h.0.1; near_breaks = c.0.1; far_breaks = c.0.2 },
    all_hush w ss f.1 c.1 h.1,
  )

  -- after a round without breaks no notice is pending
  pub round_hush : (w : MachineState) → NoTwins (map nodes w.sessions) → AreFit w → Each Hush (round w).sessions
  unfolding round
  round_hush w t c =
      let v = round w in
      let same : map nodes v.sessions ≡ map nodes w.sessions = round_nodes w in
      all_hush v v.sessions (found_each v.sessions (subst NoTwins (sym same) t)) (fit_all (dues w) w c)
      (subst (AllByRecursion (BothStill v)) (sym same) (both_still v w.sessions (all_taken (dues w) w c (awaits_all w w.sessions (found_each w.sessions t)))))

  pub unbroken_fit : (ss : List Session) → Each (Fact size) ss → Each IsFit (map without_breaks ss)
  unbroken_fit ss e = each_map (Fact size) IsFit without_breaks (λ s f. (breaks_apart size positive [] [] s f, refl, refl)) ss e

  -- ---- connecting
  hush_turned : (s : Session) → Hush s → Hush (turned s)
  hush_turned s h = record { near_notice = h.far_notice; far_notice = h.near_notice; near_breaks = h.far_breaks; far_breaks = h.near_breaks }

  steady_hush : (s t : Session) → Steady s t → Hush s → Hush t
  steady_hush s t k h = record { near_notice = k.near_notice ∙ h.near_notice; far_notice = k.far_notice ∙ h.far_notice; near_breaks = k.near_breaks ∙ h.near_breaks; far_breaks = k.far_breaks ∙ h.far_breaks }

  hush_passed : (m : Map) (s : Session) → Hush s → Hush (passed m s)
  hush_passed m s h = steady_hush s (passed m s) (steady_passed m s h.near_breaks) h

  hush_opened : (s : Session) → Hush s → Hush (opened s)
  hush_opened s h = steady_hush (record { is_down = false; near = s.near; far = s.far }) (opened s) (steady_opened s h.near_breaks) (record { near_notice = h.near_notice; far_notice = h.far_notice; near_breaks = h.near_breaks; far_breaks = h.far_breaks })

  abbrev pub AreHush : MachineState → Type 0
  AreHush w = Each Hush w.sessions

  hush_pass : (n : Name) (w : MachineState) → AreHush w → AreHush (pass n w)
  hush_pass n w c = nodes_keep Hush hush_turned (λ s. passed (wanted w.setup (views_of n w.sessions) (view s)) s) (λ s d. hush_passed (wanted w.setup (views_of n w.sessions) (view s)) s d) n w.sessions c

  hush_open : (a b : Name) (w : MachineState) → AreHush w → AreHush (change_session a b opened w)
  hush_open a b w c = with_session_keeps Hush hush_turned opened hush_opened a b w.sessions c

  hush_around : (s : Session) → Hush s → Hush (around opened s)
  hush_around s h = hush_turned (opened (turned s)) (hush_opened (turned s) (hush_turned s h))

  hush_open_far : (a b : Name) (w : MachineState) → AreHush w → AreHush (change_session a b (around opened) w)
  hush_open_far a b w c = with_session_keeps Hush hush_turned (around opened) hush_around a b w.sessions c

  -- a session that is not down stays so
  abbrev Lasts : Session → Session → Type 0
  Lasts s t = s.is_down ≡ false → t.is_down ≡ false

  lasts_both : (s t : Session) → Lasts s t → Lasts (turned s) (turned t)
  lasts_both s t h = h

  lasts_same : (s : Session) → Lasts s s
  lasts_same s e = e

  abbrev down_in : Option Session → Bool
  down_in o = unwrap_or (option_map (λ (s : Session). s.is_down) o) true

  lasting : (c d : Name) (v w : MachineState) → Pairs Lasts v.sessions w.sessions → is_broken v c d ≡ false → is_broken w c d ≡ false
  lasting c d v w p = by_both (session_in v.sessions c d) (session_in w.sessions c d) (pairs_found Lasts lasts_both c d v.sessions w.sessions p)
    where
      by_both : (o q : Option Session) → MaybeBoth (λ s u. (s.near.name ≡ c) × (s.far.name ≡ d) × Lasts s u) o q → down_in o ≡ false → down_in q ≡ false
      by_both None None h e = e
      by_both (Some s) (Some u) h e = h.2 e
      by_both None (Some u) h e = absurd h
      by_both (Some s) None h e = absurd h

  pass_lasts : (n c d : Name) (w : MachineState) → AreHush w → is_broken w c d ≡ false → is_broken (pass n w) c d ≡ false
  pass_lasts n c d w h =
      let W = λ (s : Session). wanted w.setup (views_of n w.sessions) (view s) in
      lasting c d w (pass n w) (pairs_node Lasts lasts_both lasts_same Hush hush_turned (λ s. passed (W s) s) (λ s. passed_nodes (W s) s) n (λ s h e. (steady_passed (W s) s h.near_breaks).down ∙ e) w.sessions h)

  open_lasts : (a b c d : Name) (w : MachineState) → AreHush w → is_broken w c d ≡ false → is_broken (change_session a b opened w) c d ≡ false
  open_lasts a b c d w h = lasting c d w (change_session a b opened w) (pairs_session Lasts lasts_both lasts_same Hush hush_turned opened opened_nodes a b (λ s _ h e. (steady_opened s h.near_breaks).down) w.sessions h)

  open_far_lasts : (a b c d : Name) (w : MachineState) → AreHush w → is_broken w c d ≡ false → is_broken (change_session a b (around opened) w) c d ≡ false
  open_far_lasts a b c d w h =
      lasting c d w (change_session a b (around opened) w)
      (pairs_session Lasts lasts_both lasts_same Hush hush_turned (around opened) (turned_nodes opened opened_nodes) a b (λ s _ h e. (steady_opened (turned s) (hush_turned s h).near_breaks).down) w.sessions h)

  -- a connection leaves all so, and what it connects is not down
  connect_hush : (a b : Name) (w : MachineState) → AreHush w → AreHush (connect a b w)
  connect_hush a b w h =
      let u = pass a (change_session a b opened w) in
      let hu = hush_pass a (change_session a b opened w) (hush_open a b w h) in
      elim (is_broken u a b) as (λ x. AreHush (cond x u (pass b (change_session a b (around opened) u)))) [
        | true ↦ hu
        | false ↦ hush_pass b (change_session a b (around opened) u) (hush_open_far a b u hu)
      ]

  connect_lasts : (a b c d : Name) (w : MachineState) → AreHush w → is_broken (pass a (change_session a b opened w)) c d ≡ false → is_broken (connect a b w) c d ≡ false
  connect_lasts a b c d w h e =
      let u = pass a (change_session a b opened w) in
      let hu = hush_pass a (change_session a b opened w) (hush_open a b w h) in
      elim (is_broken u a b) as (λ x. is_broken (cond x u (pass b (change_session a b (around opened) u))) c d ≡ false) [
        | true ↦ e
        | false ↦ pass_lasts b c d (change_session a b (around opened) u) (hush_open_far a b u hu) (open_far_lasts a b c d u hu e)
      ]

  hush_connects : Connects AreHush
  hush_connects a b w may some h = connect_hush a b w h

  connect_if_hush : (a b : Name) (w : MachineState) → AreHush w → AreHush (connect_if a b w)
  connect_if_hush = connect_walk AreHush hush_connects

  abbrev Whole : Name → Name → MachineState → Type 0
  Whole c d w = AreHush w × (is_broken w c d ≡ false)

  whole_connects : (c d : Name) → Connects (Whole c d)
  whole_connects c d a b w may some q =
      (connect_hush a b w q.0, connect_lasts a b c d w q.0 (pass_lasts a c d (change_session a b opened w) (hush_open a b w q.0) (open_lasts a b c d w q.0 q.1)))

  -- the session that is connected
  first_opens : (a b : Name) (w : MachineState) (s : Session) → AreHush w → session_in w.sessions a b ≡ Some s → is_broken (pass a (change_session a b opened w)) a b ≡ false
  first_opens a b w s h is =
      let k = found Hush hush_turned w.sessions a b h s is in
      pass_lasts a a b (change_session a b opened w) (hush_open a b w h)
      (ap down_in (found_changed a b opened opened_nodes w.sessions ∙ ap (option_map opened) is) ∙ (steady_opened s k.near_breaks).down)

  connected : (a b : Name) (w : MachineState) → AreHush w → is_some (session_in w.sessions a b) ≡ true → is_broken (connect_if a b w) a b ≡ false
  connected a b w h some =
      elim (session_in w.sessions a b) as (λ o. session_in w.sessions a b ≡ o → is_some o ≡ true → is_broken (connect_found o a b w) a b ≡ false) [
        | None ↦ λ _ e. absurd (true≢false (sym e))
        | Some s ↦ λ is _.
            let k = found Hush hush_turned w.sessions a b h s is in
            let may : may_connect s ≡ s.is_down = (λ i. s.is_down && (not (k.near_notice i) && not (k.far_notice i))) ∙ and_true s.is_down in
            elim s.is_down as (λ d. s.is_down ≡ d → is_broken (cond (may_connect s) (connect a b w) w) a b ≡ false) [
              | true ↦ λ e. ap (λ x. is_broken (cond x (connect a b w) w) a b) (may ∙ e) ∙ connect_lasts a b a b w h (first_opens a b w s h is)
              | false ↦ λ e. ap (λ x. is_broken (cond x (connect a b w) w) a b) (may ∙ e) ∙ ap down_in is ∙ e
            ] refl
      ] refl some
    where
      and_true : (b : Bool) → (b && true) ≡ b
      and_true true = refl
      and_true false = refl

  connect_all_hush : (ss : List Session) (w : MachineState) → AreHush w → AreHush (connect_all ss w)
  connect_all_hush = connections_walk AreHush hush_connects

  connect_all_lasts : (ss : List Session) (c d : Name) (w : MachineState) → AreHush w → is_broken w c d ≡ false → is_broken (connect_all ss w) c d ≡ false
  connect_all_lasts ss c d w h e = (connections_walk (Whole c d) (whole_connects c d) ss w (h, e)).1

  abbrev Among : MachineState → Session → Type 0
  Among w s = is_some (session_in w.sessions s.near.name s.far.name) ≡ true

  among_kept : (v w : MachineState) → map nodes w.sessions ≡ map nodes v.sessions → (s : Session) → Among v s → Among w s
  among_kept v w e s h = found_among w.sessions s.near.name s.far.name ∙ ap (λ (ps : List NodePair). is_among ps s.near.name s.far.name) e ∙ sym (found_among v.sessions s.near.name s.far.name) ∙ h

  all_connected : (ss : List Session) (w : MachineState) → AreHush w → Each (Among w) ss → Each (λ s. is_broken (connect_all ss w) s.near.name s.far.name ≡ false) ss
  all_connected [] w h m = tt
  all_connected (s ∷ ss) w h m =
      let v = connect_if s.near.name s.far.name w in
      let hv = connect_if_hush s.near.name s.far.name w h in (
        connect_all_lasts ss s.near.name s.far.name v hv (connected s.near.name s.far.name w h m.0),
        all_connected ss v hv (each_weaker (Among w) (Among v) (among_kept w v (connect_if_nodes s.near.name s.far.name w)) ss m.1),
      )

  -- all are connected
  to_places : (Q : NodePair → Type 0) (ss : List Session) → Each (λ s. Q (nodes s)) ss → AllByRecursion Q (map nodes ss)
  to_places Q [] e = tt
  to_places Q (s ∷ ss) e = (e.0, to_places Q ss e.1)

  from_places : (Q : NodePair → Type 0) (ss : List Session) → AllByRecursion Q (map nodes ss) → Each (λ s. Q (nodes s)) ss
  from_places Q [] e = tt
  from_places Q (s ∷ ss) e = (e.0, from_places Q ss e.1)

  pub reconnected_calm : (w : MachineState) → NoTwins (map nodes w.sessions) → Each (Fact size) w.sessions → AreHush w → AreCalm size positive (reconnected w)
  reconnected_calm w t f h =
      let v = reconnected w in
      let same : map nodes v.sessions ≡ map nodes w.sessions = connect_all_nodes w.sessions w in
      let all = all_connected w.sessions w h (each_weaker (Found w.sessions) (Among w) (λ s f. ap is_some f.0) w.sessions (found_each w.sessions t)) in
      let whole = from_places (λ p. is_broken v p.0.0 p.1.0 ≡ false) v.sessions (subst (AllByRecursion (λ p. is_broken v p.0.0 p.1.0 ≡ false)) (sym same) (to_places (λ p. is_broken v p.0.0 p.1.0 ≡ false) w.sessions all)) in
      each_weaker (λ s. ((is_broken v s.near.name s.far.name ≡ false) × Found v.sessions s) × (Fact size s × Hush s)) (IsCalm size positive)
      (λ s c. (fact_joined size positive s c.1.0 (sym (ap down_in c.0.1.0) ∙ c.0.0), c.1.1.near_breaks, c.1.1.far_breaks)) v.sessions
      (each_and (λ s. (is_broken v s.near.name s.far.name ≡ false) × Found v.sessions s) (λ s. Fact size s × Hush s) v.sessions
      (each_and (λ s. is_broken v s.near.name s.far.name ≡ false) (Found v.sessions) v.sessions whole (found_each v.sessions (subst NoTwins (sym same) t)))
      (each_and (Fact size) Hush v.sessions (connect_all_sound size positive w.sessions w f) (connect_all_hush w.sessions w h)))

  -- settling begins: after the first round and the connections
  pub resumed_calm : (w : MachineState) → NoTwins (map nodes w.sessions) → Each (Fact size) w.sessions → AreCalm size positive (resumed w)
  resumed_calm w t sound =
      let u : MachineState = record { setup = w.setup; sessions = map without_breaks w.sessions } in
      let v = round u in
      let nodes_u : map nodes u.sessions ≡ map nodes w.sessions = map_nodes without_breaks (λ s. refl) w.sessions in
      let nodes_v : map nodes v.sessions ≡ map nodes w.sessions = round_nodes u ∙ nodes_u in
      let fit = unbroken_fit w.sessions sound in
      reconnected_calm v (subst NoTwins (sym nodes_v) t) (round_sound size positive u (each_weaker IsFit (Fact size) (λ s f. f.0) u.sessions fit)) (round_hush u (subst NoTwins (sym nodes_u) t) fit)

-- ---- the configuration stays
pub resumed_setup : (w : MachineState) → (resumed w).setup ≡ w.setup
resumed_setup w = resumed_walk (HasSetup w.setup) (λ from to w e. e) (setup_connects w.setup) (λ w e. e) w refl
