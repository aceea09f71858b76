-- The event `round`, in a state where no session is down and no break is pending: it is a list of deliveries that takes all that was in flight.
use Rattle.std.specs.Prelude.{◌≡◌, ◌⊎◌, ℕ, zero, suc, ◌+◌, ◌-◌, ◌<◌, ◌≤◌, List, [], ◌∷◌, ◌++◌, map, length, true, false, cond, ◌&&◌, ◌==◌}
use Rattle.std.specs.declared.option.Option.{Option}
use Rattle.std.specs.declared.option.Option.TheVariants.{Some, None}
use Rattle.std.specs.Option.{unwrap_or, option_map}
use Rattle.std.specs.List.{AllByRecursion, list_all, flat_map}
use mathlib.Core.Bool.{beq}
use Rattle.std.specs.Cmp.Lexicographic.{bytes_decides}
use Rattle.std.proofs.lemmas.Bool.{true≢false, and_parts, and_from, eqb-true}
use Rattle.std.proofs.lemmas.Option.{same_Some}
use Rattle.std.proofs.Common.{refl, sym, ◌∙◌, ap, subst, inl, inr, arith}
use Rattle.transform_model.specs.NodeModel.Maps.{Map, difference}
use Rattle.machine_model.specs.Setup.{Name}
use Rattle.ov_types.specs.First.{same_name}
use Rattle.machine_model.specs.Session.{Message, Carries, Session, turned, may_send, passed, arrived, waiting}
use Rattle.machine_model.specs.Network.{MachineState, is_at, view, views_of, wanted}
use Rattle.machine_model.specs.Events.{MachineEvent, Deliver, next, after}
use Rattle.machine_model.specs.Steps.{joins, with_session, change_session, pass, session_in, in_flight, repeat, deliver, Due, due_at, dues, notice_stands, deliver_due, deliver_all, round}
use Rattle.machine_model.specs.Rounds.{is_delivery, taken_of, IsRound}
use Rattle.machine_model.proofs.SessionFact.{Joined, Fact, Fact-turned, passed_keeps, arrived_keeps}
use Rattle.machine_model.proofs.Walk.{Takes, deliver_walk, delivers_walk}
use Rattle.machine_model.proofs.NetworkFact.{Each, passed_nodes, with_session_keeps, nodes_keep, found}
use Rattle.machine_model.proofs.NodesFact.{arrived_nodes}
use Rattle.machine_model.proofs.Calm.{telling, passed_easy, ArrivalOf, arrives}
use Rattle.machine_model.proofs.Twins.{found_changed, found_node, same_name_sym, swap_and, Pairs, MaybeBoth, pairs_found, pairs_session, pairs_node}

append_longer : {A : Type 0} (xs ys : List A) → length xs ≤ length (xs ++ ys)
append_longer [] ys = omega arith
append_longer (x ∷ xs) ys = omega (arith, append_longer xs ys)

module _ (size : Name → Message → ℕ) (positive : (n : Name) (m : Message) → 0 < size n m) where
  -- not down, and without breaks
  abbrev pub IsCalm : Session → Type 0
  IsCalm s = Joined size s × (s.near.breaks ≡ []) × (s.far.breaks ≡ [])

  pub fact_joined : (s : Session) → Fact size s → s.is_down ≡ false → Joined size s
  fact_joined s (inl j) e = j
  fact_joined s (inr d) e = absurd (true≢false (sym d.down ∙ e))

  calm_turned : (s : Session) → IsCalm s → IsCalm (turned s)
  calm_turned s c = (fact_joined (turned s) (Fact-turned size s (inl c.0)) c.0.whole, c.2, c.1)

  calm_arrived : (s : Session) → IsCalm s → IsCalm (arrived s)
  calm_arrived s c = by_flight s.far.flight (arrives size s c.0 c.1)
    where
      by_flight : (f : List Message) → ArrivalOf f s (arrived s) → IsCalm (arrived s)
      by_flight [] a = subst IsCalm (sym a) c
      by_flight (m ∷ ms) a = (fact_joined (arrived s) (arrived_keeps size positive s (inl c.0)) a.whole, a.near_breaks ∙ c.1, a.far_breaks ∙ c.2)

  -- what a pass makes of a session
  passed_telling : (Q : Session → Type 0) (m : Map) (s : Session) → IsCalm s → Q s → Q (telling m s) → Q (passed m s)
  passed_telling Q m s c q t = subst Q (sym (passed_easy m s c.0.whole c.1)) (elim (may_send s) as (λ b. Q (cond b (telling m s) s)) [ true ↦ t | false ↦ q ])

  calm_passed : (m : Map) (s : Session) → IsCalm s → IsCalm (passed m s)
  calm_passed m s c = (
    fact_joined (passed m s) (passed_keeps size positive m s (inl c.0)) (passed_telling (λ t. t.is_down ≡ false) m s c c.0.whole c.0.whole),
    passed_telling (λ t. t.near.breaks ≡ []) m s c c.1 c.1,
    passed_telling (λ t. t.far.breaks ≡ []) m s c c.2 c.2,
  )

  abbrev pub AreCalm : MachineState → Type 0
  AreCalm w = Each IsCalm w.sessions

  calm_change : (to from : Name) (w : MachineState) → AreCalm w → AreCalm (change_session to from arrived w)
  calm_change to from w c = with_session_keeps IsCalm calm_turned arrived calm_arrived to from w.sessions c

  calm_pass : (n : Name) (w : MachineState) → AreCalm w → AreCalm (pass n w)
  calm_pass n w c = nodes_keep IsCalm calm_turned (λ s. passed (wanted w.setup (views_of n w.sessions) (view s)) s) (λ s d. calm_passed (wanted w.setup (views_of n w.sessions) (view s)) s d) n w.sessions c

  calm_takes : Takes AreCalm
  calm_takes from to w c = calm_pass to (change_session to from arrived w) (calm_change to from w c)

  calm_deliver : (from to : Name) (w : MachineState) → AreCalm w → AreCalm (deliver from to w)
  calm_deliver = deliver_walk AreCalm calm_takes

  pub calm_delivers : (n : ℕ) (from to : Name) (w : MachineState) → AreCalm w → AreCalm (repeat n (deliver from to) w)
  calm_delivers = delivers_walk AreCalm calm_takes

  -- ---- what one delivery takes
  calm_waiting : (s : Session) → IsCalm s → waiting s ≡ length s.far.flight
  calm_waiting s c = ap (λ b. cond b 1 (length s.far.flight)) c.0.near_notice

  calm_found : (w : MachineState) (a b : Name) → AreCalm w → (s : Session) → session_in w.sessions a b ≡ Some s → IsCalm s
  calm_found w a b c s is = found IsCalm calm_turned w.sessions a b c s is

  abbrev flight_of : Option Session → ℕ
  flight_of o = unwrap_or (option_map waiting o) 0

  fewer : (m : ℕ) → (m == 0) ≡ true → m ≡ m - 1
  fewer m e = let z = eqb-true m 0 e in omega (arith, z)

  arrived_fewer : (s : Session) → IsCalm s → length (arrived s).far.flight ≡ length s.far.flight - 1
  arrived_fewer s c = by_flight s.far.flight refl (arrives size s c.0 c.1)
    where
      by_flight : (f : List Message) → s.far.flight ≡ f → ArrivalOf f s (arrived s) → length (arrived s).far.flight ≡ length s.far.flight - 1
      by_flight [] is a = ap (λ (t : Session). length t.far.flight) a ∙ ap length is ∙ ap (λ (f : List Message). length f - 1) (sym is)
      by_flight (m ∷ ms) is a = ap length a.taken ∙ one (length ms) ∙ ap (λ (f : List Message). length f - 1) (sym is)
        where
          one : (n : ℕ) → n ≡ suc n - 1
          one n = omega arith

  after_one : (from to : Name) (w : MachineState) → AreCalm w → in_flight (pass to (change_session to from arrived w)) from to ≡ in_flight w from to - 1
  after_one from to w c =
      elim (session_in w.sessions to from) as (λ o. session_in w.sessions to from ≡ o → in_flight (pass to (change_session to from arrived w)) from to ≡ flight_of o - 1) [
        | None ↦ λ is. ap flight_of (there ∙ ap (option_map (λ s. passed (W s) s)) (ap (option_map arrived) is)) ∙ none
        | Some s ↦ λ is.
            let c = calm_found w to from c s is in
            ap flight_of (there ∙ ap (option_map (λ s. passed (W s) s)) (ap (option_map arrived) is))
            ∙ passed_telling (λ t. waiting t ≡ waiting (arrived s)) (W (arrived s)) (arrived s) (calm_arrived s c) refl refl
            ∙ calm_waiting (arrived s) (calm_arrived s c)
            ∙ arrived_fewer s c
            ∙ ap (λ n. n - 1) (sym (calm_waiting s c))
      ] refl
    where
      W : Session → Map
      W s = wanted w.setup (views_of to (with_session to from arrived w.sessions)) (view s)

      there : session_in (pass to (change_session to from arrived w)).sessions to from ≡ option_map (λ s. passed (W s) s) (option_map arrived (session_in w.sessions to from))
      there = found_node to from (λ s. passed (W s) s) (λ s. passed_nodes (W s) s) (with_session to from arrived w.sessions) ∙ ap (option_map (λ s. passed (W s) s)) (found_changed to from arrived arrived_nodes w.sessions)

      none : 0 ≡ 0 - 1
      none = omega arith

  one_taken : (from to : Name) (w : MachineState) → AreCalm w → in_flight (deliver from to w) from to ≡ in_flight w from to - 1
  one_taken from to w c =
      elim (in_flight w from to == 0) as (λ b. (in_flight w from to == 0) ≡ b → in_flight (cond b w (pass to (change_session to from arrived w))) from to ≡ in_flight w from to - 1) [
        | true ↦ λ e. fewer (in_flight w from to) e
        | false ↦ λ _. after_one from to w c
      ] refl

  pub some_taken : (n : ℕ) (from to : Name) (w : MachineState) → AreCalm w → in_flight (repeat n (deliver from to) w) from to ≡ in_flight w from to - n
  some_taken zero from to w c = none (in_flight w from to)
    where
      none : (m : ℕ) → m ≡ m - 0
      none m = omega arith
  some_taken (suc n) from to w c = some_taken n from to (deliver from to w) (calm_deliver from to w c) ∙ ap (λ m. m - n) (one_taken from to w c) ∙ one (in_flight w from to)
    where
      one : (m : ℕ) → (m - 1) - n ≡ m - suc n
      one m = omega arith

  -- ---- and what of another direction
  abbrev Grows : Name → Name → Session → Session → Type 0
  Grows from to s t =
      ((same_name from s.far.name && same_name to s.near.name) ≡ false → length s.far.flight ≤ length t.far.flight)
      × ((same_name from s.near.name && same_name to s.far.name) ≡ false → length s.near.flight ≤ length t.near.flight)

  grows_both : (from to : Name) (s t : Session) → Grows from to s t → Grows from to (turned s) (turned t)
  grows_both from to s t g = (g.1, g.0)

  same_length : (n : ℕ) → n ≤ n
  same_length n = omega arith

  grows_same : (from to : Name) (s : Session) → Grows from to s s
  grows_same from to s = ((λ _. same_length (length s.far.flight)), (λ _. same_length (length s.near.flight)))

  replied_longer : (s : Session) → IsCalm s → length s.near.flight ≤ length (arrived s).near.flight
  replied_longer s c = by_flight s.far.flight (arrives size s c.0 c.1)
    where
      by_flight : (f : List Message) → ArrivalOf f s (arrived s) → length s.near.flight ≤ length (arrived s).near.flight
      by_flight [] a = subst (λ (t : Session). length s.near.flight ≤ length t.near.flight) (sym a) (same_length (length s.near.flight))
      by_flight (m ∷ ms) a = elim a.reply as (λ _. length s.near.flight ≤ length (arrived s).near.flight) [
        | inl e ↦ subst (λ (f : List Message). length s.near.flight ≤ length f) (sym e) (same_length (length s.near.flight))
        | inr q ↦ subst (λ (f : List Message). length s.near.flight ≤ length f) (sym q.1) (append_longer s.near.flight _)
      ]

  grows_arrived : (from to : Name) (s : Session) → joins to from s ≡ true → IsCalm s → Grows from to s (arrived s)
  grows_arrived from to s is c = (
    (λ off. absurd (true≢false (sym (swap_and (same_name s.near.name to) (same_name s.far.name from) true is) ∙ (λ i. same_name_sym s.far.name from i && same_name_sym s.near.name to i) ∙ off))),
    (λ _. replied_longer s c),
  )

  grows_passed : (from to : Name) (m : Map) (s : Session) → IsCalm s → Grows from to s (passed m s)
  grows_passed from to m s c = passed_telling (λ t. Grows from to s t) m s c (grows_same from to s) ((λ _. same_length (length s.far.flight)), (λ _. append_longer s.near.flight (map Carries (difference s.near.sent m))))

  flights_grow : (from to g t : Name) (v w : MachineState) → (same_name from g && same_name to t) ≡ false → AreCalm v → AreCalm w → Pairs (Grows from to) v.sessions w.sessions → in_flight v g t ≤ in_flight w g t
  flights_grow from to g t v w off c d p =
      grow (session_in v.sessions t g) (session_in w.sessions t g) (pairs_found (Grows from to) (grows_both from to) t g v.sessions w.sessions p) (calm_found v t g c) (calm_found w t g d)
    where
      grow : (o q : Option Session) → MaybeBoth (λ s u. (s.near.name ≡ t) × (s.far.name ≡ g) × Grows from to s u) o q → ((s : Session) → o ≡ Some s → IsCalm s) → ((s : Session) → q ≡ Some s → IsCalm s) → flight_of o ≤ flight_of q
      grow None None b c d = same_length 0
      grow (Some s) (Some u) b c d =
          longer (waiting s) (waiting u) (length s.far.flight) (length u.far.flight) (calm_waiting s (c s refl)) (calm_waiting u (d u refl))
          (b.2.0 ((λ i. same_name from (b.1 i) && same_name to (b.0 i)) ∙ off))
        where
          longer : (i j m n : ℕ) → i ≡ m → j ≡ n → m ≤ n → i ≤ j
          longer i j m n e f h = omega (arith, e, f, h)
      grow None (Some u) b c d = absurd b
      grow (Some s) None b c d = absurd b

  none_fewer : (from to g t : Name) (w : MachineState) → (same_name from g && same_name to t) ≡ false → AreCalm w → in_flight w g t ≤ in_flight (deliver from to w) g t
  none_fewer from to g t w off c =
      elim (in_flight w from to == 0) as (λ b. in_flight w g t ≤ in_flight (cond b w (pass to (change_session to from arrived w))) g t) [
        | true ↦ same_length (in_flight w g t)
        | false ↦
            let v = change_session to from arrived w in
            let W = λ (s : Session). wanted v.setup (views_of to v.sessions) (view s) in
            let d = calm_change to from w c in
            both (in_flight w g t) (in_flight v g t) (in_flight (pass to v) g t)
            (flights_grow from to g t w v off c d (pairs_session (Grows from to) (grows_both from to) (grows_same from to) IsCalm calm_turned arrived arrived_nodes to from (grows_arrived from to) w.sessions c))
            (flights_grow from to g t v (pass to v) off d (calm_pass to v d) (pairs_node (Grows from to) (grows_both from to) (grows_same from to) IsCalm calm_turned (λ s. passed (W s) s) (λ s. passed_nodes (W s) s) to (λ s. grows_passed from to (W s) s) v.sessions d))
      ]
    where
      both : (a b c : ℕ) → a ≤ b → b ≤ c → a ≤ c
      both a b c h k = omega (arith, h, k)

  some_fewer : (n : ℕ) (from to g t : Name) (w : MachineState) → (same_name from g && same_name to t) ≡ false → AreCalm w → in_flight w g t ≤ in_flight (repeat n (deliver from to) w) g t
  some_fewer zero from to g t w off c = same_length (in_flight w g t)
  some_fewer (suc n) from to g t w off c = both (in_flight w g t) (in_flight (deliver from to w) g t) (in_flight (repeat n (deliver from to) (deliver from to w)) g t) (none_fewer from to g t w off c) (some_fewer n from to g t (deliver from to w) off (calm_deliver from to w c))
    where
      both : (a b c : ℕ) → a ≤ b → b ≤ c → a ≤ c
      both a b c h k = omega (arith, h, k)

  -- ---- the round
  abbrev pub as_event : Due → MachineEvent
  as_event d = Deliver d.from d.to d.count

  -- what waits as a round begins, as events
  abbrev pub as_deliveries : MachineState → List MachineEvent
  as_deliveries w = map as_event (dues w)

  abbrev Has : Name → Name → ℕ → List Due → Type 0
  Has g t m [] = ⊥
  Has g t m (d ∷ ds) = ((d.from ≡ g) × (d.to ≡ t) × (m ≤ d.count)) ⊎ Has g t m ds

  has_less : (g t : Name) (m n : ℕ) (ds : List Due) → m ≤ n → Has g t n ds → Has g t m ds
  has_less g t m n [] h e = e
  has_less g t m n (d ∷ ds) h (inl p) = inl (p.0, p.1, less p.2)
    where
      less : n ≤ d.count → m ≤ d.count
      less k = omega (arith, h, k)
  has_less g t m n (d ∷ ds) h (inr e) = inr (has_less g t m n ds h e)

  takes_due : (g t : Name) (m : ℕ) (ds : List Due) (v : MachineState) → AreCalm v → m ≤ in_flight v g t → Has g t m ds → m ≤ taken_of size g t v (map as_event ds)
  unfolding next
  takes_due g t m [] v c h e = absurd e
  takes_due g t m (d ∷ ds) v c h e =
      let w = repeat d.count (deliver d.from d.to) v in
      let cw = calm_delivers d.count d.from d.to v c in
      elim (same_name d.from g && same_name d.to t) as (λ b. (same_name d.from g && same_name d.to t) ≡ b → m ≤ cond b (in_flight v g t - in_flight w g t) 0 + taken_of size g t w (map as_event ds)) [
        | true ↦ λ is.
            let names = and_parts (same_name d.from g) (same_name d.to t) is in
            let from_g : d.from ≡ g = (bytes_decides d.from g).0 names.0 in
            let to_t : d.to ≡ t = (bytes_decides d.to t).0 names.1 in
            let here : in_flight w g t ≡ in_flight v g t - d.count = (λ i. in_flight w (sym from_g i) (sym to_t i)) ∙ some_taken d.count d.from d.to v c ∙ (λ i. in_flight v (from_g i) (to_t i) - d.count) in
            elim e as (λ _. m ≤ (in_flight v g t - in_flight w g t) + taken_of size g t w (map as_event ds)) [
              | inl p ↦ first (in_flight v g t) (in_flight w g t) d.count (taken_of size g t w (map as_event ds)) h here p.2
              | inr q ↦ rest (in_flight v g t) (in_flight w g t) d.count (taken_of size g t w (map as_event ds)) h here
                  (takes_due g t (m - (in_flight v g t - in_flight w g t)) ds w cw (left (in_flight v g t) (in_flight w g t) d.count h here) (has_less g t (m - (in_flight v g t - in_flight w g t)) m ds (below (in_flight v g t - in_flight w g t)) q))
            ]
        | false ↦ λ off. elim e as (λ _. m ≤ 0 + taken_of size g t w (map as_event ds)) [
          | inl p ↦ absurd (true≢false (sym (and_from (same_name d.from g) (same_name d.to t) ((bytes_decides d.from g).1 p.0) ((bytes_decides d.to t).1 p.1)) ∙ off))
          | inr q ↦ later (taken_of size g t w (map as_event ds)) (takes_due g t m ds w cw (grown (in_flight v g t) (in_flight w g t) h (some_fewer d.count d.from d.to g t v off c)) q)
        ]
      ] refl
    where
      first : (i j k n : ℕ) → m ≤ i → j ≡ i - k → m ≤ k → m ≤ (i - j) + n
      first i j k n a b c = omega (arith, a, b, c)

      rest : (i j k n : ℕ) → m ≤ i → j ≡ i - k → m - (i - j) ≤ n → m ≤ (i - j) + n
      rest i j k n a b c = omega (arith, a, b, c)

      left : (i j k : ℕ) → m ≤ i → j ≡ i - k → m - (i - j) ≤ j
      left i j k a b = omega (arith, a, b)

      below : (k : ℕ) → m - k ≤ m
      below k = omega arith

      later : (n : ℕ) → m ≤ n → m ≤ 0 + n
      later n a = omega (arith, a)

      grown : (i j : ℕ) → m ≤ i → i ≤ j → m ≤ j
      grown i j a b = omega (arith, a, b)

  dues_have : (g t : Name) (ss : List Session) (s : Session) → session_in ss t g ≡ Some s → Has g t (waiting s) (flat_map (λ s. due_at (turned s) ∷ due_at s ∷ []) ss)
  dues_have g t [] s is = cc
  dues_have g t (u ∷ ss) s is =
      elim (joins t g u) as (λ c. joins t g u ≡ c → cond c (Some u) (cond (joins g t u) (Some (turned u)) (session_in ss t g)) ≡ Some s → Has g t (waiting s) (flat_map (λ s. due_at (turned s) ∷ due_at s ∷ []) (u ∷ ss))) [
        | true ↦ λ at is.
            let p = and_parts (is_at t u.near) (is_at g u.far) at in
            inr (inl ((bytes_decides u.far.name g).0 p.1, (bytes_decides u.near.name t).0 p.0, same (waiting s) (waiting u) (ap waiting (same_Some u s is))))
        | false ↦ λ _. elim (joins g t u) as (λ c. joins g t u ≡ c → cond c (Some (turned u)) (session_in ss t g) ≡ Some s → Has g t (waiting s) (flat_map (λ s. due_at (turned s) ∷ due_at s ∷ []) (u ∷ ss))) [
          | true ↦ λ at is.
              let p = and_parts (is_at g u.near) (is_at t u.far) at in
              inl ((bytes_decides u.near.name g).0 p.0, (bytes_decides u.far.name t).0 p.1, same (waiting s) (waiting (turned u)) (ap waiting (same_Some (turned u) s is)))
          | false ↦ λ _ is. inr (inr (dues_have g t ss s is))
        ] refl
      ] refl is
    where
      same : (i j : ℕ) → j ≡ i → i ≤ j
      same i j e = omega (arith, e)

  all_deliveries : (ds : List Due) → list_all is_delivery (map as_event ds) ≡ true
  all_deliveries [] = refl
  all_deliveries (d ∷ ds) = all_deliveries ds

  -- what waits as a round begins is a round of deliveries
  pub as_round : (w : MachineState) → AreCalm w → IsRound size w (as_deliveries w)
  as_round w c = record { deliveries = all_deliveries (dues w); takes_all = takes_all }
    where
      takes_all : (from to : Name) → in_flight w from to ≤ taken_of size from to w (as_deliveries w)
      takes_all from to =
          elim (session_in w.sessions to from) as (λ o. session_in w.sessions to from ≡ o → flight_of o ≤ taken_of size from to w (as_deliveries w)) [
            | None ↦ λ _. nothing (taken_of size from to w (as_deliveries w))
            | Some s ↦ λ is. takes_due from to (waiting s) (dues w) w c (same (waiting s) (in_flight w from to) (ap flight_of is)) (dues_have from to w.sessions s is)
          ] refl
        where
          nothing : (n : ℕ) → 0 ≤ n
          nothing n = omega arith

          same : (i j : ℕ) → j ≡ i → i ≤ j
          same i j e = omega (arith, e)

  -- and the event `round` makes these deliveries
  no_notices : (ss : List Session) → Each IsCalm ss → AllByRecursion (λ d. d.is_notice ≡ false) (flat_map (λ s. due_at (turned s) ∷ due_at s ∷ []) ss)
  no_notices [] c = tt
  no_notices (s ∷ ss) c = (c.0.0.far_notice, (c.0.0.near_notice, no_notices ss c.1))

  no_notice : (d : Due) (w : MachineState) → AreCalm w → notice_stands w d ≡ false
  no_notice d w c =
      elim (session_in w.sessions d.to d.from) as (λ o. session_in w.sessions d.to d.from ≡ o → unwrap_or (option_map (λ (s : Session). s.near.notice) o) false ≡ false) [
        | None ↦ λ _. refl
        | Some s ↦ λ is. (calm_found w d.to d.from c s is).0.near_notice
      ] refl

  same_delivery : (d : Due) (w : MachineState) → d.is_notice ≡ false → AreCalm w → deliver_due d w ≡ deliver d.from d.to w
  same_delivery d w e c = (λ i. cond (beq (no_notice d w c i) (e i)) (deliver d.from d.to w) w)

  same_deliveries : (n : ℕ) (d : Due) (w : MachineState) → d.is_notice ≡ false → AreCalm w → repeat n (deliver_due d) w ≡ repeat n (deliver d.from d.to) w
  same_deliveries zero d w e c = refl
  same_deliveries (suc n) d w e c = ap (repeat n (deliver_due d)) (same_delivery d w e c) ∙ same_deliveries n d (deliver d.from d.to w) e (calm_deliver d.from d.to w c)

  all_same : (ds : List Due) (w : MachineState) → AllByRecursion (λ d. d.is_notice ≡ false) ds → AreCalm w → deliver_all ds w ≡ after size w (map as_event ds)
  unfolding next
  all_same [] w e c = refl
  all_same (d ∷ ds) w e c =
      ap (deliver_all ds) (same_deliveries d.count d w e.0 c) ∙ all_same ds (repeat d.count (deliver d.from d.to) w) e.1 (calm_delivers d.count d.from d.to w c)

  pub round_same : (w : MachineState) → AreCalm w → round w ≡ after size w (as_deliveries w)
  unfolding round
  round_same w c = all_same (dues w) w (no_notices w.sessions c) c
