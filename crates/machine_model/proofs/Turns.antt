-- The event `Round` takes each direction in its turn.
use Rattle.std.specs.Prelude.{◌≡◌, ◌≢◌, ℕ, zero, suc, ◌+◌, ◌-◌, ◌<◌, ◌≤◌, List, [], ◌∷◌, map, length, Bool, true, false, cond, ◌&&◌, ◌==◌}
use mathlib.Core.Bool.{beq}
use Rattle.std.specs.declared.option.Option.{Option}
use Rattle.std.specs.declared.option.Option.TheVariants.{Some, None}
use Rattle.std.specs.Option.{unwrap_or, option_map}
use Rattle.std.specs.List.{AllByRecursion, flat_map}
use Rattle.std.specs.Cmp.Lexicographic.{bytes_decides}
use Rattle.std.proofs.lemmas.Bool.{true≢false, and_parts}
use Rattle.std.proofs.Common.{refl, sym, ◌∙◌, ap, subst, inl, inr, arith}
use Rattle.ov_types.specs.First.{same_name}
use Rattle.transform_model.specs.NodeModel.Maps.{Map, difference}
use Rattle.transform_model.specs.NodeModel.Step.{Phase, Idle, Opened, Confirmed, Up}
use Rattle.machine_model.specs.Setup.{Name, checked}
use Rattle.machine_model.specs.Session.{Message, Open, Keepalive, Hello, Carries, Session, turned, closed, is_peering, may_send, told, passed, with_phase, peer_took, item_took, took, without_first, took_first, arrived, waiting}
use Rattle.machine_model.specs.Network.{MachineState, start, is_at, view, views_of, wanted}
use Rattle.machine_model.specs.Steps.{joins, with_session, change_session, pass, session_in, in_flight, repeat, deliver, Due, due_at, dues, notice_stands, deliver_due, deliver_all, round}
use Rattle.machine_model.specs.Events.{Deliver, next, after}
use Rattle.machine_model.specs.Rounds.{is_unbroken, is_whole, taken_of, AreTurns, IsTakenInTurns, IsOfDeliveries}
use Rattle.machine_model.specs.Moments.{NodePair, nodes, AtEveryMoment, WhereLaidOut}
use Rattle.machine_model.proofs.SessionFact.{sends, told_cases}
use Rattle.machine_model.proofs.NetworkFact.{passed_nodes, after_sound}
use Rattle.machine_model.proofs.Start.{start_sound}
use Rattle.machine_model.proofs.Apart.{no_twins}
use Rattle.machine_model.proofs.CalmOf.{calm_of}
use Rattle.machine_model.proofs.NodesFact.{arrived_nodes}
use Rattle.machine_model.proofs.Asking.{sessions_are_asked}
use Rattle.machine_model.proofs.Twins.{IsOther, NoTwins, swap_and, found_each, found_changed, found_node}
use Rattle.machine_model.proofs.RoundFact.{AreCalm, as_event, as_deliveries, as_round, round_same, some_taken, calm_delivers}

-- ---- no notice comes to the end that takes
told_silent : (ms : List Message) (s : Session) → s.near.notice ≡ false → (told ms s).near.notice ≡ false
told_silent ms s e =
    elim (told_cases ms s) as (λ _. (told ms s).near.notice ≡ false) [
      | inl p ↦ ap (λ (t : Session). t.near.notice) p.1
      | inr p ↦ ap (λ (t : Session). t.near.notice) p.1 ∙ elim s.is_down as (λ d. (sends ms (record { is_down = d; near = s.near; far = s.far })).near.notice ≡ false) [ true ↦ e | false ↦ e ]
    ]

peer_took_silent : (p : Phase) (m : Message) (s : Session) → s.near.notice ≡ false → (peer_took p m s).near.notice ≡ false
peer_took_silent Idle m s e = e
peer_took_silent Opened Open s e = told_silent (Keepalive ∷ []) (with_phase Confirmed s) e
peer_took_silent Confirmed Keepalive s e = e
peer_took_silent Up Keepalive s e = e
peer_took_silent Up (Carries d) s e = e
peer_took_silent _ _ s e = refl

item_took_silent : (p : Phase) (m : Message) (s : Session) → s.near.notice ≡ false → (item_took p m s).near.notice ≡ false
item_took_silent Idle m s e = e
item_took_silent Opened Hello s e = e
item_took_silent Up (Carries d) s e = e
item_took_silent _ _ s e = refl

took_silent : (m : Message) (s : Session) → s.near.notice ≡ false → (took m s).near.notice ≡ false
took_silent m s e =
    elim (is_peering s) as (λ b. (cond b (peer_took s.near.phase m s) (item_took s.near.phase m s)).near.notice ≡ false) [ true ↦ peer_took_silent s.near.phase m s e | false ↦ item_took_silent s.near.phase m s e ]

first_silent : (f : List Message) (s : Session) → s.near.notice ≡ false → (took_first f s).near.notice ≡ false
first_silent [] s e = e
first_silent (m ∷ ms) s e = took_silent m (without_first ms s) e

arrived_silent : (s : Session) → s.near.notice ≡ false → (arrived s).near.notice ≡ false
unfolding arrived
arrived_silent s e =
    elim s.near.notice as (λ b. (cond b (record s { near = closed s.near }) (took_first s.far.flight s)).near.notice ≡ false) [ true ↦ refl | false ↦ first_silent s.far.flight s e ]

passed_silent : (m : Map) (s : Session) → s.near.notice ≡ false → (passed m s).near.notice ≡ false
unfolding passed
passed_silent m s e =
    elim (may_send s) as (λ b. (cond b (told (map Carries (difference s.near.sent m)) (record s { near = record s.near { sent = m } })) s).near.notice ≡ false) [
      | true ↦ told_silent (map Carries (difference s.near.sent m)) (record s { near = record s.near { sent = m } }) e
      | false ↦ e
    ]

abbrev pub notice_of : Option Session → Bool
notice_of o = unwrap_or (option_map (λ (s : Session). s.near.notice) o) false

stays_silent : (f : Session → Session) → ((s : Session) → s.near.notice ≡ false → (f s).near.notice ≡ false) → (o : Option Session) → notice_of o ≡ false → notice_of (option_map f o) ≡ false
stays_silent f h None e = refl
stays_silent f h (Some s) e = h s e

-- a delivery leaves no notice where none stood
delivered_silent : (d : Due) (w : MachineState) → notice_stands w d ≡ false → notice_stands (deliver d.from d.to w) d ≡ false
delivered_silent d w e =
    elim (in_flight w d.from d.to == 0) as (λ b. notice_stands (cond b w (pass d.to (change_session d.to d.from arrived w))) d ≡ false) [
      | true ↦ e
      | false ↦
          let vs = with_session d.to d.from arrived w.sessions in
          let g = λ (s : Session). passed (wanted w.setup (views_of d.to vs) (view s)) s in
          let there = found_node d.to d.from g (λ s. passed_nodes (wanted w.setup (views_of d.to vs) (view s)) s) vs ∙ ap (option_map g) (found_changed d.to d.from arrived arrived_nodes w.sessions) in
          ap notice_of there ∙ stays_silent g (λ s h. passed_silent (wanted w.setup (views_of d.to vs) (view s)) s h) (option_map arrived (session_in w.sessions d.to d.from))
          (stays_silent arrived arrived_silent (session_in w.sessions d.to d.from) e)
    ]

-- ---- a turn
beq_same : (a b : Bool) → a ≡ b → beq a b ≡ true
beq_same true b e = ap (beq true) (sym e)
beq_same false b e = ap (beq false) (sym e)

beq_other : (a b : Bool) → a ≢ b → beq a b ≡ false
beq_other true true n = absurd (n refl)
beq_other true false n = refl
beq_other false true n = refl
beq_other false false n = absurd (n refl)

due_same : (d : Due) (w : MachineState) → notice_stands w d ≡ d.is_notice → deliver_due d w ≡ deliver d.from d.to w
due_same d w e = ap (λ b. cond b (deliver d.from d.to w) w) (beq_same (notice_stands w d) d.is_notice e)

due_other : (d : Due) (w : MachineState) → notice_stands w d ≢ d.is_notice → deliver_due d w ≡ w
due_other d w n = ap (λ b. cond b (deliver d.from d.to w) w) (beq_other (notice_stands w d) d.is_notice n)

-- a notice counts as one
abbrev CountsOne : Due → Type 0
CountsOne d = d.is_notice ≡ true → d.count ≡ 1

messages_same : (n : ℕ) (d : Due) (w : MachineState) → d.is_notice ≡ false → notice_stands w d ≡ false → repeat n (deliver_due d) w ≡ repeat n (deliver d.from d.to) w
messages_same zero d w e s = refl
messages_same (suc n) d w e s =
    ap (repeat n (deliver_due d)) (due_same d w (s ∙ sym e)) ∙ messages_same n d (deliver d.from d.to w) e (delivered_silent d w s)

turn_same : (d : Due) (w : MachineState) → CountsOne d → notice_stands w d ≡ d.is_notice → repeat d.count (deliver_due d) w ≡ repeat d.count (deliver d.from d.to) w
turn_same d w one e =
    elim d.is_notice as (λ b. d.is_notice ≡ b → repeat d.count (deliver_due d) w ≡ repeat d.count (deliver d.from d.to) w) [
      | true ↦ λ is. subst (λ n. repeat n (deliver_due d) w ≡ repeat n (deliver d.from d.to) w) (sym (one is)) (due_same d w e)
      | false ↦ λ is. messages_same d.count d w is (e ∙ is)
    ] refl

turn_other : (n : ℕ) (d : Due) (w : MachineState) → notice_stands w d ≢ d.is_notice → repeat n (deliver_due d) w ≡ w
turn_other zero d w h = refl
turn_other (suc n) d w h = ap (repeat n (deliver_due d)) (due_other d w h) ∙ turn_other n d w h

due_counts : (s : Session) → CountsOne (due_at s)
due_counts s e = ap (λ b. cond b 1 (length s.far.flight)) e

all_count : (ss : List Session) → AllByRecursion CountsOne (flat_map (λ s. due_at (turned s) ∷ due_at s ∷ []) ss)
all_count [] = tt
all_count (s ∷ ss) = (due_counts (turned s), (due_counts s, all_count ss))

module _ (size : Name → Message → ℕ) where
  in_turns : (ds : List Due) (w : MachineState) → AllByRecursion CountsOne ds → AreTurns size ds w (deliver_all ds w)
  unfolding next
  in_turns [] w c = refl
  in_turns (d ∷ ds) w c = (repeat d.count (deliver_due d) w, (turn_same d w c.0, turn_other d.count d w), in_turns ds (repeat d.count (deliver_due d) w) c.1)

  abbrev flight_of : Option Session → ℕ
  flight_of o = unwrap_or (option_map waiting o) 0

  counts_of : (w : MachineState) (ss : List Session) → AllByRecursion (λ s. (session_in w.sessions s.near.name s.far.name ≡ Some s) × (session_in w.sessions s.far.name s.near.name ≡ Some (turned s))) ss
      → AllByRecursion (λ d. d.count ≡ in_flight w d.from d.to) (flat_map (λ s. due_at (turned s) ∷ due_at s ∷ []) ss)
  counts_of w [] f = tt
  counts_of w (s ∷ ss) f = (sym (ap flight_of f.0.1), (sym (ap flight_of f.0.0), counts_of w ss f.1))

  pub taken_in_turns : (w : MachineState) → NoTwins (map nodes w.sessions) → IsTakenInTurns size w
  unfolding next round
  taken_in_turns w t = record { turns = in_turns (dues w) w (all_count w.sessions); counts = counts_of w w.sessions (found_each w.sessions t) }

-- ---- exactly what was in flight
module _ (g t : Name) where
  abbrev matches : Due → Bool
  matches d = same_name d.from g && same_name d.to t

  -- how many are due in a direction
  abbrev due_count : List Due → ℕ
  due_count [] = 0
  due_count (d ∷ ds) = cond (matches d) d.count 0 + due_count ds

  abbrev dues_of : List Session → List Due
  dues_of ss = flat_map (λ s. due_at (turned s) ∷ due_at s ∷ []) ss

  off_in : (s : Session) → joins t g s ≡ false → matches (due_at s) ≡ false
  off_in s e = swap_and (is_at t s.near) (is_at g s.far) false e

  off_back : (s : Session) → joins g t s ≡ false → matches (due_at (turned s)) ≡ false
  off_back s e = e

  nothing : (a b : Bool) (m n k : ℕ) → a ≡ false → b ≡ false → cond a m 0 + (cond b n 0 + k) ≡ k
  nothing true b m n k e f = absurd (true≢false e)
  nothing false true m n k e f = absurd (true≢false f)
  nothing false false m n k e f = omega arith

  none_more : (ss : List Session) → AllByRecursion (λ (p : NodePair). ((same_name p.0.0 t && same_name p.1.0 g) ≡ false) × ((same_name p.0.0 g && same_name p.1.0 t) ≡ false)) (map nodes ss) → due_count (dues_of ss) ≡ 0
  none_more [] o = refl
  none_more (s ∷ ss) o = nothing (matches (due_at (turned s))) (matches (due_at s)) (waiting (turned s)) (waiting s) (due_count (dues_of ss)) (off_back s o.0.1) (off_in s o.0.0) ∙ none_more ss o.1

  others : (p : NodePair) (ps : List NodePair) → p.0.0 ≡ t → p.1.0 ≡ g → AllByRecursion (IsOther p) ps → AllByRecursion (λ (q : NodePair). ((same_name q.0.0 t && same_name q.1.0 g) ≡ false) × ((same_name q.0.0 g && same_name q.1.0 t) ≡ false)) ps
  others p [] e f o = tt
  others p (q ∷ ps) e f o = (((λ i. same_name q.0.0 (sym e i) && same_name q.1.0 (sym f i)) ∙ o.0.0, (λ i. same_name q.0.0 (sym f i) && same_name q.1.0 (sym e i)) ∙ o.0.1), others p ps e f o.1)

  others_back : (p : NodePair) (ps : List NodePair) → p.0.0 ≡ g → p.1.0 ≡ t → AllByRecursion (IsOther p) ps → AllByRecursion (λ (q : NodePair). ((same_name q.0.0 t && same_name q.1.0 g) ≡ false) × ((same_name q.0.0 g && same_name q.1.0 t) ≡ false)) ps
  others_back p [] e f o = tt
  others_back p (q ∷ ps) e f o = (((λ i. same_name q.0.0 (sym f i) && same_name q.1.0 (sym e i)) ∙ o.0.1, (λ i. same_name q.0.0 (sym e i) && same_name q.1.0 (sym f i)) ∙ o.0.0), others_back p ps e f o.1)

  second : (a b : Bool) (m n k : ℕ) → a ≡ false → b ≡ true → k ≡ 0 → cond a m 0 + (cond b n 0 + k) ≡ n
  second true b m n k e f z = absurd (true≢false e)
  second false true m n k e f z = omega (arith, z)
  second false false m n k e f z = absurd (true≢false (sym f))

  first : (a b : Bool) (m n k : ℕ) → a ≡ true → b ≡ false → k ≡ 0 → cond a m 0 + (cond b n 0 + k) ≡ m
  first true true m n k e f z = absurd (true≢false f)
  first true false m n k e f z = omega (arith, z)
  first false b m n k e f z = absurd (true≢false (sym e))

  due_is : (ss : List Session) → NoTwins (map nodes ss) → due_count (dues_of ss) ≡ unwrap_or (option_map waiting (session_in ss t g)) 0
  due_is [] h = refl
  due_is (s ∷ ss) h =
      elim (joins t g s) as (λ c. joins t g s ≡ c → due_count (dues_of (s ∷ ss)) ≡ unwrap_or (option_map waiting (cond c (Some s) (cond (joins g t s) (Some (turned s)) (session_in ss t g)))) 0) [
        | true ↦ λ is.
            let p = and_parts (is_at t s.near) (is_at g s.far) is in
            let near : s.near.name ≡ t = (bytes_decides s.near.name t).0 p.0 in
            let far : s.far.name ≡ g = (bytes_decides s.far.name g).0 p.1 in
            second (matches (due_at (turned s))) (matches (due_at s)) (waiting (turned s)) (waiting s) (due_count (dues_of ss))
            (off_back s (ap (λ (a : Name). same_name s.near.name a && same_name s.far.name t) (sym far) ∙ ap (λ (b : Bool). b && same_name s.far.name t) h.0.0))
            (swap_and (is_at t s.near) (is_at g s.far) true is)
            (none_more ss (others (nodes s) (map nodes ss) near far h.1))
        | false ↦ λ off. elim (joins g t s) as (λ c. joins g t s ≡ c → due_count (dues_of (s ∷ ss)) ≡ unwrap_or (option_map waiting (cond c (Some (turned s)) (session_in ss t g))) 0) [
          | true ↦ λ is.
              let p = and_parts (is_at g s.near) (is_at t s.far) is in
              first (matches (due_at (turned s))) (matches (due_at s)) (waiting (turned s)) (waiting s) (due_count (dues_of ss))
              is (off_in s off) (none_more ss (others_back (nodes s) (map nodes ss) ((bytes_decides s.near.name g).0 p.0) ((bytes_decides s.far.name t).0 p.1) h.1))
          | false ↦ λ off'. nothing (matches (due_at (turned s))) (matches (due_at s)) (waiting (turned s)) (waiting s) (due_count (dues_of ss)) (off_back s off') (off_in s off) ∙ due_is ss h.2
        ] refl
      ] refl

  module _ (size : Name → Message → ℕ) (positive : (n : Name) (m : Message) → 0 < size n m) where
    no_more : (ds : List Due) (v : MachineState) → AreCalm size positive v → taken_of size g t v (map (as_event size positive) ds) ≤ due_count ds
    unfolding next
    no_more [] v c = omega arith
    no_more (d ∷ ds) v c =
        let w = repeat d.count (deliver d.from d.to) v in
        elim (matches d) as (λ b. matches d ≡ b → cond b (in_flight v g t - in_flight w g t) 0 + taken_of size g t w (map (as_event size positive) ds) ≤ cond b d.count 0 + due_count ds) [
          | true ↦ λ is.
              let names = and_parts (same_name d.from g) (same_name d.to t) is in
              let from_g : d.from ≡ g = (bytes_decides d.from g).0 names.0 in
              let to_t : d.to ≡ t = (bytes_decides d.to t).0 names.1 in
              let here : in_flight w g t ≡ in_flight v g t - d.count = (λ i. in_flight w (sym from_g i) (sym to_t i)) ∙ some_taken size positive d.count d.from d.to v c ∙ (λ i. in_flight v (from_g i) (to_t i) - d.count) in
              most (in_flight v g t) (in_flight w g t) d.count (taken_of size g t w (map (as_event size positive) ds)) (due_count ds) here (no_more ds w (calm_delivers size positive d.count d.from d.to v c))
          | false ↦ λ _. least (taken_of size g t w (map (as_event size positive) ds)) (due_count ds) (no_more ds w (calm_delivers size positive d.count d.from d.to v c))
        ] refl
      where
        least : (m n : ℕ) → m ≤ n → 0 + m ≤ 0 + n
        least m n h = omega (arith, h)

        most : (i j k m n : ℕ) → j ≡ i - k → m ≤ n → (i - j) + m ≤ k + n
        most i j k m n e h = omega (arith, e, h)

pub of_deliveries : (size : Name → Message → ℕ) (positive : (n : Name) (m : Message) → 0 < size n m) (w : MachineState) → NoTwins (map nodes w.sessions) → AreCalm size positive w → IsOfDeliveries size w
unfolding next
of_deliveries size positive w h c =
    let a = as_round size positive w c in
    record {
      deliveries = as_deliveries size positive w;
      same = round_same size positive w c;
      is_round = a;
      exactly = λ from to. both (taken_of size from to w (as_deliveries size positive w)) (due_count from to (dues w)) (in_flight w from to) (no_more from to size positive (dues w) w c) (due_is from to w.sessions h) (a.takes_all from to);
    }
  where
    both : (i j k : ℕ) → i ≤ j → j ≡ k → k ≤ i → i ≡ k
    both i j k a e b = omega (arith, a, e, b)

-- ---- at each moment
pub laid_apart : WhereLaidOut (λ size w. NoTwins (map nodes w.sessions))
laid_apart size positive x l es v =
    let now = after size (start x) es in
    let q = sessions_are_asked size positive x l es v in
    subst NoTwins (sym q.1) (no_twins (checked now.setup) q.0.apart)

pub rounds_take_turns : WhereLaidOut (λ size w. IsTakenInTurns size w)
rounds_take_turns size positive x l es v = taken_in_turns size (after size (start x) es) (laid_apart size positive x l es v)

pub rounds_are_of_deliveries : WhereLaidOut (λ size w. is_whole w ≡ true → is_unbroken w ≡ true → IsOfDeliveries size w)
rounds_are_of_deliveries size positive x l es v whole unbroken =
    let now = after size (start x) es in
    of_deliveries size positive now (laid_apart size positive x l es v) (calm_of size positive now.sessions (after_sound size positive (start x) es (start_sound size positive x)) whole unbroken)

pub deliveries_take : AtEveryMoment (λ size w. is_whole w ≡ true → is_unbroken w ≡ true → (from to : Name) (n : ℕ) → in_flight (next size w (Deliver from to n)) from to ≡ in_flight w from to - n)
unfolding next
deliveries_take size positive x es whole unbroken from to n =
    let now = after size (start x) es in
    some_taken size positive n from to now (calm_of size positive now.sessions (after_sound size positive (start x) es (start_sound size positive x)) whole unbroken)
