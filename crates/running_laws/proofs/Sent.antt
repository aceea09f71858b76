-- What sends make of the machine's session where some of them are to fail, as the links of a node have it, and the steps
-- of a session as sends after a change of its near end.
use Rattle.std.specs.Prelude.{◌≡◌, ℕ, List, [], ◌∷◌, ◌++◌, map, Bool, true, false, cond}
use Rattle.std.specs.declared.option.Option.TheVariants.{Some}
use Rattle.std.proofs.lemmas.Bool.{true≢false}
use Rattle.std.proofs.lemmas.Option.{none-some, same_Some}
use Rattle.std.proofs.Common.{refl, sym, ◌∙◌, ap, subst}
use Rattle.ov_link.specs.Breaks.{counted, is_break}
use Rattle.node_model.specs.Maps.{Map, difference}
use Rattle.node_model.specs.Step.{Phase, Idle, Opened, Confirmed, Up}
use Rattle.machine_laws.specs.MachineModel.Session.{Message, Open, Keepalive, Hello, Carries, SessionEnd, Session, closed, is_idle, is_peering}
use Rattle.machine_laws.specs.MachineModel.Session.{arrived, greeting, item_took, left, may_send, may_send_at, opened, passed, peer_took, shut}
use Rattle.machine_laws.specs.MachineModel.Session.{told, took, took_first, with_breaks, without_first}
use Rattle.machine_laws.specs.MachineModel.Moments.{cell}
use Rattle.machine_laws.proofs.MachineModel.SessionFact.{append_nil, sends, sends_left}
use Rattle.running_nodes.specs.Steps.{Sending, behind, sending}
use Rattle.running_nodes.specs.Taking.{replies_to, held_after}

-- ---- sends in turn
abbrev stopped : List ℕ → Sending
stopped b = record { accepted = []; failed = true; breaks = counted b }

-- where none fails, all leave
pub sending_all : (b : List ℕ) (xs : List (List ℕ)) → (sending b xs).failed ≡ false → (sending b xs).accepted ≡ xs
sending_all b [] e = refl
sending_all b (x ∷ xs) e = by_test (sending_all (counted b) xs) (is_break b 1) e
  where
    by_test : ((sending (counted b) xs).failed ≡ false → (sending (counted b) xs).accepted ≡ xs)
        → (t : Bool) → (cond t (stopped b) (behind x (sending (counted b) xs))).failed ≡ false
        → (cond t (stopped b) (behind x (sending (counted b) xs))).accepted ≡ x ∷ xs
    by_test rest true e = absurd (true≢false e)
    by_test rest false e = ap (λ ys. x ∷ ys) (rest e)

-- what is sent after others, where one of those failed
pub sends_stop : (b : List ℕ) (xs ys : List (List ℕ)) → (sending b xs).failed ≡ true
    → sending b (xs ++ ys) ≡ sending b xs
sends_stop b [] ys e = absurd (true≢false (sym e))
sends_stop b (x ∷ xs) ys e = by_test (sends_stop (counted b) xs ys) (is_break b 1) e
  where
    by_test : ((sending (counted b) xs).failed ≡ true → sending (counted b) (xs ++ ys) ≡ sending (counted b) xs)
        → (t : Bool) → (cond t (stopped b) (behind x (sending (counted b) xs))).failed ≡ true
        → cond t (stopped b) (behind x (sending (counted b) (xs ++ ys)))
        ≡ cond t (stopped b) (behind x (sending (counted b) xs))
    by_test rest true e = refl
    by_test rest false e = ap (behind x) (rest e)

-- and where none of those did
abbrev pub onward : List (List ℕ) → Sending → Sending
onward xs s = record { accepted = xs ++ s.accepted; failed = s.failed; breaks = s.breaks }

pub sends_go_on : (b : List ℕ) (xs ys : List (List ℕ)) → (sending b xs).failed ≡ false
    → sending b (xs ++ ys) ≡ onward xs (sending (sending b xs).breaks ys)
sends_go_on b [] ys e = refl
sends_go_on b (x ∷ xs) ys e = by_test (sends_go_on (counted b) xs ys) (is_break b 1) e
  where
    by_test : ((sending (counted b) xs).failed ≡ false
        → sending (counted b) (xs ++ ys) ≡ onward xs (sending (sending (counted b) xs).breaks ys))
        → (t : Bool) → (cond t (stopped b) (behind x (sending (counted b) xs))).failed ≡ false
        → cond t (stopped b) (behind x (sending (counted b) (xs ++ ys)))
        ≡ onward (x ∷ xs) (sending (cond t (stopped b) (behind x (sending (counted b) xs))).breaks ys)
    by_test rest true e = absurd (true≢false e)
    by_test rest false e = ap (behind x) (rest e)

-- ---- messages of the machine's session
-- where one fails the end is shut, and else all are in flight, but for a session that is down
abbrev pub as_sent : Sending → List Message → Session → Session
as_sent r ms s = cond r.failed (shut (with_breaks r.breaks s)) (with_breaks r.breaks (sends ms s))

nothing_sent : (d : Bool) (near far : SessionEnd) (b : List ℕ) → near.breaks ≡ b
    → ◌≡◌ {A = Session} (record { is_down = d; near = near; far = far })
    (with_breaks b (sends [] (record { is_down = d; near = near; far = far })))
nothing_sent true near far b e = λ i. record { is_down = true; near = record near { breaks = e i }; far = far }
nothing_sent false near far b e =
    λ i. record { is_down = false; near = record near { flight = append_nil near.flight i; breaks = e i }; far = far }

shut_left : (d : Bool) (near far : SessionEnd) (m : Message) (b c : List ℕ)
    → shut (with_breaks b (left m (with_breaks c (record { is_down = d; near = near; far = far }))))
    ≡ shut (with_breaks b (record { is_down = d; near = near; far = far }))
shut_left true near far m b c = refl
shut_left false near far m b c = refl

left_breaks : (d : Bool) (near far : SessionEnd) (m : Message) (c : List ℕ)
    → (left m (with_breaks c (record { is_down = d; near = near; far = far }))).near.breaks ≡ c
left_breaks true near far m c = refl
left_breaks false near far m c = refl

one_more : (o : List ℕ) (m : Message) (ms : List Message) (s : Session) (c : List ℕ) (r : Sending)
    → as_sent r ms (left m (with_breaks c s)) ≡ as_sent (behind o r) (m ∷ ms) s
one_more o m ms s c r =
    elim r.failed as (λ f.
    cond f (shut (with_breaks r.breaks (left m (with_breaks c s)))) (with_breaks r.breaks (sends ms (left m (with_breaks c s))))
    ≡ cond f (shut (with_breaks r.breaks s)) (with_breaks r.breaks (sends (m ∷ ms) s))) [
      | true ↦ shut_left s.is_down s.near s.far m r.breaks c
      | false ↦ sends_left s.is_down s.near s.far m ms r.breaks c
    ]

pub told_as_sent : (g : Message → List ℕ) (ms : List Message) (s : Session) (b : List ℕ) → s.near.breaks ≡ b
    → told ms s ≡ as_sent (sending b (map g ms)) ms s
unfolding told
told_as_sent g [] s b e = nothing_sent s.is_down s.near s.far b e
told_as_sent g (m ∷ ms) s b e =
    ap (λ (c : List ℕ). cond (is_break c 1) (shut (with_breaks (counted c) s)) (told ms (left m (with_breaks (counted c) s)))) e
    ∙ by_test (is_break b 1)
    (told_as_sent g ms (left m (with_breaks (counted b) s)) (counted b) (left_breaks s.is_down s.near s.far m (counted b)))
  where
    by_test : (t : Bool)
        → told ms (left m (with_breaks (counted b) s)) ≡ as_sent (sending (counted b) (map g ms)) ms (left m (with_breaks (counted b) s))
        → cond t (shut (with_breaks (counted b) s)) (told ms (left m (with_breaks (counted b) s)))
        ≡ as_sent (cond t (stopped b) (behind (g m) (sending (counted b) (map g ms)))) (m ∷ ms) s
    by_test true rest = refl
    by_test false rest = rest ∙ one_more (g m) m ms s (counted b) (sending (counted b) (map g ms))

pub told_none : (s : Session) → told [] s ≡ s
unfolding told
told_none s = refl

-- what stays, and what is in flight then
pub record AllLeft (b : List ℕ) (ms : List Message) (s t : Session) : Type 0 where
  pub down : t.is_down ≡ s.is_down
  pub far : t.far ≡ s.far
  pub role : t.near.role ≡ s.near.role
  pub phase : t.near.phase ≡ s.near.phase
  pub notice : t.near.notice ≡ s.near.notice
  pub sent : t.near.sent ≡ s.near.sent
  pub held : t.near.held ≡ s.near.held
  pub taken : t.near.taken ≡ s.near.taken
  pub flight : t.near.flight ≡ cond s.is_down s.near.flight (s.near.flight ++ ms)
  pub breaks : t.near.breaks ≡ b

by_down : (d : Bool) (near far : SessionEnd) (b : List ℕ) (ms : List Message)
    → AllLeft b ms (record { is_down = d; near = near; far = far })
    (with_breaks b (sends ms (record { is_down = d; near = near; far = far })))
by_down true near far b ms = record {
  down = refl;
  far = refl;
  role = refl;
  phase = refl;
  notice = refl;
  sent = refl;
  held = refl;
  taken = refl;
  flight = refl;
  breaks = refl;
}
by_down false near far b ms = record {
  down = refl;
  far = refl;
  role = refl;
  phase = refl;
  notice = refl;
  sent = refl;
  held = refl;
  taken = refl;
  flight = refl;
  breaks = refl;
}

pub all_left : (b : List ℕ) (ms : List Message) (s : Session) → AllLeft b ms s (with_breaks b (sends ms s))
all_left b ms s = by_down s.is_down s.near s.far b ms

-- a session that is down where its near end is idle, and only there, is so after sends
pub told_down : (ms : List Message) (s : Session) → s.is_down ≡ is_idle s.near.phase
    → (told ms s).is_down ≡ is_idle (told ms s).near.phase
told_down ms s e =
    let r : Sending = sending s.near.breaks (map (λ m. []) ms) in
    let l = all_left r.breaks ms s in
    subst (λ (t : Session). t.is_down ≡ is_idle t.near.phase) (sym (told_as_sent (λ m. []) ms s s.near.breaks refl))
    (elim r.failed as (λ f. (cond f (shut (with_breaks r.breaks s)) (with_breaks r.breaks (sends ms s))).is_down
    ≡ is_idle (cond f (shut (with_breaks r.breaks s)) (with_breaks r.breaks (sends ms s))).near.phase) [
      | true ↦ refl
      | false ↦ l.down ∙ e ∙ ap is_idle (sym l.phase)
    ])

-- ---- the pass
-- the near end that is to tell what is wanted, and what it tells
abbrev pub telling_session : Map → Session → Session
telling_session wanted s = record s { near = record s.near { sent = cond (may_send s) wanted s.near.sent } }

abbrev pub wanted_messages : Map → Session → List Message
wanted_messages wanted s = cond (may_send s) (map Carries (difference s.near.sent wanted)) []

pub passed_tells : (wanted : Map) (s : Session) → passed wanted s ≡ told (wanted_messages wanted s) (telling_session wanted s)
unfolding passed told
passed_tells wanted s =
    elim (may_send s) as (λ b.
    cond b (told (map Carries (difference s.near.sent wanted)) (record s { near = record s.near { sent = wanted } })) s
    ≡ told (cond b (map Carries (difference s.near.sent wanted)) [])
    (record s { near = record s.near { sent = cond b wanted s.near.sent } })) [ true ↦ refl | false ↦ refl ]

-- an idle end may not send
idle_silent : (b : Bool) (p : Phase) → is_idle p ≡ true → may_send_at b p ≡ false
idle_silent true Idle e = refl
idle_silent false Idle e = refl
idle_silent b Opened e = absurd (true≢false (sym e))
idle_silent b Confirmed e = absurd (true≢false (sym e))
idle_silent b Up e = absurd (true≢false (sym e))

pub silent : (s : Session) → is_idle s.near.phase ≡ true → may_send s ≡ false
silent s e = idle_silent (is_peering s) s.near.phase e

pub idle_tells_nothing : (wanted : Map) (s : Session) → is_idle s.near.phase ≡ true → wanted_messages wanted s ≡ []
idle_tells_nothing wanted s e = ap (λ b. cond b (map Carries (difference s.near.sent wanted)) []) (silent s e)

pub idle_stays : (wanted : Map) (s : Session) → is_idle s.near.phase ≡ true → telling_session wanted s ≡ s
idle_stays wanted s e =
    ap (λ (b : Bool). record s { near = record s.near { sent = cond b wanted s.near.sent } }) (silent s e)

-- ---- a message that is taken, before it is answered
abbrev pub taking_session : Message → Phase → Session → Session
taking_session m next s = record s { near = record s.near { phase = next; held = held_after m s.near.held } }

abbrev took_as : Bool → Phase → Message → Session → Session
took_as peering phase m s = cond peering (peer_took phase m s) (item_took phase m s)

-- one that leaves the state as it is
stayed : (m : Message) (next : Phase) (s : Session) → s.near.phase ≡ next
    → ◌≡◌ {A = Session} (record s { near = record s.near { held = held_after m s.near.held } }) (taking_session m next s)
stayed m next s at = λ i. record s { near = record s.near { phase = at i; held = held_after m s.near.held } }

by_cell : (peering : Bool) (phase : Phase) (m : Message) (next : Phase) (s : Session) → s.near.phase ≡ phase
    → is_idle phase ≡ false → cell peering phase m ≡ Some next
    → took_as peering phase m s ≡ told (replies_to peering phase m) (taking_session m next s)
unfolding told
by_cell peering Idle m next s at live e = absurd (true≢false live)
by_cell true Opened Open next s at live e =
    ap (λ (q : Phase). told (Keepalive ∷ []) (taking_session Open q s)) (same_Some Confirmed next e)
by_cell true Confirmed Keepalive next s at live e =
    ap (λ (q : Phase). taking_session Keepalive q s) (same_Some Up next e)
by_cell true Up Keepalive next s at live e = stayed Keepalive next s (at ∙ same_Some Up next e)
by_cell true Up (Carries d) next s at live e = stayed (Carries d) next s (at ∙ same_Some Up next e)
by_cell false Opened Hello next s at live e = ap (λ (q : Phase). taking_session Hello q s) (same_Some Up next e)
by_cell false Up (Carries d) next s at live e = stayed (Carries d) next s (at ∙ same_Some Up next e)
by_cell true p m next s at live e = absurd (none-some next e)
by_cell false p m next s at live e = absurd (none-some next e)

pub took_tells : (m : Message) (next : Phase) (s : Session) → is_idle s.near.phase ≡ false
    → cell (is_peering s) s.near.phase m ≡ Some next
    → took m s ≡ told (replies_to (is_peering s) s.near.phase m) (taking_session m next s)
took_tells m next s live e = by_cell (is_peering s) s.near.phase m next s refl live e

-- ---- an arrival
pub arrived_closes : (s : Session) → s.near.notice ≡ true → arrived s ≡ record s { near = closed s.near }
unfolding arrived
arrived_closes s e = ap (λ (b : Bool). cond b (record s { near = closed s.near }) (took_first s.far.flight s)) e

pub arrived_takes : (s : Session) (m : Message) (ms : List Message) → s.near.notice ≡ false → s.far.flight ≡ m ∷ ms
    → arrived s ≡ took m (without_first ms s)
unfolding arrived
arrived_takes s m ms e is =
    ap (λ (b : Bool). cond b (record s { near = closed s.near }) (took_first s.far.flight s)) e
    ∙ ap (λ (f : List Message). took_first f s) is

-- ---- an opening
abbrev pub opening_session : Session → Session
opening_session s = record { is_down = false; near = record s.near { phase = Opened }; far = s.far }

pub opened_tells : (s : Session) → opened s ≡ told (greeting s ∷ []) (opening_session s)
unfolding opened
opened_tells s = refl
