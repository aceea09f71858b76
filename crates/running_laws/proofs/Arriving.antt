-- Octets that arrive at a session of the machine: the messages of which they hold the last octet are taken in turn, and
-- then all replies are sent.
use Rattle.std.specs.Prelude.{◌≡◌, ◌+◌, ◌-◌, ◌<◌, ℕ, List, [], ◌∷◌, ◌++◌, nat_lt, Bool, true, false, cond, if◌then◌else◌}
use Rattle.std.specs.declared.option.Option.TheVariants.{Some}
use Rattle.std.specs.Option.{unwrap_or}
use Rattle.std.proofs.Common.{refl, sym, ◌∙◌, ap, subst, arith}
use Rattle.std.proofs.lemmas.Bool.{le-ltb, lt-ltb, ltb-false, ltb-true, true≢false}
use Rattle.std.proofs.lemmas.Option.{same_Some}
use Rattle.node_model.specs.Step.{Phase, Idle, Opened, Confirmed, Up}
use Rattle.node_model.proofs.Members.{none_some}
use Rattle.machine_laws.specs.MachineModel.Setup.{Name}
use Rattle.machine_laws.specs.MachineModel.Session.{Message, Open, Keepalive, Hello, Carries, Session, closed, is_idle, is_peering}
use Rattle.machine_laws.specs.MachineModel.Session.{counted, left, meets_break, octets_arrived, shut, told, took, took_octets}
use Rattle.machine_laws.specs.MachineModel.Session.{with_breaks, without_first}
use Rattle.machine_laws.specs.MachineModel.Moments.{ArePositive, IsPartly, NoneGoesDown, cell}
use Rattle.running_nodes.specs.Taking.{held_after, phase_after, replies_to, replies_to_all}
use Rattle.running_laws.proofs.Sent.{taking_session, told_none, took_tells}

-- ---- the messages of which all octets are among the first n, those behind them, and how many octets of the next one are
abbrev pub whole_of : (Message → ℕ) → ℕ → List Message → List Message
whole_of size n [] = []
whole_of size n (m ∷ ms) = if nat_lt n (size m) then [] else m ∷ whole_of size (n - size m) ms

abbrev pub rest_of : (Message → ℕ) → ℕ → List Message → List Message
rest_of size n [] = []
rest_of size n (m ∷ ms) = if nat_lt n (size m) then m ∷ ms else rest_of size (n - size m) ms

abbrev pub taken_of : (Message → ℕ) → ℕ → List Message → ℕ
taken_of size n [] = 0
taken_of size n (m ∷ ms) = if nat_lt n (size m) then n else taken_of size (n - size m) ms

-- ---- the session once its near end took messages, before it answers them
abbrev pub unanswered : Bool → List Message → Session → Session
unanswered peering [] s = s
unanswered peering (m ∷ ms) s =
    unanswered peering ms
    (record s {
      near = record s.near { phase = phase_after peering s.near.phase m; held = held_after m s.near.held };
    })

-- so many octets of the first of these messages are taken
abbrev pub still : List Message → ℕ → Session → Session
still ms taken s = record s { far = record s.far { flight = ms; taken = taken } }

-- the state that a message leads a live end to is live
pub live_after : (b : Bool) (phase : Phase) (m : Message) (next : Phase) → is_idle phase ≡ false → cell b phase m ≡ Some next → is_idle next ≡ false
live_after b Idle m next live e = absurd (true≢false live)
live_after true Opened Open next live e = ap is_idle (sym (same_Some Confirmed next e))
live_after true Confirmed Keepalive next live e = ap is_idle (sym (same_Some Up next e))
live_after true Up Keepalive next live e = ap is_idle (sym (same_Some Up next e))
live_after true Up (Carries d) next live e = ap is_idle (sym (same_Some Up next e))
live_after false Opened Hello next live e = ap is_idle (sym (same_Some Up next e))
live_after false Up (Carries d) next live e = ap is_idle (sym (same_Some Up next e))
live_after _ _ _ next live e = absurd (none_some next e)

-- ---- sends
-- a message that leaves on a session that is not down, with the breaks that are left
abbrev sent_off : Message → List ℕ → Session → Session
sent_off m breaks s = record s { near = record s.near { flight = s.near.flight ++ m ∷ []; breaks = breaks } }

told_shuts : (m : Message) (ms : List Message) (s : Session) → meets_break s.near.breaks ≡ true
    → told (m ∷ ms) s ≡ shut (with_breaks (counted s.near.breaks) s)
unfolding told
told_shuts m ms s e =
    let c = counted s.near.breaks in
    ap (λ b. cond b (shut (with_breaks c s)) (told ms (left m (with_breaks c s)))) e

told_goes : (m : Message) (ms : List Message) (s : Session) → meets_break s.near.breaks ≡ false → s.is_down ≡ false
    → told (m ∷ ms) s ≡ told ms (sent_off m (counted s.near.breaks) s)
unfolding told
told_goes m ms s e whole =
    let c = counted s.near.breaks in
    ap (λ b. cond b (shut (with_breaks c s)) (told ms (left m (with_breaks c s)))) e
    ∙ ap (λ b. told ms (cond b (with_breaks c s) (sent_off m c s))) whole

-- ---- what is told once all is taken is told of the same session
module _ (b : Bool) where
  breaks_kept : (ms : List Message) (s : Session) → (unanswered b ms s).near.breaks ≡ s.near.breaks
  breaks_kept [] s = refl
  breaks_kept (k ∷ ms) s = breaks_kept ms (taking_session k (phase_after b s.near.phase k) s)

  down_kept : (ms : List Message) (s : Session) → (unanswered b ms s).is_down ≡ s.is_down
  down_kept [] s = refl
  down_kept (k ∷ ms) s = down_kept ms (taking_session k (phase_after b s.near.phase k) s)

  shut_same : (ms : List Message) (c : List ℕ) (s : Session)
      → shut (with_breaks c (unanswered b ms s)) ≡ shut (with_breaks c s)
  shut_same [] c s = refl
  shut_same (k ∷ ms) c s = shut_same ms c (taking_session k (phase_after b s.near.phase k) s)

  sent_later : (ms : List Message) (m : Message) (c : List ℕ) (s : Session)
      → unanswered b ms (sent_off m c s) ≡ sent_off m c (unanswered b ms s)
  sent_later [] m c s = refl
  sent_later (k ∷ ms) m c s = sent_later ms m c (taking_session k (phase_after b s.near.phase k) s)

-- ---- octets
module _ (size : Name → Message → ℕ) where
  shut_stays : (n : ℕ) (ms : List Message) (s : Session) → took_octets size n ms (shut s) ≡ shut s
  shut_stays n [] s = refl
  shut_stays n (m ∷ ms) s = refl

  -- what took_octets makes of a session
  abbrev taken_in_turn : ℕ → List Message → Session → Session
  taken_in_turn total ms s =
      let z = size s.far.name in
      let b = is_peering s in
      told (replies_to_all b s.near.phase (whole_of z total ms))
      (unanswered b (whole_of z total ms) (still (rest_of z total ms) (taken_of z total ms) s))

  -- the same once these replies are sent
  abbrev taken_after : List Message → ℕ → List Message → Session → Session
  taken_after replies total ms s =
      let z = size s.far.name in
      let b = is_peering s in
      told (replies ++ replies_to_all b s.near.phase (whole_of z total ms))
      (unanswered b (whole_of z total ms) (still (rest_of z total ms) (taken_of z total ms) s))

  abbrev GoesOn : ℕ → List Message → Type 0
  GoesOn n ms =
      (s : Session) → s.is_down ≡ false → is_idle s.near.phase ≡ false → s.far.flight ≡ ms
      → IsPartly (size s.far.name) ms s.far.taken → NoneGoesDown (is_peering s) s.near.phase ms
      → took_octets size n ms s ≡ taken_in_turn (s.far.taken + n) ms s

  none_more : (n : ℕ) → 0 + n ≡ n
  none_more n = omega arith

  -- first a reply is sent, which may close the end
  module _ (n : ℕ) (ms : List Message) (m : Message) (replies : List Message) (s : Session) (whole : s.is_down ≡ false) where
    abbrev z : Message → ℕ
    z = size s.far.name

    abbrev b : Bool
    b = is_peering s

    abbrev c : List ℕ
    c = counted s.near.breaks

    abbrev taken : List Message
    taken = whole_of z n ms

    abbrev t : Session
    t = still (rest_of z n ms) (taken_of z n ms) s

    abbrev all : List Message
    all = replies ++ replies_to_all b s.near.phase taken

    reply_shuts : meets_break s.near.breaks ≡ true → took_octets size n ms (told (m ∷ replies) s) ≡ taken_after (m ∷ replies) n ms s
    reply_shuts e =
        ap (took_octets size n ms) (told_shuts m replies s e)
        ∙ shut_stays n ms (with_breaks c s)
        ∙ sym (shut_same b taken c t)
        ∙ (λ i. shut (with_breaks (counted (sym (breaks_kept b taken t) i)) (unanswered b taken t)))
        ∙ sym (told_shuts m all (unanswered b taken t) (ap meets_break (breaks_kept b taken t) ∙ e))

    reply_goes : meets_break s.near.breaks ≡ false
        → took_octets size n ms (told replies (sent_off m c s)) ≡ taken_after replies n ms (sent_off m c s)
        → took_octets size n ms (told (m ∷ replies) s) ≡ taken_after (m ∷ replies) n ms s
    reply_goes e later =
        ap (took_octets size n ms) (told_goes m replies s e whole)
        ∙ later
        ∙ ap (told all) (sent_later b taken m c t)
        ∙ (λ i. told all (sent_off m (counted (sym (breaks_kept b taken t) i)) (unanswered b taken t)))
        ∙ sym (told_goes m all (unanswered b taken t) (ap meets_break (breaks_kept b taken t) ∙ e) (down_kept b taken t ∙ whole))

  replied_first : (n : ℕ) (ms : List Message) → GoesOn n ms → ((z : Message → ℕ) → ((m : Message) → 0 < z m) → IsPartly z ms 0)
      → ArePositive size
      → (replies : List Message) (s : Session) → s.is_down ≡ false → is_idle s.near.phase ≡ false → s.far.flight ≡ ms → s.far.taken ≡ 0
      → NoneGoesDown (is_peering s) s.near.phase ms
      → took_octets size n ms (told replies s) ≡ taken_after replies n ms s
  replied_first n ms goes none_taken positive [] s whole live flight none passing =
      ap (took_octets size n ms) (told_none s)
      ∙ goes s whole live flight
      (subst (IsPartly (size s.far.name) ms) (sym none) (none_taken (size s.far.name) (positive s.far.name))) passing
      ∙ ap (λ t. taken_in_turn t ms s) (ap (λ t. t + n) none ∙ none_more n)
  replied_first n ms goes none_taken positive (m ∷ replies) s whole live flight none passing =
      by_break (meets_break s.near.breaks) refl
      (replied_first n ms goes none_taken positive replies (sent_off m (counted s.near.breaks) s) whole live flight none passing)
    where
      by_break : (d : Bool) → meets_break s.near.breaks ≡ d
          → took_octets size n ms (told replies (sent_off m (counted s.near.breaks) s)) ≡ taken_after replies n ms (sent_off m (counted s.near.breaks) s)
          → took_octets size n ms (told (m ∷ replies) s) ≡ taken_after (m ∷ replies) n ms s
      by_break true e later = reply_shuts n ms m replies s whole e
      by_break false e later = reply_goes n ms m replies s whole e later

  none_taken : (ms : List Message) (z : Message → ℕ) → ((m : Message) → 0 < z m) → IsPartly z ms 0
  none_taken [] z positive = refl
  none_taken (m ∷ ms) z positive = positive m

  -- ---- the number of octets that are left behind a message
  short : (z t n : ℕ) → t < z → (nat_lt n (z - t)) ≡ true → (nat_lt (t + n) z) ≡ true
  short z t n part e = let less = ltb-true n (z - t) e in lt-ltb (t + n) z (omega (arith, part, less))

  long : (z t n : ℕ) → t < z → (nat_lt n (z - t)) ≡ false → (nat_lt (t + n) z) ≡ false
  long z t n part e = let more = ltb-false n (z - t) e in le-ltb (t + n) z (omega (arith, part, more))

  left_behind : (z t n : ℕ) → t < z → (nat_lt n (z - t)) ≡ false → n - (z - t) ≡ t + n - z
  left_behind z t n part e = let more = ltb-false n (z - t) e in omega (arith, part, more)

  module _ (positive : ArePositive size) where
    goes_on : (n : ℕ) (ms : List Message) → GoesOn n ms
    goes_on n [] s whole live flight part passing =
        (λ i. record s { far = record s.far { flight = flight i; taken = part i } })
        ∙ sym (told_none (still [] 0 s))
    goes_on n (m ∷ ms) s whole live flight part passing =
        ap (λ d. cond d s (cond (nat_lt n (z m - s.far.taken)) more (took_octets size (n - (z m - s.far.taken)) ms (took m (without_first ms s))))) whole
        ∙ by_size (nat_lt n (z m - s.far.taken)) refl (goes_on (n - (z m - s.far.taken)) ms)
      where
        z : Message → ℕ
        z = size s.far.name

        more : Session
        more = record s { far = record s.far { taken = s.far.taken + n } }

        by_size : (d : Bool) → nat_lt n (size s.far.name m - s.far.taken) ≡ d
            → GoesOn (n - (size s.far.name m - s.far.taken)) ms
            → cond d (record s { far = record s.far { taken = s.far.taken + n } })
            (took_octets size (n - (size s.far.name m - s.far.taken)) ms (took m (without_first ms s)))
            ≡ taken_in_turn (s.far.taken + n) (m ∷ ms) s
        by_size true e later =
            let z = size s.far.name in
            let b = is_peering s in
            let k = s.far.taken + n in
            (λ i. record s { far = record s.far { flight = flight i; taken = k } })
            ∙ sym (told_none (still (m ∷ ms) k s))
            ∙ (λ i. let d = sym (short (z m) s.far.taken n part e) i in
            told (replies_to_all b s.near.phase (cond d [] (m ∷ whole_of z (k - z m) ms)))
            (unanswered b (cond d [] (m ∷ whole_of z (k - z m) ms))
            (still (cond d (m ∷ ms) (rest_of z (k - z m) ms)) (cond d k (taken_of z (k - z m) ms)) s)))
        by_size false e later =
            let z = size s.far.name in
            let b = is_peering s in
            let k = s.far.taken + n in
            let u = taking_session m passing.0 (without_first ms s) in
            ap (took_octets size (n - (z m - s.far.taken)) ms) (took_tells m passing.0 (without_first ms s) live passing.1)
            ∙ replied_first (n - (z m - s.far.taken)) ms later (none_taken ms) positive (replies_to b s.near.phase m) u whole
            (live_after b s.near.phase m passing.0 live passing.1) refl refl passing.2
            ∙ ap (λ t. taken_after (replies_to b s.near.phase m) t ms u) (left_behind (z m) s.far.taken n part e)
            ∙ (λ i. taken_after (replies_to b s.near.phase m) (k - z m) ms
            (taking_session m (unwrap_or (sym passing.1 i) s.near.phase) (without_first ms s)))
            ∙ (λ i. let d = sym (long (z m) s.far.taken n part e) i in
            told (replies_to_all b s.near.phase (cond d [] (m ∷ whole_of z (k - z m) ms)))
            (unanswered b (cond d [] (m ∷ whole_of z (k - z m) ms))
            (still (cond d (m ∷ ms) (rest_of z (k - z m) ms)) (cond d k (taken_of z (k - z m) ms)) s)))

    pub octets_taken : (n : ℕ) (s : Session) → s.is_down ≡ false → s.near.notice ≡ false → is_idle s.near.phase ≡ false
        → IsPartly (size s.far.name) s.far.flight s.far.taken → NoneGoesDown (is_peering s) s.near.phase s.far.flight
        → octets_arrived size n s ≡ taken_in_turn (s.far.taken + n) s.far.flight s
    unfolding octets_arrived
    octets_taken n s whole quiet live part passing =
        ap (λ d. cond d (record s { near = closed s.near }) (took_octets size n s.far.flight s)) quiet
        ∙ goes_on n s.far.flight s whole live refl part passing
