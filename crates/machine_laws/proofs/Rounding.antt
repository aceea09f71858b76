-- Settled moments, deliveries and what is due, in the words of laws.
use Rattle.std.specs.Prelude.{◌≡◌, ◌↔◌, ℕ, ◌+◌, ◌-◌, ◌≤◌, List, [], ◌∷◌, length, Bool, true, false, cond, ◌&&◌, ◌==◌, if◌then◌else◌}
use Rattle.std.specs.List.{AllByRecursion, flat_map, list_all}
use Rattle.std.proofs.lemmas.Bool.{true≢false, and_from, and_parts, eqb-true}
use Rattle.std.proofs.Common.{refl, sym, ◌∙◌, ap, inl, inr, arith}
use Rattle.ov_types.specs.First.{same_name}
use Rattle.node_laws.specs.NodeModel.Step.{Phase, Idle, Opened, Confirmed, Up}
use Rattle.machine_model.specs.Setup.{Name}
use Rattle.machine_model.specs.Session.{Message, SessionEnd, Session, is_up, is_up_phase, turned, waiting}
use Rattle.machine_model.specs.Network.{MachineState}
use Rattle.machine_model.specs.Steps.{due_at, dues, in_flight, is_rested, is_settled, joins, with_session}
use Rattle.machine_model.specs.Events.{MachineEvent, Edits, Deliver, DeliverOctets, Lose, Connect, Restart, Round, Settle, Show, Trace, Break, add_break, after, next}
use Rattle.machine_model.specs.Moments.{Each}
use Rattle.machine_model.specs.Rounds.{AreRounds, IsRound, after_rounds, is_delivery, taken_by, taken_of}
use Rattle.machine_model.proofs.AtRest.{no_messages}
use Rattle.machine_model.proofs.Twins.{itself}
use Rattle.machine_laws.specs.Rounding.{AreAtEase, AreDue, Delivers, IsDueBetween}

-- ---- settled moments
up_is : (p : Phase) → is_up_phase p ≡ true → p ≡ Up
up_is Up e = refl
up_is Idle e = absurd (true≢false (sym e))
up_is Opened e = absurd (true≢false (sym e))
up_is Confirmed e = absurd (true≢false (sym e))

-- nothing waits where no notice does and nothing is in flight, and only there
none_waits : (notice : Bool) (f : List Message) → cond notice 1 (length f) ≡ 0 → (notice ≡ false) × (f ≡ [])
none_waits true f e = cc
none_waits false f e = (refl, no_messages f e)

at_ease : (s : Session) → is_rested s ≡ true → AreAtEase s
at_ease s e =
    let a = and_parts (is_up s.near && is_up s.far && (waiting s == 0)) (waiting (turned s) == 0) e in
    let b = and_parts (is_up s.near && is_up s.far) (waiting s == 0) a.0 in
    let c = and_parts (is_up s.near) (is_up s.far) b.0 in
    let inward = none_waits s.near.notice s.far.flight (eqb-true (waiting s) 0 b.1) in
    let outward = none_waits s.far.notice s.near.flight (eqb-true (waiting (turned s)) 0 a.1) in
    record {
      near = record { up = up_is s.near.phase c.0; notice = inward.0; flight = outward.1 };
      far = record { up = up_is s.far.phase c.1; notice = outward.0; flight = inward.1 };
    }

waits_none : (notice : Bool) (f : List Message) → notice ≡ false → f ≡ [] → (cond notice 1 (length f) == 0) ≡ true
waits_none notice f e g = ap (λ n. cond n 1 (length f) == 0) e ∙ ap (λ (f : List Message). length f == 0) g

rests : (s : Session) → AreAtEase s → is_rested s ≡ true
rests s a =
    and_from (is_up s.near && is_up s.far && (waiting s == 0)) (waiting (turned s) == 0)
    (and_from (is_up s.near && is_up s.far) (waiting s == 0)
    (and_from (is_up s.near) (is_up s.far) (ap is_up_phase a.near.up) (ap is_up_phase a.far.up))
    (waits_none s.near.notice s.far.flight a.near.notice a.far.flight))
    (waits_none s.far.notice s.near.flight a.far.notice a.near.flight)

all_at_ease : (ss : List Session) → list_all is_rested ss ≡ true → Each AreAtEase ss
all_at_ease [] e = tt
all_at_ease (s ∷ ss) e = let p = and_parts (is_rested s) (list_all is_rested ss) e in (at_ease s p.0, all_at_ease ss p.1)

all_rest : (ss : List Session) → Each AreAtEase ss → list_all is_rested ss ≡ true
all_rest [] a = refl
all_rest (s ∷ ss) a = and_from (is_rested s) (list_all is_rested ss) (rests s a.0) (all_rest ss a.1)

pub settled_at_ease : (w : MachineState) → (is_settled w ≡ true) ↔ Each AreAtEase w.sessions
settled_at_ease w = (all_at_ease w.sessions, all_rest w.sessions)

-- a break changes no phase, no notice and nothing in flight
rested_with : (a b : Name) (n : ℕ) (ss : List Session) → list_all is_rested (with_session a b (add_break n) ss) ≡ list_all is_rested ss
rested_with a b n [] = refl
rested_with a b n (s ∷ ss) =
    elim (joins a b s) as (λ c. list_all is_rested (cond c (add_break n s ∷ ss) (cond (joins b a s) (turned (add_break n (turned s)) ∷ ss) (s ∷ with_session a b (add_break n) ss))) ≡ list_all is_rested (s ∷ ss)) [
      | true ↦ refl
      | false ↦ elim (joins b a s) as (λ c. list_all is_rested (cond c (turned (add_break n (turned s)) ∷ ss) (s ∷ with_session a b (add_break n) ss)) ≡ list_all is_rested (s ∷ ss)) [
        | true ↦ refl
        | false ↦ ap (λ b. is_rested s && b) (rested_with a b n ss)
      ]
    ]

pub breaks_unasked : (size : Name → Message → ℕ) (w : MachineState) (from to : Name) (n : ℕ) → is_settled (next size w (Break from to n)) ≡ is_settled w
unfolding next
breaks_unasked size w from to n = rested_with from to n w.sessions

-- ---- deliveries
delivers : (e : MachineEvent) → is_delivery e ≡ true → Delivers e
delivers (Deliver from to n) e = inl (record { from = from; to = to; messages = n; is = refl })
delivers (DeliverOctets from to n) e = inr (inl (record { from = from; to = to; octets = n; is = refl }))
delivers Round e = inr (inr refl)
delivers (Edits d) e = absurd (true≢false (sym e))
delivers (Lose a b) e = absurd (true≢false (sym e))
delivers (Connect a b) e = absurd (true≢false (sym e))
delivers (Restart name) e = absurd (true≢false (sym e))
delivers Settle e = absurd (true≢false (sym e))
delivers (Show name) e = absurd (true≢false (sym e))
delivers (Trace p) e = absurd (true≢false (sym e))
delivers (Break from to n) e = absurd (true≢false (sym e))

is_one : (e : MachineEvent) → Delivers e → is_delivery e ≡ true
is_one e (inl d) = ap is_delivery d.is
is_one e (inr (inl d)) = ap is_delivery d.is
is_one e (inr (inr is)) = ap is_delivery is

pub deliveries_are : (e : MachineEvent) → (is_delivery e ≡ true) ↔ Delivers e
deliveries_are e = (delivers e, is_one e)

own_way : (from to : Name) → (same_name from from && same_name to to) ≡ true
own_way from to = and_from (same_name from from) (same_name to to) (itself from) (itself to)

pub taken_of_messages : (size : Name → Message → ℕ) (w : MachineState) (from to : Name) (n : ℕ) → taken_by size from to w (Deliver from to n) ≡ in_flight w from to - in_flight (next size w (Deliver from to n)) from to
taken_of_messages size w from to n = ap (λ b. if b then in_flight w from to - in_flight (next size w (Deliver from to n)) from to else 0) (own_way from to)

pub taken_of_octets : (size : Name → Message → ℕ) (w : MachineState) (from to : Name) (n : ℕ) → taken_by size from to w (DeliverOctets from to n) ≡ in_flight w from to - in_flight (next size w (DeliverOctets from to n)) from to
taken_of_octets size w from to n = ap (λ b. if b then in_flight w from to - in_flight (next size w (DeliverOctets from to n)) from to else 0) (own_way from to)

all_deliver : (es : List MachineEvent) → list_all is_delivery es ≡ true → AllByRecursion Delivers es
all_deliver [] e = tt
all_deliver (x ∷ es) e = let p = and_parts (is_delivery x) (list_all is_delivery es) e in (delivers x p.0, all_deliver es p.1)

are_all : (es : List MachineEvent) → AllByRecursion Delivers es → list_all is_delivery es ≡ true
are_all [] d = refl
are_all (x ∷ es) d = and_from (is_delivery x) (list_all is_delivery es) (is_one x d.0) (are_all es d.1)

pub rounds_are : (size : Name → Message → ℕ) (w : MachineState) (es : List MachineEvent) → IsRound size w es ↔ (AllByRecursion Delivers es × ((from to : Name) → in_flight w from to ≤ taken_of size from to w es))
rounds_are size w es = (
  λ r. (all_deliver es r.deliveries, r.takes_all),
  λ r. record { deliveries = are_all es r.0; takes_all = r.1 },
)

itself_at_least : (n : ℕ) → n ≤ n + 0
itself_at_least n = omega arith

pub round_is_one : (size : Name → Message → ℕ) (w : MachineState) → IsRound size w (Round ∷ [])
round_is_one size w = record { deliveries = refl; takes_all = λ from to. itself_at_least (in_flight w from to) }

both_taken : (m n : ℕ) → m + (n + 0) ≡ m + n
both_taken m n = omega arith

pub two_taken : (size : Name → Message → ℕ) (w : MachineState) (e f : MachineEvent) (from to : Name) → taken_of size from to w (e ∷ f ∷ []) ≡ taken_by size from to w e + taken_by size from to (next size w e) f
two_taken size w e f from to = both_taken (taken_by size from to w e) (taken_by size from to (next size w e) f)

pub rounds_in_turn : (size : Name → Message → ℕ) (w : MachineState) (es fs : List MachineEvent) → AreRounds size w (es ∷ fs ∷ []) ↔ (IsRound size w es × IsRound size (after size w es) fs)
rounds_in_turn size w es fs = (λ r. (r.0, r.1.0), λ r. (r.0, (r.1, tt)))

pub after_two : (size : Name → Message → ℕ) (w : MachineState) (es fs : List MachineEvent) → after_rounds size w (es ∷ fs ∷ []) ≡ after size (after size w es) fs
after_two size w es fs = refl

-- ---- what is due
due_between : (e f : SessionEnd) (b : Bool) → IsDueBetween e f (due_at (record { is_down = b; near = f; far = e }))
due_between e f b = record {
  from = refl;
  to = refl;
  is_notice = refl;
  one = λ n. ap (λ c. cond c 1 (length e.flight)) n;
  all = λ n. ap (λ c. cond c 1 (length e.flight)) n;
}

all_due : (ss : List Session) → AreDue ss (flat_map (λ s. due_at (turned s) ∷ due_at s ∷ []) ss)
all_due [] = tt
all_due (s ∷ ss) = (due_between s.near s.far s.is_down, due_between s.far s.near s.is_down, all_due ss)

pub dues_are : (w : MachineState) → AreDue w.sessions (dues w)
dues_are w = all_due w.sessions
