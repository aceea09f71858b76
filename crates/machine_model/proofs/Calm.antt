-- Deliveries on sessions that are up and without breaks.
use Rattle.std.specs.Prelude.{◌≡◌, ◌⊎◌, ℕ, List, [], ◌∷◌, ◌++◌, map, Bool, true, false, cond}
use Rattle.std.proofs.lemmas.Bool.{true≢false}
use Rattle.std.proofs.Common.{refl, sym, ◌∙◌, ap, subst, inl, inr}
use Rattle.ov_sync.specs.Keyed.{changed}
use Rattle.transform_model.specs.NodeModel.Maps.{Map, Change, difference}
use Rattle.transform_model.specs.NodeModel.Step.{Phase, Opened, Confirmed, Up}
use Rattle.machine_model.specs.Session.{Message, Open, Keepalive, Carries, SessionEnd, Session, closed, is_up_phase, are_peers, is_peering, may_send_at, may_send, shut, meets_break, counted, with_breaks, left, told, passed, with_phase, without_first, took_first, arrived}
use Rattle.machine_model.proofs.SessionFact.{sends, append_nil, sends_left, Joined, greetings, meets, first_as, took_first_is}

-- where no break is pending, all is sent
sends_none : (d : Bool) (near far : SessionEnd) → ◌≡◌ {A = Session} (record { is_down = d; near = near; far = far }) (sends [] (record { is_down = d; near = near; far = far }))
sends_none true near far = refl
sends_none false near far = ap (λ (f : List Message). record { is_down = false; near = record near { flight = f }; far = far }) (append_nil near.flight)

left_breaks : (d : Bool) (near far : SessionEnd) (m : Message) → (left m (with_breaks [] (record { is_down = d; near = near; far = far }))).near.breaks ≡ []
left_breaks true near far m = refl
left_breaks false near far m = refl

sends_breaks : (d : Bool) (near far : SessionEnd) (ms : List Message) → near.breaks ≡ [] → with_breaks [] (sends ms (record { is_down = d; near = near; far = far })) ≡ sends ms (record { is_down = d; near = near; far = far })
sends_breaks true near far ms e = λ i. record { is_down = true; near = record near { breaks = sym e i }; far = far }
sends_breaks false near far ms e = λ i. record { is_down = false; near = record near { flight = near.flight ++ ms; breaks = sym e i }; far = far }

sends_next : (d : Bool) (near far : SessionEnd) (m : Message) (ms : List Message) → sends ms (left m (with_breaks [] (record { is_down = d; near = near; far = far }))) ≡ with_breaks [] (sends (m ∷ ms) (record { is_down = d; near = near; far = far }))
sends_next true near far m ms = refl
sends_next false near far m ms = sends_left false near far m ms [] []

pub told_easy : (ms : List Message) (s : Session) → s.near.breaks ≡ [] → told ms s ≡ sends ms s
unfolding told
told_easy [] s e = sends_none s.is_down s.near s.far
told_easy (m ∷ ms) s e =
    subst (λ (b : List ℕ). cond (meets_break b) (shut (with_breaks (counted b) s)) (told ms (left m (with_breaks (counted b) s))) ≡ sends (m ∷ ms) s) (sym e)
    (told_easy ms (left m (with_breaks [] s)) (left_breaks s.is_down s.near s.far m) ∙ sends_next s.is_down s.near s.far m ms ∙ sends_breaks s.is_down s.near s.far (m ∷ ms) e)

-- an end that tells what is wanted
abbrev pub telling : Map → Session → Session
telling m s = record s { near = record s.near { sent = m; flight = s.near.flight ++ map Carries (difference s.near.sent m) } }

pub passed_easy : (m : Map) (s : Session) → s.is_down ≡ false → s.near.breaks ≡ [] → passed m s ≡ cond (may_send s) (telling m s) s
unfolding passed
passed_easy m s whole e =
    elim (may_send s) as (λ b. cond b (told (map Carries (difference s.near.sent m)) (record s { near = record s.near { sent = m } })) s ≡ cond b (telling m s) s) [
      | true ↦ told_easy (map Carries (difference s.near.sent m)) (record s { near = record s.near { sent = m } }) e
          ∙ ap (λ (d : Bool). cond d (record s { near = record s.near { sent = m } }) (telling m s)) whole
      | false ↦ refl
    ]

-- what the arrival of a message makes of a session
pub record Arrival (m : Message) (ms : List Message) (s t : Session) : Type 0 where
  pub whole : t.is_down ≡ false
  pub near_breaks : t.near.breaks ≡ s.near.breaks
  pub far_breaks : t.far.breaks ≡ s.far.breaks
  pub taken : t.far.flight ≡ ms
  pub reply : (t.near.flight ≡ s.near.flight) ⊎ ((m ≡ Open) × (t.near.flight ≡ s.near.flight ++ Keepalive ∷ []))
  pub held : (t.near.held ≡ s.near.held) ⊎ ((d : Change) × (m ≡ Carries d) × (t.near.held ≡ changed s.near.held d))
  pub up : is_up_phase s.near.phase ≡ true → is_up_phase t.near.phase ≡ true
  pub sent : t.near.sent ≡ s.near.sent
  pub may : may_send t ≡ true → (may_send s ≡ true) ⊎ ((m ≡ Keepalive) × (is_peering s ≡ true))
  pub far_same : (t.far.sent ≡ s.far.sent) × (t.far.held ≡ s.far.held) × (t.far.phase ≡ s.far.phase)

-- by the first message, if there is one
abbrev pub ArrivalOf : List Message → Session → Session → Type 0
ArrivalOf [] s t = t ≡ s
ArrivalOf (m ∷ ms) s t = Arrival m ms s t

-- the cases
abbrev met : Bool → Phase → Phase → SessionEnd → SessionEnd → List Change → Session
met b p q near far ds = record { is_down = false; near = record near { phase = p; notice = false }; far = record far { phase = q; notice = false; flight = greetings b p q ++ map Carries ds } }

kept : (m : Message) (ms : List Message) (s t : Session) → t.is_down ≡ false → t.near.breaks ≡ s.near.breaks → t.far.breaks ≡ s.far.breaks → t.far.flight ≡ ms → t.near.flight ≡ s.near.flight
    → (t.near.held ≡ s.near.held) ⊎ ((d : Change) × (m ≡ Carries d) × (t.near.held ≡ changed s.near.held d)) → (is_up_phase s.near.phase ≡ true → is_up_phase t.near.phase ≡ true) → t.near.sent ≡ s.near.sent
    → (may_send t ≡ true → (may_send s ≡ true) ⊎ ((m ≡ Keepalive) × (is_peering s ≡ true))) → (t.far.sent ≡ s.far.sent) × (t.far.held ≡ s.far.held) × (t.far.phase ≡ s.far.phase) → Arrival m ms s t
kept m ms s t whole nb fb taken flight held up sent may far = record { whole = whole; near_breaks = nb; far_breaks = fb; taken = taken; reply = inl flight; held = held; up = up; sent = sent; may = may; far_same = far }

first_arrives : (b : Bool) (p q : Phase) (near far : SessionEnd) (ds : List Change) → are_peers near.role far.role ≡ b → meets b p q ≡ true → (may_send_at b q ≡ false → ds ≡ []) → near.breaks ≡ []
    → ArrivalOf (greetings b p q ++ map Carries ds) (met b p q near far ds) (first_as b p (greetings b p q ++ map Carries ds) (met b p q near far ds))
first_arrives true Opened Opened near far ds kind phases early unbroken =
    let s : Session = met true Opened Opened near far ds in
    let t : Session = with_phase Confirmed (without_first (map Carries ds) s) in
    subst (Arrival Open (map Carries ds) s) (sym (told_easy (Keepalive ∷ []) t unbroken)) (record {
      whole = refl;
      near_breaks = refl;
      far_breaks = refl;
      taken = refl;
      reply = inr (refl, refl);
      held = inl refl;
      up = λ e. absurd (true≢false (sym e));
      sent = refl;
      may = λ e. absurd (true≢false (sym e ∙ ap (λ (c : Bool). may_send_at c Confirmed) kind));
      far_same = (refl, refl, refl);
    })
first_arrives true Opened Confirmed near far ds kind phases early unbroken =
    let s : Session = met true Opened Confirmed near far ds in
    let t : Session = with_phase Confirmed (without_first (Keepalive ∷ map Carries ds) s) in
    subst (Arrival Open (Keepalive ∷ map Carries ds) s) (sym (told_easy (Keepalive ∷ []) t unbroken)) (record {
      whole = refl;
      near_breaks = refl;
      far_breaks = refl;
      taken = refl;
      reply = inr (refl, refl);
      held = inl refl;
      up = λ e. absurd (true≢false (sym e));
      sent = refl;
      may = λ e. absurd (true≢false (sym e ∙ ap (λ (c : Bool). may_send_at c Confirmed) kind));
      far_same = (refl, refl, refl);
    })
first_arrives true Confirmed Opened near far [] kind phases early unbroken = refl
first_arrives true Confirmed Opened near far (d ∷ ds) kind phases early unbroken = absurd (cc (early refl))
first_arrives true Confirmed Confirmed near far ds kind phases early unbroken = kept _ _ _ _ refl refl refl refl refl (inl refl) (λ e. absurd (true≢false (sym e))) refl (λ _. inr (refl, kind)) (refl, refl, refl)
first_arrives true Confirmed Up near far ds kind phases early unbroken = kept _ _ _ _ refl refl refl refl refl (inl refl) (λ e. absurd (true≢false (sym e))) refl (λ _. inr (refl, kind)) (refl, refl, refl)
first_arrives true Up Confirmed near far [] kind phases early unbroken = refl
first_arrives true Up Confirmed near far (d ∷ ds) kind phases early unbroken = absurd (cc (early refl))
first_arrives true Up Up near far [] kind phases early unbroken = refl
first_arrives true Up Up near far (d ∷ ds) kind phases early unbroken = kept _ _ _ _ refl refl refl refl refl (inr (d, refl, refl)) (λ e. e) refl (λ e. inl e) (refl, refl, refl)
first_arrives false Opened Opened near far ds kind phases early unbroken = kept _ _ _ _ refl refl refl refl refl (inl refl) (λ e. absurd (true≢false (sym e))) refl (λ _. inl (ap (λ (c : Bool). may_send_at c Opened) kind)) (refl, refl, refl)
first_arrives false Opened Up near far ds kind phases early unbroken = kept _ _ _ _ refl refl refl refl refl (inl refl) (λ e. absurd (true≢false (sym e))) refl (λ _. inl (ap (λ (c : Bool). may_send_at c Opened) kind)) (refl, refl, refl)
first_arrives false Up Opened near far [] kind phases early unbroken = refl
first_arrives false Up Opened near far (d ∷ ds) kind phases early unbroken = kept _ _ _ _ refl refl refl refl refl (inr (d, refl, refl)) (λ e. e) refl (λ e. inl e) (refl, refl, refl)
first_arrives false Up Up near far [] kind phases early unbroken = refl
first_arrives false Up Up near far (d ∷ ds) kind phases early unbroken = kept _ _ _ _ refl refl refl refl refl (inr (d, refl, refl)) (λ e. e) refl (λ e. inl e) (refl, refl, refl)
first_arrives _ _ _ near far ds kind phases early unbroken = absurd (true≢false (sym phases))

pub arrives : (size : List ℕ → Message → ℕ) (s : Session) → Joined size s → s.near.breaks ≡ [] → ArrivalOf s.far.flight s (arrived s)
unfolding arrived
arrives size s j unbroken =
    let same : met (is_peering s) s.near.phase s.far.phase s.near s.far j.inward.changes ≡ s = λ i. record {
      is_down = sym j.whole i;
      near = record s.near { notice = sym j.near_notice i };
      far = record s.far { notice = sym j.far_notice i; flight = sym j.inward.flight i };
    } in
    subst (λ b. ArrivalOf s.far.flight s (cond b (record s { near = closed s.near }) (took_first s.far.flight s))) (sym j.near_notice)
    (subst (ArrivalOf s.far.flight s) (sym (took_first_is s.far.flight s))
    (subst (λ (t : Session). ArrivalOf t.far.flight t (first_as (is_peering s) s.near.phase t.far.flight t)) same
    (first_arrives (is_peering s) s.near.phase s.far.phase s.near s.far j.inward.changes refl j.inward.phases j.inward.early unbroken)))
