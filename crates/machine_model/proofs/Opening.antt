-- A session between the openings of its two ends.
use Rattle.std.specs.Prelude.{◌≡◌, ◌⊎◌, ℕ, ◌<◌, List, [], ◌∷◌, ◌++◌, map, Bool, true, false, not, cond}
use Rattle.std.specs.FinMap.{empty}
use Rattle.std.proofs.lemmas.Bool.{true≢false}
use Rattle.std.proofs.Common.{refl, sym, ◌∙◌, ap, subst, inl, inr}
use Rattle.ov_sync.specs.Keyed.{after}
use Rattle.transform_model.specs.NodeModel.Maps.{Map, Change, difference}
use Rattle.transform_model.specs.NodeModel.Step.{Phase, Idle, Opened, Confirmed, Up}
use Rattle.machine_model.specs.Moments.{IsPartly}
use Rattle.machine_model.specs.Session.{Message, Open, Hello, Carries, SessionEnd, Session, turned, is_idle, are_peers, is_peering, may_send_at, may_send, with_breaks, told, passed, greeting, opened}
use Rattle.machine_model.proofs.SessionFact.{sends, told_cases, meets, greetings, IsTidy, Down, Fact, shut_down, map_append, next_difference, partly_append, told_keeps, passed_keeps, are_peers-turned, build}

-- the near end is open and the far one is not
pub record HalfOpen (size : List ℕ → Message → ℕ) (s : Session) : Type 0 where
  pub whole : s.is_down ≡ false
  pub near_notice : s.near.notice ≡ false
  pub far_notice : s.far.notice ≡ false
  pub near_phase : s.near.phase ≡ Opened
  pub far_phase : s.far.phase ≡ Idle
  pub near_held : s.near.held ≡ empty
  pub far_held : s.far.held ≡ empty
  pub far_sent : s.far.sent ≡ empty
  pub far_flight : s.far.flight ≡ []
  pub far_taken : s.far.taken ≡ 0
  pub changes : List Change
  pub flight : s.near.flight ≡ greeting s ∷ map Carries changes
  pub early : may_send_at (is_peering s) Opened ≡ false → changes ≡ []
  pub tells : after empty changes ≡ s.near.sent
  pub partly : IsPartly (size s.near.name) s.near.flight s.near.taken

-- a session that opens: down again, or half open
abbrev pub Opening : (List ℕ → Message → ℕ) → Session → Type 0
Opening size s = Down s ⊎ HalfOpen size s

is_Idle : (p : Phase) → not (is_idle p) ≡ false → p ≡ Idle
is_Idle Idle e = refl
is_Idle Opened e = absurd (true≢false e)
is_Idle Confirmed e = absurd (true≢false e)
is_Idle Up e = absurd (true≢false e)

module _ (size : List ℕ → Message → ℕ) (positive : (n : List ℕ) (m : Message) → 0 < size n m) where
  -- what is told on it leaves it so, or down
  half_told : (ms : List Message) (s : Session) → IsTidy s.far → ((b : List ℕ) → Opening size (with_breaks b (sends ms s))) → Opening size (told ms s)
  half_told ms s t h =
      elim (told_cases ms s) as (λ _. Opening size (told ms s)) [
        | inl p ↦ subst (Opening size) (sym p.1) (inl (shut_down (with_breaks p.0 s) t))
        | inr p ↦ subst (Opening size) (sym p.1) (h p.0)
      ]

  -- a session that is down and without notices opens
  pub opened_half : (s : Session) → Down s → s.near.notice ≡ false → s.far.notice ≡ false → Opening size (opened s)
  unfolding opened
  opened_half s d n m =
      let near_empty = d.near.tidy (sym d.near.notice ∙ n) in
      let far_empty = d.far.tidy (sym d.far.notice ∙ m) in
      half_told (greeting s ∷ []) (record { is_down = false; near = record s.near { phase = Opened }; far = s.far }) d.far.tidy
      (λ b. inr (record {
        whole = refl;
        near_notice = n;
        far_notice = m;
        near_phase = refl;
        far_phase = is_Idle s.far.phase (sym d.far.notice ∙ m);
        near_held = near_empty.1;
        far_held = far_empty.1;
        far_sent = far_empty.0;
        far_flight = d.far.flight;
        far_taken = d.far.taken;
        changes = [];
        flight = ap (λ (f : List Message). f ++ greeting s ∷ []) d.near.flight;
        early = λ _. refl;
        tells = sym near_empty.0;
        partly = partly_append size positive s.near.name s.near.flight (greeting s ∷ []) s.near.taken (subst (λ (f : List Message). IsPartly (size s.near.name) f s.near.taken) (sym d.near.flight) d.near.taken);
      }))

  half_tidy_far : (s : Session) → HalfOpen size s → IsTidy s.far
  half_tidy_far s h e = (h.far_sent, h.far_held)

  half_passed_whole : (wanted : Map) (near far : SessionEnd) → HalfOpen size (record { is_down = false; near = near; far = far }) → may_send (record { is_down = false; near = near; far = far }) ≡ true
      → Opening size (told (map Carries (difference near.sent wanted)) (record { is_down = false; near = record near { sent = wanted }; far = far }))
  half_passed_whole wanted near far h may =
      half_told _ _ (half_tidy_far _ h) (λ b. inr (record {
        whole = refl;
        near_notice = h.near_notice;
        far_notice = h.far_notice;
        near_phase = h.near_phase;
        far_phase = h.far_phase;
        near_held = h.near_held;
        far_held = h.far_held;
        far_sent = h.far_sent;
        far_flight = h.far_flight;
        far_taken = h.far_taken;
        changes = h.changes ++ difference near.sent wanted;
        flight = ap (λ (f : List Message). f ++ map Carries (difference near.sent wanted)) h.flight
            ∙ ap (λ (f : List Message). cond (are_peers near.role far.role) Open Hello ∷ f) (sym (map_append Carries h.changes (difference near.sent wanted)));
        early = λ e. absurd (true≢false (sym (subst (λ (p : Phase). may_send_at (are_peers near.role far.role) p ≡ true) h.near_phase may) ∙ e));
        tells = next_difference empty near.sent wanted h.changes h.tells;
        partly = partly_append size positive near.name near.flight (map Carries (difference near.sent wanted)) near.taken h.partly;
      }))

  half_passed : (wanted : Map) (s : Session) → HalfOpen size s → Opening size (passed wanted s)
  unfolding passed
  half_passed wanted s h =
      elim (may_send s) as (λ b. may_send s ≡ b → Opening size (cond b (told (map Carries (difference s.near.sent wanted)) (record s { near = record s.near { sent = wanted } })) s)) [
        | true ↦ λ may. subst (λ (d : Bool). HalfOpen size (record { is_down = d; near = s.near; far = s.far }) → Opening size (told (map Carries (difference s.near.sent wanted)) (record { is_down = d; near = record s.near { sent = wanted }; far = s.far })))
            (sym h.whole) (λ k. half_passed_whole wanted s.near s.far k may) h
        | false ↦ λ _. inr h
      ] refl

  told_stays_down : (ms : List Message) (s : Session) → s.is_down ≡ true → (told ms s).is_down ≡ true
  told_stays_down ms s e =
      elim (told_cases ms s) as (λ _. (told ms s).is_down ≡ true) [
        | inl p ↦ ap (λ (t : Session). t.is_down) p.1
        | inr p ↦ ap (λ (t : Session). t.is_down) p.1 ∙ elim s.is_down as (λ d. d ≡ true → (sends ms (record { is_down = d; near = s.near; far = s.far })).is_down ≡ true) [ true ↦ λ e. e | false ↦ λ e. e ] e
      ]

  down_passed : (wanted : Map) (s : Session) → Down s → Down (passed wanted s)
  unfolding passed
  down_passed wanted s d =
      let stays : (passed wanted s).is_down ≡ true = elim (may_send s) as (λ b. (cond b (told (map Carries (difference s.near.sent wanted)) (record s { near = record s.near { sent = wanted } })) s).is_down ≡ true) [ true ↦ told_stays_down _ _ d.down | false ↦ d.down ] in
      elim (passed_keeps size positive wanted s (inr d)) as (λ _. Down (passed wanted s)) [
        | inl j ↦ absurd (true≢false (sym stays ∙ j.whole))
        | inr k ↦ k
      ]

  pub opening_passed : (wanted : Map) (s : Session) → Opening size s → Opening size (passed wanted s)
  opening_passed wanted s (inl d) = inl (down_passed wanted s d)
  opening_passed wanted s (inr h) = half_passed wanted s h

  idle_sends_nothing : (b : Bool) (p : Phase) → p ≡ Idle → may_send_at b p ≡ false
  idle_sends_nothing true p e = ap (λ (p : Phase). may_send_at true p) e
  idle_sends_nothing false p e = ap (λ (p : Phase). may_send_at false p) e

  down_turned : (s : Session) → Down s → Down (turned s)
  down_turned s d = record { down = d.down; near = d.far; far = d.near }

  -- the end that is not open tells nothing
  pub opening_passed_far : (wanted : Map) (s : Session) → Opening size s → Opening size (turned (passed wanted (turned s)))
  unfolding passed
  opening_passed_far wanted s (inl d) = inl (down_turned (passed wanted (turned s)) (down_passed wanted (turned s) (down_turned s d)))
  opening_passed_far wanted s (inr h) =
      subst (λ b. Opening size (turned (cond b (told (map Carries (difference s.far.sent wanted)) (record { is_down = s.is_down; near = record s.far { sent = wanted }; far = s.near })) (turned s))))
      (sym (idle_sends_nothing (is_peering (turned s)) s.far.phase h.far_phase)) (inr h)

  -- the other end opens
  greets : (b : Bool) → (meets b Opened Opened ≡ true) × (greetings b Opened Opened ≡ cond b Open Hello ∷ [])
  greets true = (refl, refl)
  greets false = (refl, refl)

  opened_far_at : (b : Bool) (near far : SessionEnd) → are_peers far.role near.role ≡ b → HalfOpen size (record { is_down = false; near = record far { phase = Opened }; far = near })
      → Fact size (told (cond b Open Hello ∷ []) (record { is_down = false; near = record near { phase = Opened }; far = record far { phase = Opened } }))
  opened_far_at b near far k h =
      told_keeps size positive _ _ (λ e. absurd (true≢false e))
      (λ c. build size positive b _ _ (are_peers-turned near.role far.role ∙ k) h.far_notice h.near_notice
      (record {
        changes = h.changes;
        phases = (greets b).0;
        flight = h.flight ∙ ap (λ (c : Bool). cond c Open Hello ∷ map Carries h.changes) k ∙ ap (λ (f : List Message). f ++ map Carries h.changes) (sym (greets b).1);
        early = λ e. h.early (ap (λ (c : Bool). may_send_at c Opened) k ∙ e);
        tells = ap (λ (m : Map). after m h.changes) h.far_held ∙ h.tells;
        partly = h.partly;
      })
      (record {
        changes = [];
        phases = (greets b).0;
        flight = ap (λ (f : List Message). f ++ cond b Open Hello ∷ []) h.far_flight ∙ sym (ap (λ (f : List Message). f ++ []) (greets b).1);
        early = λ _. refl;
        tells = h.near_held ∙ sym h.far_sent;
        partly = partly_append size positive near.name near.flight (cond b Open Hello ∷ []) near.taken (subst (λ (f : List Message). IsPartly (size near.name) f near.taken) (sym h.far_flight) h.far_taken);
      }))

  pub opened_far : (s : Session) → HalfOpen size s → Fact size (opened (turned s))
  unfolding opened
  opened_far s h =
      let there : s ≡ record { is_down = false; near = record s.near { phase = Opened }; far = s.far } = λ i. record { is_down = h.whole i; near = record s.near { phase = h.near_phase i }; far = s.far } in
      subst (λ (t : Session). Fact size (told (cond (are_peers s.far.role s.near.role) Open Hello ∷ []) (record { is_down = false; near = record s.far { phase = Opened }; far = t.near }))) (sym there)
      (opened_far_at (are_peers s.far.role s.near.role) s.far s.near (are_peers-turned s.near.role s.far.role) (subst (HalfOpen size) there h))
