-- On a session that is down nothing is in flight: what is sent there, a pass or an opening keep this.
use Rattle.std.specs.Prelude.{◌≡◌, ℕ, List, [], ◌∷◌, ◌++◌, map, true, false, cond}
use Rattle.std.proofs.lemmas.Bool.{true≢false}
use Rattle.std.proofs.Common.{refl, sym, ◌∙◌, subst, inl, inr}
use Rattle.node_model.specs.Maps.{Map, difference}
use Rattle.node_model.specs.Step.{Opened}
use Rattle.machine_laws.specs.MachineModel.Session.{Message, Carries, Session, turned, greeting, may_send, opened, passed}
use Rattle.machine_laws.specs.MachineModel.Session.{told, with_breaks}
use Rattle.machine_laws.proofs.MachineModel.SessionFact.{Fact, sends, told_cases}

abbrev pub IsQuiet : Session → Type 0
IsQuiet s = s.is_down ≡ true → (s.near.flight ≡ []) × (s.far.flight ≡ [])

pub quiet_turned : (s : Session) → IsQuiet s → IsQuiet (turned s)
quiet_turned s q e = let p = q e in (p.1, p.0)

pub quiet_of : (size : List ℕ → Message → ℕ) (s : Session) → Fact size s → IsQuiet s
quiet_of size s (inl j) e = absurd (true≢false (sym e ∙ j.whole))
quiet_of size s (inr d) e = (d.near.flight, d.far.flight)

sends_quiet : (b : List ℕ) (ms : List Message) (s : Session) → IsQuiet s → IsQuiet (with_breaks b (sends ms s))
sends_quiet b ms s q =
    elim s.is_down as (λ d. (d ≡ true → (s.near.flight ≡ []) × (s.far.flight ≡ []))
    → IsQuiet (with_breaks b (cond d (record { is_down = d; near = s.near; far = s.far })
    (record { is_down = d; near = record s.near { flight = s.near.flight ++ ms }; far = s.far })))) [
      | true ↦ λ q e. q e
      | false ↦ λ q e. absurd (true≢false (sym e))
    ] q

pub told_quiet : (ms : List Message) (s : Session) → IsQuiet s → IsQuiet (told ms s)
told_quiet ms s q =
    elim (told_cases ms s) as (λ _. IsQuiet (told ms s)) [
      | inl p ↦ subst IsQuiet (sym p.1) (λ _. (refl, refl))
      | inr p ↦ subst IsQuiet (sym p.1) (sends_quiet p.0 ms s q)
    ]

pub passed_quiet : (m : Map) (s : Session) → IsQuiet s → IsQuiet (passed m s)
unfolding passed
passed_quiet m s q =
    elim (may_send s) as (λ b. IsQuiet (cond b
    (told (map Carries (difference s.near.sent m)) (record s { near = record s.near { sent = m } })) s)) [
      | true ↦ told_quiet (map Carries (difference s.near.sent m)) (record s { near = record s.near { sent = m } }) (λ e. q e)
      | false ↦ q
    ]

pub opened_quiet : (s : Session) → IsQuiet (opened s)
unfolding opened
opened_quiet s =
    told_quiet (greeting s ∷ []) (record { is_down = false; near = record s.near { phase = Opened }; far = s.far })
    (λ e. absurd (true≢false (sym e)))
