-- A session where none was lost: it is not down, or it is new. A new one is empty, and deliveries and passes leave it so.
use Rattle.std.specs.Prelude.{◌≡◌, ◌⊎◌, List, [], Bool, true, false, map, cond}
use Rattle.std.specs.FinMap.{empty}
use Rattle.std.proofs.Common.{ap, inl, inr, subst, sym, ◌∙◌}
use Rattle.node_laws.specs.NodeModel.Maps.{Map, difference}
use Rattle.node_laws.specs.NodeModel.Step.{Idle, Phase}
use Rattle.machine_model.specs.Moments.{ArePositive}
use Rattle.machine_model.specs.Session.{Carries, Message, Session, SessionEnd, arrived, closed, is_peering, may_send, may_send_at, passed, told, took_first, turned}
use Rattle.machine_model.specs.Setup.{Name}
use Rattle.std.specs.Prelude.{ℕ}
use Rattle.machine_model.proofs.RoundFact.{IsCalm}
use Rattle.machine_moment_laws.proofs.Meeting.{calm_arrived, calm_passed, calm_turned}

pub record IsNewEnd (e : SessionEnd) : Type 0 where
  pub phase : e.phase ≡ Idle
  pub notice : e.notice ≡ false
  pub sent : e.sent ≡ empty
  pub held : e.held ≡ empty
  pub flight : e.flight ≡ []
  pub taken : e.taken ≡ 0
  pub breaks : e.breaks ≡ []

pub record IsNew (s : Session) : Type 0 where
  pub down : s.is_down ≡ true
  pub near : IsNewEnd s.near
  pub far : IsNewEnd s.far

pub new_turned : (s : Session) → IsNew s → IsNew (turned s)
new_turned s n = record { down = n.down; near = n.far; far = n.near }

pub new_arrived : (s : Session) → IsNew s → arrived s ≡ s
unfolding arrived
new_arrived s n =
    ap (λ b. cond b (record s { near = closed s.near }) (took_first s.far.flight s)) n.near.notice ∙ ap (λ (f : List Message). took_first f s) n.far.flight

pub idle_sends_nothing : (b : Bool) (p : Phase) → p ≡ Idle → may_send_at b p ≡ false
idle_sends_nothing true p e = ap (λ (p : Phase). may_send_at true p) e
idle_sends_nothing false p e = ap (λ (p : Phase). may_send_at false p) e

pub new_sends_nothing : (s : Session) → IsNew s → may_send s ≡ false
new_sends_nothing s n = idle_sends_nothing (is_peering s) s.near.phase n.near.phase

pub new_passed : (m : Map) (s : Session) → IsNew s → passed m s ≡ s
unfolding passed
new_passed m s n =
    ap (λ b. cond b (told (map Carries (difference s.near.sent m)) (record s { near = record s.near { sent = m } })) s) (new_sends_nothing s n)

module _ (size : Name → Message → ℕ) (positive : ArePositive size) where
  abbrev pub IsEasy : Session → Type 0
  IsEasy s = IsCalm size positive s ⊎ IsNew s

  pub easy_turned : (s : Session) → IsEasy s → IsEasy (turned s)
  easy_turned s (inl c) = inl (calm_turned size positive s c)
  easy_turned s (inr n) = inr (new_turned s n)

  pub easy_arrived : (s : Session) → IsEasy s → IsEasy (arrived s)
  easy_arrived s (inl c) = inl (calm_arrived size positive s c)
  easy_arrived s (inr n) = inr (subst IsNew (sym (new_arrived s n)) n)

  pub easy_passed : (m : Map) (s : Session) → IsEasy s → IsEasy (passed m s)
  easy_passed m s (inl c) = inl (calm_passed size positive m s c)
  easy_passed m s (inr n) = inr (subst IsNew (sym (new_passed m s n)) n)

  -- no notice waits there
  pub easy_near : (s : Session) → IsEasy s → s.near.notice ≡ false
  easy_near s (inl c) = c.0.near_notice
  easy_near s (inr n) = n.near.notice

  pub easy_far : (s : Session) → IsEasy s → s.far.notice ≡ false
  easy_far s (inl c) = c.0.far_notice
  easy_far s (inr n) = n.far.notice
