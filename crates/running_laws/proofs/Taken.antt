-- The end that took messages in turn: the machine's session and the node's end agree.
use Rattle.std.specs.Prelude.{◌≡◌, ◌++◌, List, [], ◌∷◌, Bool, false}
use Rattle.std.specs.List.{AllByRecursion}
use Rattle.std.specs.Option.{unwrap_or}
use Rattle.std.proofs.Common.{refl, sym, ◌∙◌, ap, subst}
use Rattle.node_model.specs.Step.{Phase, Post}
use Rattle.machine_laws.specs.MachineModel.Session.{Message, Session, is_idle}
use Rattle.machine_laws.specs.MachineModel.Moments.{NoneGoesDown}
use Rattle.running_nodes.specs.Taking.{held_after, phase_after, took_all, took_one}
use Rattle.running_laws.proofs.Arriving.{live_after, unanswered}
use Rattle.running_laws.proofs.Sent.{taking_session}

-- ---- of messages in turn, the first ones
pub first_pass : (b : Bool) (phase : Phase) (ms rest : List Message) → NoneGoesDown b phase (ms ++ rest)
    → NoneGoesDown b phase ms
first_pass b phase [] rest h = tt
first_pass b phase (m ∷ ms) rest h = (h.0, h.1, first_pass b h.0 ms rest h.2)

pub all_first : {A : Type 0} (P : A → Type 0) (xs ys : List A) → AllByRecursion P (xs ++ ys) → AllByRecursion P xs
all_first P [] ys h = tt
all_first P (x ∷ xs) ys h = (h.0, all_first P xs ys h.1)

pub all_rest : {A : Type 0} (P : A → Type 0) (xs ys : List A) → AllByRecursion P (xs ++ ys) → AllByRecursion P ys
all_rest P [] ys h = h
all_rest P (x ∷ xs) ys h = all_rest P xs ys h.1

-- ---- what the node's end is by the session
pub record TookSame (s : Session) (p : Post) : Type 0 where
  pub phase : s.near.phase ≡ p.phase
  pub sent : s.near.sent ≡ p.sent
  pub held : s.near.held ≡ p.held

pub took_same : (b : Bool) (ms : List Message) (s : Session) (p : Post) → TookSame s p
    → TookSame (unanswered b ms s) (took_all b p ms)
took_same b [] s p same = same
took_same b (m ∷ ms) s p same =
    took_same b ms (taking_session m (phase_after b s.near.phase m) s) (took_one b p m)
    (record {
      phase = ap (λ q. phase_after b q m) same.phase;
      sent = same.sent;
      held = ap (held_after m) same.held;
    })

-- ---- what stays
pub record OnlyTook (s t : Session) : Type 0 where
  pub down : t.is_down ≡ s.is_down
  pub far : t.far ≡ s.far
  pub role : t.near.role ≡ s.near.role
  pub notice : t.near.notice ≡ s.near.notice
  pub flight : t.near.flight ≡ s.near.flight
  pub taken : t.near.taken ≡ s.near.taken
  pub breaks : t.near.breaks ≡ s.near.breaks

pub only_took : (b : Bool) (ms : List Message) (s : Session) → OnlyTook s (unanswered b ms s)
only_took b [] s = record {
  down = refl;
  far = refl;
  role = refl;
  notice = refl;
  flight = refl;
  taken = refl;
  breaks = refl;
}
only_took b (m ∷ ms) s =
    let later = only_took b ms (taking_session m (phase_after b s.near.phase m) s) in
    record {
      down = later.down;
      far = later.far;
      role = later.role;
      notice = later.notice;
      flight = later.flight;
      taken = later.taken;
      breaks = later.breaks;
    }

-- it is live as before
pub live_still : (b : Bool) (ms : List Message) (s : Session) → is_idle s.near.phase ≡ false → NoneGoesDown b s.near.phase ms
    → is_idle (unanswered b ms s).near.phase ≡ false
live_still b [] s live passing = live
live_still b (m ∷ ms) s live passing =
    let next : phase_after b s.near.phase m ≡ passing.0 = ap (λ o. unwrap_or o s.near.phase) passing.1 in
    live_still b ms (taking_session m (phase_after b s.near.phase m) s)
    (ap is_idle next ∙ live_after b s.near.phase m passing.0 live passing.1)
    (subst (λ q. NoneGoesDown b q ms) (sym next) passing.2)
