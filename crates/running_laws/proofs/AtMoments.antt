-- What holds at a moment: of its sessions, and of a session that is found.
use Rattle.std.specs.Prelude.{◌≡◌, ℕ, List, [], length, Bool, true, false, not, ◌&&◌, cond}
use Rattle.std.specs.declared.option.Option.TheVariants.{Some}
use Rattle.std.proofs.Common.{refl, sym, ◌∙◌, ap, inl, inr}
use Rattle.std.proofs.lemmas.Bool.{true≢false}
use Rattle.std.proofs.lemmas.List.{nil_from_length}
use Rattle.machine_laws.specs.MachineModel.Setup.{Name}
use Rattle.machine_laws.specs.MachineModel.Session.{Session, is_idle, is_live, is_peering}
use Rattle.machine_laws.specs.MachineModel.Network.{MachineState}
use Rattle.machine_laws.specs.MachineModel.Steps.{session_of}
use Rattle.machine_laws.specs.MachineModel.Moments.{Each, IsJoined}
use Rattle.machine_laws.proofs.MachineModel.EveryMoment.{joined_is}
use Rattle.machine_laws.proofs.MachineModel.NetworkFact.{found}
use Rattle.machine_laws.proofs.MachineModel.SessionFact.{Down, Fact, Fact-turned, live_receiver}
use Rattle.machine_laws.proofs.MachineModel.Twins.{each_weaker}
use Rattle.running_nodes.specs.Seats.{Seat, kept_in}
use Rattle.running_nodes.specs.Stands.{IsDownWhere, IsEnd, Seats, StandsFor, message_size, is_whole_end}
use Rattle.running_nodes.specs.Telling.{CanBeHeard}
use Rattle.running_laws.specs.Moments.{IsMoment}
pub use Rattle.running_laws.proofs.Moments.{IsSound, moment_sound}
use Rattle.running_laws.proofs.Facts.{IsRight, Moments}
use Rattle.running_laws.proofs.Quiet.{IsQuiet, quiet_of}

pub moment_right : Moments → (w : MachineState) → IsMoment w → IsRight w
moment_right moments w m = record {
  written = moments.written w m;
  numbers = moments.numbers w m;
  sessions = moments.sessions w m;
  quiet = each_weaker (Fact message_size) IsQuiet (quiet_of message_size) w.sessions (moment_sound w m);
}

-- ---- a session is down exactly where an end is not whole
none_whole : (b : Bool) → (b && not b) ≡ false
none_whole true = refl
none_whole false = refl

pub down_where : (s : Session) → Fact message_size s → IsDownWhere s
down_where s (inl j) =
    let near : is_idle s.near.phase ≡ false = live_receiver (is_peering s) s.near.phase s.far.phase j.inward.phases in
    let far : is_idle s.far.phase ≡ false = live_receiver (is_peering s) s.far.phase s.near.phase j.outward.phases in
    j.whole
    ∙ (λ i. not ((not (sym near i) && not (sym j.near_notice i)) && (not (sym far i) && not (sym j.far_notice i))))
down_where s (inr d) =
    d.down
    ∙ sym
    (ap (λ b. not ((is_live s.near && not b) && is_whole_end s.far)) d.near.notice
    ∙ ap (λ b. not (b && is_whole_end s.far)) (none_whole (is_live s.near)))

pub all_down_where : (w : MachineState) → IsSound w → Each IsDownWhere w.sessions
all_down_where w sound = each_weaker (Fact message_size) IsDownWhere down_where w.sessions sound

pub all_quiet : (w : MachineState) → IsSound w → Each IsQuiet w.sessions
all_quiet w sound = each_weaker (Fact message_size) IsQuiet (quiet_of message_size) w.sessions sound

-- a moment's seats, by its ends alone
pub stands_at : (seats : List Seat) (w : MachineState) → IsMoment w → Seats seats w → StandsFor seats w
stands_at seats w m s = record { seats_are = s; down = all_down_where w (moment_sound w m) }

-- ---- an end that is not live
pub closed_down : (s : Session) → Fact message_size s → is_live s.near ≡ false → Down s
closed_down s (inl j) e =
    absurd (true≢false (ap not (sym (live_receiver (is_peering s) s.near.phase s.far.phase j.inward.phases)) ∙ e))
closed_down s (inr d) e = d

-- nothing is kept there
pub kept_closed : (n : Seat) (i : ℕ) (s : Session) → IsEnd n i s → Fact message_size s → is_live s.near ≡ false
    → kept_in n i ≡ []
kept_closed n i s is fact closed =
    let d = closed_down s fact closed in
    nil_from_length (kept_in n i)
    (sym (ap (λ b. cond b 0 (length (kept_in n i))) (sym is.notice ∙ d.near.notice ∙ closed)) ∙ sym is.taken ∙ d.far.taken)

-- ---- a session that is found at a moment
module _ (w : MachineState) (m : IsMoment w) (a b : Name) (s : Session) (is : session_of w a b ≡ Some s) where
  pub found_sound : Fact message_size s
  found_sound = found (Fact message_size) (Fact-turned message_size) w.sessions a b (moment_sound w m) s is

  pub found_joined : s.is_down ≡ false → IsJoined s
  found_joined = joined_is message_size s found_sound

  pub found_heard : Moments → CanBeHeard s
  found_heard moments =
      found CanBeHeard (λ s h. record { near = h.far; far = h.near }) w.sessions a b (moments.heard w m) s is
