-- What the ends of sessions are at a moment.
use Rattle.std.specs.Prelude.{◌≡◌, ◌&&◌, List, [], ◌∷◌, map, length, true, false, not, cond}
use Rattle.std.specs.declared.option.Option.{Option}
use Rattle.std.specs.declared.option.Option.TheVariants.{Some, None}
use Rattle.std.specs.List.{AllByRecursion}
use Rattle.std.proofs.Common.{refl, sym, ◌∙◌, ap, subst, inl, inr}
use Rattle.running_laws.specs.MachineLaws.Headline.{IsWritten}
use Rattle.running_laws.proofs.MachineLaws.Written.{sound_setup}
use Rattle.running_nodes.specs.MachineModel.Setup.{Name, checked}
use Rattle.running_nodes.specs.MachineModel.Session as session
use Rattle.running_nodes.specs.MachineModel.Session.{Session, is_idle, is_peering}
use Rattle.running_nodes.specs.MachineModel.Network.{MachineState}
use Rattle.running_nodes.specs.MachineModel.Steps as steps
use Rattle.running_nodes.specs.MachineModel.Steps.{session_of}
use Rattle.running_nodes.specs.MachineModel.Events as events
use Rattle.running_nodes.specs.MachineModel.Moments.{Each, nodes}
use Rattle.running_nodes.proofs.MachineModel.Apart.{no_twins}
use Rattle.running_nodes.proofs.MachineModel.NetworkFact.{found}
use Rattle.running_nodes.proofs.MachineModel.SessionFact.{Fact, Fact-turned, live_receiver}
use Rattle.running_nodes.proofs.MachineModel.Twins.{Found, NoTwins, found_each}
use Rattle.running_nodes.specs.Seats.{Seat, far_of, place_of, whole_at, whole_there}
use Rattle.running_nodes.specs.Stands.{StandsFor, message_size}
use Rattle.running_nodes.specs.declared.place.SessionPlace.{SessionPlace}
use Rattle.running_laws.specs.Moments.{IsMoment}
use Rattle.running_laws.proofs.Moments.{moment_numbers, moment_sessions, moment_sound, moment_written}
use Rattle.running_laws.specs.Wiring.{AreSeats, HasNumbers, HasSessions, IsFound}
use Rattle.running_laws.proofs.Written.{far_is, has_far, place_is, session_without_place, sessions_found}
use Rattle.running_laws.specs.Asking.{AreAt}
use Rattle.net_machine.specs.declared.ends.SessionEnds.{SessionEnds}
use Rattle.net_machine.specs.Seating.{ends_at, ends_from, ends_of, turned}
use Rattle.net_machine.proofs.Facts.{IsStood, SaysOf}
use Rattle.net_machine.proofs.Proved.{Proved}

-- ---- ends by their places
from_at : (seats : List Seat) (a b : Name) (p : SessionPlace) (o : Option SessionPlace) (e : SessionEnds) → place_of seats a b ≡ Some p
    → far_of seats p ≡ o → ends_from p o ≡ Some e → AreAt seats a b e.near e.far
from_at seats a b p None e is far found = cc
from_at seats a b p (Some q) e is far found =
    let same : record { near = p; far = q } ≡ e = cc in
    subst (λ (e : SessionEnds). AreAt seats a b e.near e.far) same (is, far)

pub ends_are_at : (seats : List Seat) (a b : Name) (e : SessionEnds) → ends_of seats a b ≡ Some e
    → AreAt seats a b e.near e.far
ends_are_at seats a b e found =
    elim (place_of seats a b) as (λ o. place_of seats a b ≡ o → ends_at seats o ≡ Some e → AreAt seats a b e.near e.far) [
      | None ↦ λ is h. cc
      | Some p ↦ λ is h. from_at seats a b p (far_of seats p) e is refl h
    ] refl found

pub at_are_ends : (seats : List Seat) (a b : Name) (p q : SessionPlace) → AreAt seats a b p q
    → ends_of seats a b ≡ Some (record { near = p; far = q })
at_are_ends seats a b p q at = ap (ends_at seats) at.0 ∙ ap (ends_from p) at.1

-- ---- a session that is down is one of which no end is live, or where a notice waits
pub fact_of : (w : MachineState) (a b : Name) (s : Session) → IsMoment w → session_of w a b ≡ Some s → Fact message_size s
fact_of w a b s m is = found (Fact message_size) (Fact-turned message_size) w.sessions a b (moment_sound w m) s is

-- the two ends are closed exactly where the session may be connected
closed_may : (s : Session) → Fact message_size s
    → (not (session.is_live s.near) && not (session.is_live s.far)) ≡ steps.may_connect s
closed_may s (inl j) =
    let near : is_idle s.near.phase ≡ false = live_receiver (is_peering s) s.near.phase s.far.phase j.inward.phases in
    ap (λ b. not (not b) && not (session.is_live s.far)) near
    ∙ sym (ap (λ b. b && (not s.near.notice && not s.far.notice)) j.whole)
closed_may s (inr d) =
    sym (ap (λ b. b && (not s.near.notice && not s.far.notice)) d.down
    ∙ (λ i. not (d.near.notice i) && not (d.far.notice i)))

pub closed_waits : (s : Session) → Fact message_size s → session.is_live s.near ≡ false → session.waiting s ≡ 0
closed_waits s (inl j) closed =
    let near : is_idle s.near.phase ≡ false = live_receiver (is_peering s) s.near.phase s.far.phase j.inward.phases in
    let live = sym (ap not near) ∙ closed in
    cc
closed_waits s (inr d) closed = (λ i. cond ((d.near.notice ∙ closed) i) 1 (length (d.far.flight i)))

module _ (p : Proved) (seats : List Seat) (w : MachineState) (m : IsMoment w) (st : StandsFor seats w) where
  written : IsWritten w.setup
  written = moment_written w m

  numbers : HasNumbers w.setup
  numbers = moment_numbers w m

  has : HasSessions w
  has = moment_sessions w m

  are : AreSeats w.setup seats
  are = st.seats_are.who

  pub says_of : (a b : Name) (e : SessionEnds) → ends_of seats a b ≡ Some e → SaysOf seats w a b e
  says_of a b e is =
      let at = ends_are_at seats a b e is in
      let s = p.say seats w m st a b e.near e.far at in
      let near = s.2 in
      let far = s.3 in
      record {
        session = s.0;
        found = s.1;
        says = record {
          waits = near.waiting;
          waits_back = far.waiting;
          has_notice = near.notice;
          down = ap (λ o. not (whole_at seats e.near && whole_there seats o)) (sym at.1) ∙ near.down;
          may = (λ i. not (near.live i) && not (far.live i)) ∙ closed_may s.0 (fact_of w a b s.0 m s.1);
          rests = near.is_rested;
        };
      }

  -- ---- as the other end sees it
  pub ends_turn : (a b : Name) (e : SessionEnds) → ends_of seats a b ≡ Some e → ends_of seats b a ≡ Some (turned e)
  ends_turn a b e is =
      let at = ends_are_at seats a b e is in
      let back : place_of seats b a ≡ Some e.far = sym (far_is w.setup written numbers seats are a b e.near at.0) ∙ at.1 in
      at_are_ends seats b a e.far e.near (back, far_is w.setup written numbers seats are b a e.far back ∙ at.0)

  -- ---- where there is no place there is no session
  no_far : (a b : Name) (q : SessionPlace) → place_of seats a b ≡ Some q → ends_of seats a b ≡ None → ⊥
  no_far a b q is none =
      let far = has_far w.setup written numbers seats are q (place_is w.setup written numbers seats are a b q is).is_place in
      let some = sym none ∙ at_are_ends seats a b q far.far (is, far.found) in
      cc

  pub no_session_of : (a b : Name) → ends_of seats a b ≡ None → session_of w a b ≡ None
  no_session_of a b none =
      elim (place_of seats a b) as (λ o. place_of seats a b ≡ o → session_of w a b ≡ None) [
        | None ↦ λ is. session_without_place w written numbers seats are has a b is
        | Some q ↦ λ is. absurd (no_far a b q is none)
      ] refl

  -- ---- all sessions
  twins : NoTwins (map nodes w.sessions)
  twins = subst NoTwins (sym has) (no_twins (checked w.setup) (sound_setup w.setup written).named.apart)

  stood_all : (ss : List Session) → AllByRecursion (IsFound seats w) ss → Each (Found w.sessions) ss
      → AllByRecursion (λ s. events.is_earlier w.sessions s.near.name s.far.name ≡ true) ss
      → AllByRecursion (IsStood seats w) ss
  stood_all [] f g h = tt
  stood_all (s ∷ ss) f g h =
      let far = has_far w.setup written numbers seats are f.0.place f.0.is_place in (
        record {
          ends = record { near = f.0.place; far = far.far };
          are = at_are_ends seats s.near.name s.far.name f.0.place far.far (f.0.place_is, far.found);
          found = g.0.0;
          back = g.0.1;
          earlier = h.0;
        },
        stood_all ss f.1 g.1 h.1,
      )

  pub all_stood : AllByRecursion (IsStood seats w) w.sessions
  all_stood =
      stood_all w.sessions (sessions_found w written numbers seats are has) (found_each w.sessions twins) (p.near_earlier w m)
