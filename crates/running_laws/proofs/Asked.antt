-- The ends of a session say at their places what the session is.
use Rattle.std.specs.Prelude.{◌≡◌, List, length, not, ◌&&◌, ◌==◌, cond}
use Rattle.std.specs.declared.option.Option.TheVariants.{Some}
use Rattle.std.proofs.lemmas.List.{length-map}
use Rattle.std.proofs.lemmas.Option.{same_Some}
use Rattle.std.proofs.Common.{refl, sym, ◌∙◌, ap, subst}
use Rattle.machine_laws.specs.MachineModel.Setup.{Name}
use Rattle.machine_laws.specs.MachineModel.Session.{Session, is_idle, is_peering, is_up_phase, turned}
use Rattle.machine_laws.specs.MachineModel.Network.{MachineState}
use Rattle.machine_laws.specs.MachineModel.Steps.{session_of}
use Rattle.running_nodes.specs.Seats.{Seat, is_down_at, link_at, seat}
use Rattle.running_nodes.specs.Stands.{IsEnd, Seats, octets_of}
use Rattle.running_nodes.specs.declared.place.SessionPlace.{SessionPlace}
use Rattle.running_laws.specs.Moments.{IsMoment}
use Rattle.running_laws.specs.Wiring.{IsPlace, name_at, other_at}
use Rattle.running_laws.specs.Asking.{AreAt, NoPlaceIsNoSession, PlacesSayWhatSessionsAre, SaysAt}
use Rattle.running_laws.proofs.AtMoments.{down_where, found_sound, moment_right}
use Rattle.running_laws.proofs.Down.{down_is}
use Rattle.running_laws.proofs.Facts.{Facts, IsRight}
use Rattle.running_laws.proofs.Here.{Here, here}

-- ---- one end
says : (seats : List Seat) (p far : SessionPlace) (s : Session) → IsEnd (seat seats p.node) p.session s
    → IsEnd (seat seats far.node) far.session (turned s) → is_down_at seats p ≡ s.is_down → SaysAt seats p far s
says seats p far s near there down = record {
  live = λ j. not (is_idle (sym near.phase j));
  up = λ j. is_up_phase (sym near.phase j);
  notice = sym near.notice;
  sent = sent seats p s near;
  down = down;
  waiting = λ j. cond (sym near.notice j) 1 (sent seats far (turned s) there j);
  may_connect = λ j. down j && (not (sym near.notice j) && not (sym there.notice j));
  is_rested = λ j. is_up_phase (sym near.phase j) && is_up_phase (sym there.phase j)
      && (cond (sym near.notice j) 1 (sent seats far (turned s) there j) == 0)
      && (cond (sym there.notice j) 1 (sent seats p s near j) == 0);
}
  where
    sent : (seats : List Seat) (p : SessionPlace) (s : Session) → IsEnd (seat seats p.node) p.session s
        → length (link_at seats p) ≡ length s.near.flight
    sent seats p s e = ap length e.flight ∙ length-map s.near.flight (octets_of (seat seats p.node).who (is_peering s))

-- the place of two names, where the seats stand for a moment
pub record AtNames (seats : List Seat) (w : MachineState) (a b : Name) (p far : SessionPlace) : Type 0 where
  pub is_place : IsPlace seats p
  pub name : name_at seats p ≡ a
  pub other : other_at seats p ≡ b
  pub here_is : Here seats w p
  pub far_is : here_is.far.far ≡ far

module _ (facts : Facts) (seats : List Seat) (w : MachineState) (moment : IsMoment w) (stands : Seats seats w) where
  abbrev right : IsRight w
  right = moment_right facts.moments w moment

  pub at_names : (a b : Name) (p far : SessionPlace) → AreAt seats a b p far → AtNames seats w a b p far
  at_names a b p far are =
      let place = facts.wired.place_is w.setup seats a b p right.written right.numbers stands.who are.0 in
      let at = here facts.wired seats w right stands p place.is_place in
      record {
        is_place = place.is_place;
        name = place.name;
        other = place.other;
        here_is = at;
        far_is = same_Some at.far.far far (sym at.far.found ∙ are.1);
      }

  -- ---- is it down
  pub down_here : (p : SessionPlace) → IsPlace seats p → (h : Here seats w p) → is_down_at seats p ≡ h.session.is_down
  down_here p is h =
      down_is facts.wired seats w right stands seats refl (λ _ _. refl) p is h
      (down_where h.session (found_sound w moment (name_at seats p) (other_at seats p) h.session h.found))

  down_there : (p : SessionPlace) (h : Here seats w p) → is_down_at seats h.far.far ≡ h.session.is_down
  down_there p h =
      let there = here facts.wired seats w right stands h.far.far h.far.is_place in
      down_here h.far.far h.far.is_place there
      ∙ ap (λ (s : Session). s.is_down)
      (same_Some there.session (turned h.session)
      (sym there.found ∙ (λ i. session_of w (h.far.name i) (h.far.other i)) ∙ h.far_found))

  pub places_say : (a b : Name) (p far : SessionPlace) → AreAt seats a b p far
      → (s : Session) × (session_of w a b ≡ Some s) × SaysAt seats p far s × SaysAt seats far p (turned s)
  places_say a b p far are =
      let at = at_names a b p far are in
      let h = at.here_is in (
        h.session,
        (λ i. session_of w (sym at.name i) (sym at.other i)) ∙ h.found,
        subst (λ far. SaysAt seats p far h.session) at.far_is
            (says seats p h.far.far h.session h.near_is h.far_is (down_here p at.is_place h)),
        subst (λ far. SaysAt seats far p (turned h.session)) at.far_is
            (says seats h.far.far p (turned h.session) h.far_is h.near_is (down_there p h)),
      )

pub sessions_said : Facts → PlacesSayWhatSessionsAre
sessions_said facts seats w moment stands = places_say facts seats w moment stands.seats_are

pub no_session : Facts → NoPlaceIsNoSession
no_session facts seats w moment stands a b none =
    let right = moment_right facts.moments w moment in
    facts.wired.none w seats a b right.written right.numbers right.sessions stands.seats_are.who none
