-- A break is set at one end of a session, and those that were not met are removed at every end.
use Rattle.std.specs.Prelude.{◌≡◌, ◌≢◌, ◌<◌, ℕ, zero, suc, List, [], ◌∷◌, map, length, take, Bool, true, false, cond, is_some, not}
use Rattle.std.specs.List.{slice_set}
use Rattle.std.specs.Option.{option_map}
use Rattle.std.specs.declared.option.Option.{Option}
use Rattle.std.specs.declared.option.Option.TheVariants.{Some}
use Rattle.std.proofs.lemmas.List.{get_or-set_same}
use Rattle.std.proofs.lemmas.Option.{none-some}
use Rattle.std.proofs.Common.{refl, sym, ◌∙◌, ap, subst}
use Rattle.ov_link.specs.Breaks.{with_break}
use Rattle.schedule_script.specs.declared.answer.Answer.TheVariants.{Did, Idle}
use Rattle.machine_laws.specs.MachineModel.Setup.{Name}
use Rattle.machine_laws.specs.MachineModel.Session.{Session, turned}
use Rattle.machine_laws.specs.MachineModel.Network.{MachineState}
use Rattle.machine_laws.specs.MachineModel.Steps.{change_session, joins, session_in, session_of, without_breaks}
use Rattle.machine_laws.specs.MachineModel.Events.{Break, add_break, answer_to, next, unless}
use Rattle.machine_laws.proofs.MachineModel.Idle.{idle_same}
use Rattle.running_nodes.specs.Seats.{Seat, breaks_at, kept_in, link, seat}
use Rattle.running_nodes.specs.Steps.{unbroken as unbroken_seat, with_break_at}
use Rattle.running_nodes.specs.Stands.{IsEnd, IsLong, IsVacant, KeepsPart, Seats, StandsFor, first_of, message_size}
use Rattle.running_nodes.specs.declared.place.SessionPlace.{SessionPlace}
use Rattle.running_laws.specs.Moments.{IsMoment, unbroken}
use Rattle.running_laws.specs.Wiring.{IsPlace, name_at, other_at}
use Rattle.running_laws.specs.Asking.{AreAt}
use Rattle.running_laws.specs.Breaking.{BreaksAreRemoved, BreaksAreSet, NothingIsBroken}
use Rattle.running_laws.proofs.AtMoments.{moment_right, stands_at}
use Rattle.running_laws.proofs.Building.{AllBut, IsPart, SameEnd, fit_but, has_end, long_again, moved, part_at, part_of, part_same, put_but}
use Rattle.running_laws.proofs.Building.{seats_by_places, stored_breaks}
use Rattle.running_laws.proofs.Changing.{changes_at}
use Rattle.running_laws.proofs.Facts.{Facts, IsRight}
use Rattle.running_laws.proofs.Here.{Here, here, part_here}
use Rattle.running_laws.proofs.Lists.{AreAlike, AreVacant, EndAt, same_far_of, same_long, same_other, same_place, same_who, seat_here}
use Rattle.running_laws.proofs.Lists.{seats_fit}
use Rattle.running_laws.proofs.Started.{all_alike, all_long}

-- ---- one that is set
module _ (facts : Facts) (seats : List Seat) (w : MachineState) (moment : IsMoment w) (stands : Seats seats w) where
  abbrev right : IsRight w
  right = moment_right facts.moments w moment

  module _ (p : SessionPlace) (is : IsPlace seats p) (n : ℕ) where
    abbrev at : Here seats w p
    at = here facts.wired seats w right stands p is

    abbrev q : SessionPlace
    q = at.far.far

    abbrev s : Session
    s = at.session

    not_far : q ≢ p
    not_far e = at.apart (ap (name_at seats) (sym e) ∙ at.far.name)

    abbrev near_seat : Seat
    near_seat = record (seat seats p.node) {
      breaks = slice_set (seat seats p.node).breaks p.session (with_break n (breaks_at seats p));
    }

    abbrev after : List Seat
    after = with_break_at p n seats

    near_seat_is : seat after p.node ≡ near_seat
    near_seat_is = seat_here p.node near_seat seats is.node

    but : AllBut seats after p
    but =
        put_but seats p near_seat is.node
        (stored_breaks (seat seats p.node) p.session (with_break n (breaks_at seats p)))

    far_same : SameEnd (seat seats q.node) (seat after q.node) q.session
    far_same = but.ends q not_far

    near_end : IsEnd (seat after p.node) p.session (add_break n s)
    near_end =
        subst (λ m. IsEnd m p.session (add_break n s)) (sym near_seat_is)
        (record {
          phase = at.near_is.phase;
          sent = at.near_is.sent;
          held = at.near_is.held;
          notice = at.near_is.notice;
          flight = at.near_is.flight;
          breaks = ap (with_break n) at.near_is.breaks
              ∙ sym
              (get_or-set_same (seat seats p.node).breaks p.session (with_break n (breaks_at seats p)) []
              (subst (λ m. p.session < m) (sym (stands.long p.node is.node).breaks) is.session));
          taken = at.near_is.taken;
        })

    far_end : IsEnd (seat after q.node) q.session (turned (add_break n s))
    far_end =
        moved (seat seats q.node) (seat after q.node) q.session (turned s) (turned (add_break n s))
        (same_who seats after but.alike q.node) far_same refl refl refl at.far_is

    near_part : KeepsPart after p
    near_part =
        let part = part_at seats p q at.far.found (part_here facts.wired seats w right stands p is) in
        part_of after p q (same_far_of seats after but.alike p ∙ at.far.found)
        (subst (λ m. IsPart m p.session (seat after q.node) q.session) (sym near_seat_is)
        (λ quiet. part quiet ∙ ap (λ l. take (length (kept_in (seat seats p.node) p.session)) (first_of l)) (sym far_same.link)))

    far_part : KeepsPart after q
    far_part =
        part_of after q p (same_far_of seats after but.alike q ∙ at.far.back)
        (part_same (seat seats q.node) (seat after q.node) q.session (seat seats p.node) (seat after p.node) p.session
        far_same (ap (λ m. link m p.session) near_seat_is)
        (part_at seats q p at.far.back (part_here facts.wired seats w right stands q at.far.is_place)))

    pub broken_seats : Seats after (change_session (name_at seats p) (other_at seats p) (add_break n) w)
    broken_seats =
        changes_at facts.wired seats w right stands after p is at (add_break n) (λ s. refl) but.alike
        (fit_but seats after p is but (seats_fit seats w stands))
        near_end far_end (λ r _ not_p _. but.ends r not_p) near_part far_part

  set_at : (a b : Name) (n : ℕ) (s : Session) → session_of w a b ≡ Some s
      → (next message_size w (Break a b n) ≡ change_session a b (add_break n) w) × (answer_to w (Break a b n) ≡ Did)
  unfolding next
  set_at a b n s found = (refl, ap (λ (o : Option Session). unless (not (is_some o))) found)

  pub break_set : (a b : Name) (p far : SessionPlace) → AreAt seats a b p far → (n : ℕ)
      → StandsFor (with_break_at p n seats) (next message_size w (Break a b n))
      × IsMoment (next message_size w (Break a b n)) × (answer_to w (Break a b n) ≡ Did)
  break_set a b p far are n =
      let place = facts.wired.place_is w.setup seats a b p right.written right.numbers stands.who are.0 in
      let h = here facts.wired seats w right stands p place.is_place in
      let step = set_at a b n h.session ((λ i. session_of w (sym place.name i) (sym place.other i)) ∙ h.found) in
      let later = facts.moments.after w (Break a b n) moment tt in (
        stands_at (with_break_at p n seats) (next message_size w (Break a b n)) later
            (subst (Seats (with_break_at p n seats))
            ((λ i. change_session (place.name i) (place.other i) (add_break n) w) ∙ sym step.0)
            (broken_seats p place.is_place n)),
        later,
        step.1,
      )

pub breaks_are_set : Facts → BreaksAreSet
breaks_are_set facts seats w moment stands a b p far are n above =
    break_set facts seats w moment stands.seats_are a b p far are n

pub nothing_is_broken : Facts → NothingIsBroken
nothing_is_broken facts seats w moment stands a b none n =
    let right = moment_right facts.moments w moment in
    let idle : answer_to w (Break a b n) ≡ Idle =
    ap (λ (o : Option Session). unless (not (is_some o)))
    (facts.wired.none w seats a b right.written right.numbers right.sessions stands.seats_are.who none)
    in
    (idle_same message_size w (Break a b n) idle, idle)

-- ---- all that were not met are removed
unbroken_in : (ss : List Session) (a b : Name) (s : Session) → session_in ss a b ≡ Some s
    → session_in (map without_breaks ss) a b ≡ Some (without_breaks s)
unbroken_in [] a b s e = absurd (none-some s e)
unbroken_in (t ∷ ts) a b s e = by_tests (joins a b t) (joins b a t) e (unbroken_in ts a b s)
  where
    by_tests : (c d : Bool) → cond c (Some t) (cond d (Some (turned t)) (session_in ts a b)) ≡ Some s
        → (session_in ts a b ≡ Some s → session_in (map without_breaks ts) a b ≡ Some (without_breaks s))
        → cond c (Some (without_breaks t))
        (cond d (Some (turned (without_breaks t))) (session_in (map without_breaks ts) a b))
        ≡ Some (without_breaks s)
    by_tests true d e rest = ap (option_map without_breaks) e
    by_tests false true e rest = ap (option_map without_breaks) e
    by_tests false false e rest = rest e

unbroken_at : (seats : List Seat) (k : ℕ) → seat (map unbroken_seat seats) k ≡ unbroken_seat (seat seats k)
unbroken_at [] k = refl
unbroken_at (n ∷ seats) zero = refl
unbroken_at (n ∷ seats) (suc k) = unbroken_at seats k

unbroken_alike : (seats : List Seat) → AreAlike seats (map unbroken_seat seats)
unbroken_alike [] = refl
unbroken_alike (n ∷ seats) = ap (λ whos. n.who ∷ whos) (unbroken_alike seats)

unbroken_end : (n : Seat) (i : ℕ) (s : Session) → IsEnd n i s → IsEnd (unbroken_seat n) i (without_breaks s)
unbroken_end n i s is = record {
  phase = is.phase;
  sent = is.sent;
  held = is.held;
  notice = is.notice;
  flight = is.flight;
  breaks = sym (all_alike [] n.breaks i);
  taken = is.taken;
}

module _ (facts : Facts) (seats : List Seat) (w : MachineState) (moment : IsMoment w) (stands : Seats seats w) where
  abbrev calm : IsRight w
  calm = moment_right facts.moments w moment

  abbrev unbroken_now : List Seat
  unbroken_now = map unbroken_seat seats

  alike : AreAlike seats unbroken_now
  alike = unbroken_alike seats

  after_long : (k : ℕ) → k < length unbroken_now → IsLong (seat unbroken_now k)
  after_long k lt =
      let n = seat seats k in
      subst IsLong (sym (unbroken_at seats k))
      (long_again n (unbroken_seat n) refl refl refl refl (all_long [] n.breaks) refl
      (stands.long k (subst (λ m. k < m) (same_long seats unbroken_now alike) lt)))

  after_vacant : AreVacant unbroken_now
  after_vacant p none =
      let v = (seats_fit seats w stands).vacant p (sym (same_other seats unbroken_now alike p) ∙ none) in
      subst (λ n. IsVacant n p.session) (sym (unbroken_at seats p.node))
      (record {
        post = v.post;
        kept = v.kept;
        link = v.link;
        breaks = all_alike [] (seat seats p.node).breaks p.session;
        notice = v.notice;
      })

  after_end : (p : SessionPlace) → IsPlace seats p → EndAt (unbroken w) unbroken_now p
  after_end p is =
      let h = here facts.wired seats w calm stands p is in
      has_end seats unbroken_now (unbroken w) p (without_breaks h.session) alike
      (unbroken_in w.sessions (name_at seats p) (other_at seats p) h.session h.found)
      (subst (λ n. IsEnd n p.session (without_breaks h.session)) (sym (unbroken_at seats p.node))
      (unbroken_end (seat seats p.node) p.session h.session h.near_is))

  after_part : (p : SessionPlace) → IsPlace seats p → KeepsPart unbroken_now p
  after_part p is =
      let h = here facts.wired seats w calm stands p is in
      let q = h.far.far in
      let part = part_at seats p q h.far.found (part_here facts.wired seats w calm stands p is) in
      part_of unbroken_now p q (same_far_of seats unbroken_now alike p ∙ h.far.found)
      (subst (λ n. IsPart n p.session (seat unbroken_now q.node) q.session) (sym (unbroken_at seats p.node))
      (subst (λ n. IsPart (unbroken_seat (seat seats p.node)) p.session n q.session) (sym (unbroken_at seats q.node)) part))

  pub unbroken_seats : Seats unbroken_now (unbroken w)
  unbroken_seats =
      seats_by_places unbroken_now (unbroken w) (alike ∙ stands.who) (record { long = after_long; vacant = after_vacant })
      (λ p is. after_end p (same_place seats unbroken_now alike p is)) (λ p is. after_part p (same_place seats unbroken_now alike p is))

pub breaks_are_removed : Facts → BreaksAreRemoved
breaks_are_removed facts seats w moment stands =
    let later = facts.moments.unbreaks w moment in
    (stands_at (map unbroken_seat seats) (unbroken w) later (unbroken_seats facts seats w moment stands.seats_are), later)
