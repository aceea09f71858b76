-- A session is lost: notices wait at both of its ends, and nothing is in flight.
use Rattle.std.specs.Prelude.{◌≡◌, ◌≢◌, ◌<◌, ℕ, List, [], length, true, false, cond}
use Rattle.std.specs.List.{slice_index_or}
use Rattle.std.specs.Option.{option_map, unwrap_or}
use Rattle.std.specs.declared.option.Option.{Option}
use Rattle.std.specs.declared.option.Option.TheVariants.{Some, None}
use Rattle.std.proofs.lemmas.Bool.{true≢false}
use Rattle.std.proofs.lemmas.Option.{same_Some}
use Rattle.std.proofs.Common.{refl, sym, ◌∙◌, ap, subst}
use Rattle.schedule_script.specs.declared.answer.Answer.TheVariants.{Did, Idle}
use Rattle.machine_laws.specs.MachineModel.Setup.{Name}
use Rattle.machine_laws.specs.MachineModel.Session.{Session, lost, turned}
use Rattle.machine_laws.specs.MachineModel.Network.{MachineState}
use Rattle.machine_laws.specs.MachineModel.Steps.{change_session, session_of}
use Rattle.machine_laws.specs.MachineModel.Events.{Lose, answer_to, lose, next, unless}
use Rattle.running_nodes.specs.Seats.{Seat, is_down_at, link_at, notice_at, others_of, place_of, seat}
use Rattle.running_nodes.specs.Steps.{with_link, with_notice}
use Rattle.running_nodes.specs.Stands.{IsLong, Seats, StandsFor, message_size}
use Rattle.running_nodes.specs.declared.place.SessionPlace.{SessionPlace}
use Rattle.running_laws.specs.Moments.{IsMoment}
use Rattle.running_laws.specs.Wiring.{IsPlace, name_at, other_at}
use Rattle.running_laws.specs.Asking.{AreAt}
use Rattle.running_laws.specs.Losing.{LossesAreMade, NothingIsLost, cut}
use Rattle.running_laws.proofs.Asked.{down_here}
use Rattle.running_laws.proofs.AtMoments.{found_joined, moment_right, stands_at}
use Rattle.running_laws.proofs.Building.{AllBut, SameEnd, Stays, end_trans, fit_but, stays_trans}
use Rattle.running_laws.proofs.Changing.{changes_at}
use Rattle.running_laws.proofs.Facts.{Facts, IsRight}
use Rattle.running_laws.proofs.Here.{Here, here}
use Rattle.running_laws.proofs.Lists.{AreAlike, AreFit, same_long, same_place, same_who, seats_fit}
use Rattle.running_laws.proofs.Marks.{end_noticed, link_but, link_here, link_keeps, link_stays, notice_but, notice_here, notice_stays}

-- ---- the seats
module _ (seats : List Seat) (p q : SessionPlace) (apart : p ≢ q) (lt : p.node < length seats) (lt' : q.node < length seats)
    (long : (k : ℕ) → k < length seats → IsLong (seat seats k)) (within : p.session < length (others_of (seat seats p.node).who))
    (within' : q.session < length (others_of (seat seats q.node).who)) where
  abbrev s1 : List Seat
  s1 = with_notice p true seats

  abbrev s2 : List Seat
  s2 = with_notice q true s1

  abbrev s3 : List Seat
  s3 = with_link p [] s2

  but1 : AllBut seats s1 p
  but1 = notice_but seats p lt true

  in1 : (k : ℕ) → k < length seats → k < length s1
  in1 k less = subst (λ n. k < n) (sym (same_long seats s1 but1.alike)) less

  but2 : AllBut s1 s2 q
  but2 = notice_but s1 q (in1 q.node lt') true

  in2 : (k : ℕ) → k < length seats → k < length s2
  in2 k less = subst (λ n. k < n) (sym (same_long s1 s2 but2.alike)) (in1 k less)

  but3 : AllBut s2 s3 p
  but3 = link_but s2 p (in2 p.node lt) []

  in3 : (k : ℕ) → k < length seats → k < length s3
  in3 k less = subst (λ n. k < n) (sym (same_long s2 s3 but3.alike)) (in2 k less)

  but4 : AllBut s3 (cut p q seats) q
  but4 = link_but s3 q (in3 q.node lt') []

  pub cut_alike : AreAlike seats (cut p q seats)
  cut_alike = but4.alike ∙ but3.alike ∙ but2.alike ∙ but1.alike

  pub cut_fit : AreFit seats → IsPlace seats p → IsPlace seats q → AreFit (cut p q seats)
  cut_fit fit is is_q =
      fit_but s3 (cut p q seats) q (same_place s3 seats (sym (but3.alike ∙ but2.alike ∙ but1.alike)) q is_q) but4
      (fit_but s2 s3 p (same_place s2 seats (sym (but2.alike ∙ but1.alike)) p is) but3
      (fit_but s1 s2 q (same_place s1 seats (sym but1.alike) q is_q) but2 (fit_but seats s1 p is but1 fit)))

  pub cut_elsewhere : (r : SessionPlace) → r ≢ p → r ≢ q → SameEnd (seat seats r.node) (seat (cut p q seats) r.node) r.session
  cut_elsewhere r not_p not_q =
      end_trans (seat seats r.node) (seat s2 r.node) (seat (cut p q seats) r.node) r.session
      (end_trans (seat seats r.node) (seat s1 r.node) (seat s2 r.node) r.session (but1.ends r not_p) (but2.ends r not_q))
      (end_trans (seat s2 r.node) (seat s3 r.node) (seat (cut p q seats) r.node) r.session (but3.ends r not_p) (but4.ends r not_q))

  pub cut_stays : (r : SessionPlace) → Stays (seat seats r.node) (seat (cut p q seats) r.node) r.session
  cut_stays r =
      stays_trans (seat seats r.node) (seat s2 r.node) (seat (cut p q seats) r.node) r.session
      (stays_trans (seat seats r.node) (seat s1 r.node) (seat s2 r.node) r.session
      (notice_stays seats p lt true r) (notice_stays s1 q (in1 q.node lt') true r))
      (stays_trans (seat s2 r.node) (seat s3 r.node) (seat (cut p q seats) r.node) r.session
      (link_stays s2 p (in2 p.node lt) [] r) (link_stays s3 q (in3 q.node lt') [] r))

  cut_notices : (j : ℕ) → (seat (cut p q seats) j).notices ≡ (seat s2 j).notices
  cut_notices j = (link_keeps s3 q (in3 q.node lt') [] j).1 ∙ (link_keeps s2 p (in2 p.node lt) [] j).1

  pub near_notice : notice_at (cut p q seats) p ≡ true
  near_notice =
      ap (λ bs. slice_index_or bs p.session false) (cut_notices p.node)
      ∙ (but2.ends p apart).notice
      ∙ notice_here seats p lt true (subst (λ n. p.session < n) (sym (long p.node lt).notices) within)

  pub far_notice : notice_at (cut p q seats) q ≡ true
  far_notice =
      let l = but1.long long q.node (in1 q.node lt') in
      ap (λ bs. slice_index_or bs q.session false) (cut_notices q.node)
      ∙ notice_here s1 q (in1 q.node lt') true
      (subst (λ n. q.session < n) (sym l.notices) (subst (λ x. q.session < length (others_of x)) (sym (same_who seats s1 but1.alike q.node)) within'))

  pub near_link : link_at (cut p q seats) p ≡ []
  near_link =
      let l = but2.long (but1.long long) p.node (in2 p.node lt) in
      (but4.ends p apart).link
      ∙ link_here s2 p (in2 p.node lt) []
      (subst (λ n. p.session < n) (sym l.links) (subst (λ x. p.session < length (others_of x)) (sym (same_who seats s2 (but2.alike ∙ but1.alike) p.node)) within))

  pub far_link : link_at (cut p q seats) q ≡ []
  far_link =
      let l = but3.long (but2.long (but1.long long)) q.node (in3 q.node lt') in
      link_here s3 q (in3 q.node lt') []
      (subst (λ n. q.session < n) (sym l.links) (subst (λ x. q.session < length (others_of x)) (sym (same_who seats s3 (but3.alike ∙ but2.alike ∙ but1.alike) q.node)) within'))

-- ---- the theorem
module _ (facts : Facts) (seats : List Seat) (w : MachineState) (moment : IsMoment w) (stands : Seats seats w) where
  abbrev right : IsRight w
  right = moment_right facts.moments w moment

  module _ (p : SessionPlace) (is : IsPlace seats p) where
    abbrev at : Here seats w p
    at = here facts.wired seats w right stands p is

    abbrev q : SessionPlace
    q = at.far.far

    not_far : p ≢ q
    not_far e = at.apart (ap (name_at seats) e ∙ at.far.name)

    pub lost_seats : at.session.is_down ≡ false → Seats (cut p q seats) (change_session (name_at seats p) (other_at seats p) lost w)
    lost_seats whole =
        let joined = found_joined w moment (name_at seats p) (other_at seats p) at.session at.found whole in
        let lt = is.node in
        let lt' = at.far.is_place.node in
        let fit = seats_fit seats w stands in
        let long = fit.long in
        let within = is.session in
        let within' = at.far.is_place.session in
        let near_waits = near_notice seats p q not_far lt lt' long within within' in
        let far_waits = far_notice seats p q not_far lt lt' long within within' in
        changes_at facts.wired seats w right stands (cut p q seats) p is at lost (λ s. refl)
        (cut_alike seats p q not_far lt lt' long within within') (cut_fit seats p q not_far lt lt' long within within' fit is at.far.is_place)
        (end_noticed (seat seats p.node) (seat (cut p q seats) p.node) p.session at.session (lost at.session)
        (cut_stays seats p q not_far lt lt' long within within' p) (near_waits ∙ sym joined.near_live)
        (near_link seats p q not_far lt lt' long within within') refl refl
        (λ e. absurd (true≢false (sym joined.near_live ∙ e))) at.near_is)
        (end_noticed (seat seats q.node) (seat (cut p q seats) q.node) q.session (turned at.session) (turned (lost at.session))
        (cut_stays seats p q not_far lt lt' long within within' q) (far_waits ∙ sym joined.far_live)
        (far_link seats p q not_far lt lt' long within within') refl refl
        (λ e. absurd (true≢false (sym joined.far_live ∙ e))) at.far_is)
        (λ r _ not_p not_q. cut_elsewhere seats p q not_far lt lt' long within within' r not_p not_q)
        (λ _ _ quiet. absurd (true≢false (sym near_waits ∙ quiet)))
        (λ _ _ quiet. absurd (true≢false (sym far_waits ∙ quiet)))

  lost_at : (a b : Name) (s : Session) → session_of w a b ≡ Some s → s.is_down ≡ false
      → (next message_size w (Lose a b) ≡ change_session a b lost w) × (answer_to w (Lose a b) ≡ Did)
  unfolding next
  lost_at a b s found whole = (
    ap (λ (o : Option Session). lose o a b w) found ∙ ap (λ c. cond c w (change_session a b lost w)) whole,
    ap (λ (o : Option Session). unless (unwrap_or (option_map (λ (s : Session). s.is_down) o) true)) found ∙ ap unless whole,
  )

  pub losses_made : (a b : Name) (p far : SessionPlace) → AreAt seats a b p far → is_down_at seats p ≡ false
      → StandsFor (cut p far seats) (next message_size w (Lose a b)) × IsMoment (next message_size w (Lose a b))
      × (answer_to w (Lose a b) ≡ Did)
  losses_made a b p far are whole =
      let place = facts.wired.place_is w.setup seats a b p right.written right.numbers stands.who are.0 in
      let h = here facts.wired seats w right stands p place.is_place in
      let far_is : h.far.far ≡ far = same_Some h.far.far far (sym h.far.found ∙ are.1) in
      let whole_is : h.session.is_down ≡ false = sym (down_here facts seats w moment stands p place.is_place h) ∙ whole in
      let step = lost_at a b h.session ((λ i. session_of w (sym place.name i) (sym place.other i)) ∙ h.found) whole_is in
      let later = facts.moments.after w (Lose a b) moment tt in (
        stands_at (cut p far seats) (next message_size w (Lose a b)) later
            (subst (λ far. Seats (cut p far seats) (next message_size w (Lose a b))) far_is
            (subst (Seats (cut p h.far.far seats)) ((λ i. change_session (place.name i) (place.other i) lost w) ∙ sym step.0)
            (lost_seats p place.is_place whole_is))),
        later,
        step.1,
      )

  not_lost : (a b : Name) → unwrap_or (option_map (λ (s : Session). s.is_down) (session_of w a b)) true ≡ true
      → (next message_size w (Lose a b) ≡ w) × (answer_to w (Lose a b) ≡ Idle)
  unfolding next
  not_lost a b down = (by_session (session_of w a b) down, ap unless down)
    where
      by_session : (o : Option Session) → unwrap_or (option_map (λ (s : Session). s.is_down) o) true ≡ true → lose o a b w ≡ w
      by_session None e = refl
      by_session (Some s) e = ap (λ c. cond c w (change_session a b lost w)) e

  broken_at : (a b : Name) (o : Option SessionPlace) → place_of seats a b ≡ o → ((p : SessionPlace) → place_of seats a b ≡ Some p → is_down_at seats p ≡ true)
      → unwrap_or (option_map (λ (s : Session). s.is_down) (session_of w a b)) true ≡ true
  broken_at a b None none down =
      ap (λ (o : Option Session). unwrap_or (option_map (λ (s : Session). s.is_down) o) true)
      (facts.wired.none w seats a b right.written right.numbers right.sessions stands.who none)
  broken_at a b (Some p) is down =
      let place = facts.wired.place_is w.setup seats a b p right.written right.numbers stands.who is in
      let h = here facts.wired seats w right stands p place.is_place in
      ap (λ (o : Option Session). unwrap_or (option_map (λ (s : Session). s.is_down) o) true)
      ((λ i. session_of w (sym place.name i) (sym place.other i)) ∙ h.found)
      ∙ sym (down_here facts seats w moment stands p place.is_place h) ∙ down p is

pub losses_are_made : Facts → LossesAreMade
losses_are_made facts seats w moment stands a b p far are whole = losses_made facts seats w moment stands.seats_are a b p far are whole

pub nothing_is_lost : Facts → NothingIsLost
nothing_is_lost facts seats w moment stands a b down =
    not_lost facts seats w moment stands.seats_are a b (broken_at facts seats w moment stands.seats_are a b (place_of seats a b) refl down)
