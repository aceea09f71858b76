-- A network that runs takes an event.
use Rattle.std.specs.Prelude.{◌≡◌, ◌<◌, ◌++◌, List, [], ◌∷◌, map, length, true, IsTrue}
use Rattle.std.specs.declared.option.Option.TheVariants.{Some, None}
use Rattle.std.specs.List.{All, cons_option, list_all}
use Rattle.std.proofs.Common.{refl, sym, ◌∙◌, ap, subst, arith}
use Rattle.std.proofs.lemmas.Bool.{and_from, and_parts}
use Rattle.std.proofs.lemmas.List.Elements.{All-cons}
use Rattle.config_types.specs.declared.event.Event.{Event}
use Rattle.config_types.specs.declared.event.Event.TheVariants.{Break, Connect, Deliver, DeliverOctets, Edit, Lose, Restart}
use Rattle.config_types.specs.declared.event.Event.TheVariants.{Round, Settle, Show, Trace}
use Rattle.config_types.specs.Form.{has_event_form}
use Rattle.config_check.specs.Checked.{Checked}
use Rattle.schedule_script.specs.Kept.{AreAlike, Kept, ties_in}
use Rattle.schedule_script.specs.Ties.{Ties}
use Rattle.schedule_script.specs.Tying.{ties_of}
use Rattle.schedule_script.proofs.Alike.{alike_is_one}
use Rattle.running_laws.specs.MachineLaws.Headline.{IsWritten}
use Rattle.running_laws.specs.MachineLaws.Refusing.{TiedNetwork, kept_events, next_tied, tied_start}
use Rattle.running_laws.proofs.MachineLaws.Refused.{keeps_what_is_not_refused}
use Rattle.running_nodes.specs.MachineModel.Session.{Session}
use Rattle.running_nodes.specs.MachineModel.Network.{asked, start}
use Rattle.running_nodes.specs.MachineModel.Events.{event_of}
use Rattle.running_nodes.specs.MachineModel.Setup.{checked, opening}
use Rattle.running_nodes.specs.MachineModel.Steps as machine
use Rattle.running_nodes.specs.Seats.{Configuring, Seat, Who, seat, whos}
use Rattle.running_nodes.specs.Stands.{StandsFor, message_size}
use Rattle.running_laws.specs.Moments.{IsMoment}
use Rattle.running_laws.proofs.Moments.{moment_sessions}
use Rattle.running_nodes.specs.Steps.{fresh_seat}
use Rattle.running_laws.proofs.Given.{given}
use Rattle.running_laws.proofs.Started.{fresh_seats_stand}
use Rattle.schedule_script.specs.declared.tied_answer.TiedAnswer.{TiedAnswer}
use Rattle.machine_moment_laws.specs.TiedCompiled.{EndsAtOnce, IsAsCompiled}
use Rattle.machine_moment_laws.specs.Isolated.{DeliversSoFar, DeliversTied}
use Rattle.machine_moment_laws.specs.RevocationSchedules.{RevokedSoFar}
use Rattle.machine_moment_laws.proofs.RevocationPlaced.{revoked_here}
use Rattle.machine_moment_laws.specs.PermissionSchedules.{PermittedSoFar}
use Rattle.machine_moment_laws.proofs.PermissionPlaced.{permitted_here}
use Rattle.machine_moment_laws.specs.KeptSchedules.{KeptSoFar}
use Rattle.machine_moment_laws.proofs.KeptPlaced.{uninterrupted_here}
use Rattle.machine_moment_laws.specs.AgainSchedules.{AgainSoFar}
use Rattle.machine_moment_laws.proofs.AgainPlaced.{again_here}
use Rattle.machine_moment_laws.specs.Runs.{answer_tied, tied_moment}
use Rattle.machine_moment_laws.proofs.TiesKept.{asked_with_ties, tied_more}
use Rattle.machine_moment_laws.proofs.TiedMoments.{compiled_here, ends_here, isolated_here, joined_here}
use Rattle.net_machine.specs.declared.ends.SessionEnds.{SessionEnds}
use Rattle.net_machine.specs.Running.{IsRunning}
use Rattle.net_machine.specs.Seating.{AreLong, AreSeated, IsConfigured, ends_of, order_among, order_of}
use Rattle.net_machine.specs.Settling.{is_settled}
use Rattle.net_machine.specs.Tying.{HappensTied, OfTie, Orders}
use Rattle.net_machine.specs.Moving.{CanHappen}
use Rattle.net_machine.proofs.CanMove.{can_happen}
use Rattle.net_machine.proofs.Carried.{found_seated}
use Rattle.net_machine.proofs.Facts.{MayHappen}
use Rattle.net_machine.proofs.Forms.{break_form, edit_form, octets_form}
use Rattle.net_machine.proofs.Given.{facts}
use Rattle.net_machine.proofs.Found.{same_setup}
use Rattle.net_machine.proofs.Ordered.{ordered_then}
use Rattle.net_machine.proofs.Promised.{IsAfter, after_moment}
use Rattle.net_machine.proofs.Resting.{settled_is}
use Rattle.net_machine.proofs.Rounding.{same_order}
use Rattle.net_machine.proofs.Tied.{Steps, by_answer, unchanged}

-- ---- the first seat is the configuration node's
first_who : (seats : List Seat) (x : Checked) (rest : List Who) → map (λ (n : Seat). n.who) seats ≡ Configuring x ∷ rest
    → (0 < length seats) × ((seat seats 0).who ≡ Configuring x)
first_who [] x rest e = cc
first_who (n ∷ ns) x rest e = (omega arith, cc)

-- ---- each of the sessions in order has its two places
among_seated : (seats : List Seat) (ss : List Session) → AreLong seats → All (AreSeated seats) (order_among seats ss)
among_seated seats [] long = λ k d h. absurd (omega (arith, h))
among_seated seats (s ∷ ss) long =
    elim (ends_of seats s.near.name s.far.name) as (λ o. ends_of seats s.near.name s.far.name ≡ o
    → All (AreSeated seats) (cons_option o (order_among seats ss))) [
      | None ↦ λ _. among_seated seats ss long
      | Some e ↦ λ is. All-cons (AreSeated seats) e (order_among seats ss)
          (found_seated seats s.near.name s.far.name e long is) (among_seated seats ss long)
    ] refl

-- ---- one event more
may_happen : (e : Event) → IsTrue (has_event_form e) → MayHappen (event_of e)
may_happen (Edit e) form = edit_form e form
may_happen (Deliver from to n) form = tt
may_happen (DeliverOctets from to n) form = octets_form from to n form
may_happen (Lose a b) form = tt
may_happen (Connect a b) form = tt
may_happen (Restart name) form = tt
may_happen Round form = tt
may_happen Settle form = tt
may_happen (Show name) form = tt
may_happen (Trace p) form = tt
may_happen (Break from to n) form = break_form from to n form

forms_more : (es : List Event) (e : Event) → IsTrue (list_all has_event_form es) → IsTrue (has_event_form e)
    → IsTrue (list_all has_event_form (es ++ e ∷ []))
forms_more [] e forms form = and_from (has_event_form e) true form refl
forms_more (d ∷ es) e forms form =
    let parts = and_parts (has_event_form d) (list_all has_event_form es) forms in
    and_from (has_event_form d) (list_all has_event_form (es ++ e ∷ [])) parts.0 (forms_more es e parts.1 form)

-- ---- a network that runs
-- its moments
module _ (x : Checked) (es : List Event) (written : IsWritten (opening x)) (forms : IsTrue (list_all has_event_form es)) where
  is_after : IsAfter (tied_moment x es).network
  is_after = record {
    opening = x;
    written = written;
    events = kept_events message_size (tied_start x) (map event_of es);
    asked = asked_with_ties x written es forms;
    is = keeps_what_is_not_refused message_size (tied_start x) (map event_of es);
  }

module _ (x : Checked) (es : List Event) (ties : Kept) (seats : List Seat) (order : List SessionEnds)
    (r : IsRunning x es ties seats order) where
  abbrev now : TiedNetwork
  now = tied_moment x es

  pub run_after : IsAfter now.network
  run_after = is_after x es r.written r.forms

  pub run_moment : IsMoment now.network
  run_moment = after_moment now.network run_after

  pub run_long : AreLong seats
  run_long = r.stands.seats_are.long

  pub run_seated : All (AreSeated seats) order
  run_seated =
      subst (All (AreSeated seats)) (sym r.ordered) (among_seated seats (asked now.network.setup.topology) run_long)

  run_first : (0 < length seats) × ((seat seats 0).who ≡ Configuring (checked now.network.setup))
  run_first = first_who seats (checked now.network.setup) _ r.stands.seats_are.who

  pub run_configured : IsConfigured seats
  run_configured =
      record { some = run_first.0; setup = checked now.network.setup; is = run_first.1 }

  pub run_can : (e : Event) → IsTrue (has_event_form e) → (y : Checked) → (seat seats 0).who ≡ Configuring y
      → CanHappen y e seats
  run_can e form y is =
      subst (λ (z : Checked). CanHappen z e seats) (same_setup (checked now.network.setup) y (sym run_first.1 ∙ is))
      (can_happen now.network run_moment seats r.stands e form)

  run_ordered : order ≡ order_among seats now.network.sessions
  run_ordered =
      r.ordered
      ∙ sym (same_order seats now.network.sessions (asked now.network.setup.topology) (moment_sessions now.network run_moment))

  pub run_settled : is_settled seats order ≡ machine.is_settled now.network
  run_settled =
      settled_is IsMoment facts seats now.network order (record { moment = run_moment; stands = r.stands }) run_ordered

  run_ties : ties_in ties ≡ now.ties
  run_ties = alike_is_one (ties_in ties) now.ties r.tied

  module _ (e : Event) (answer : TiedAnswer) (then_ties : Kept) (then_seats : List Seat) (then_order : List SessionEnds)
      (form : IsTrue (has_event_form e))
      (h : (y : Checked) → (seat seats 0).who ≡ Configuring y → HappensTied y order e ties seats answer then_ties then_seats)
      (k : (y : Checked) → (seat seats 0).who ≡ Configuring y → Orders y e answer seats then_seats order then_order) where
    steps : Steps now e answer then_ties then_seats
    steps =
        by_answer now run_moment ties seats order e answer then_ties then_seats run_ties r.stands run_ordered
        (may_happen e form) (h (checked now.network.setup) run_first.1)

    pub step_answers : answer ≡ answer_tied now (event_of e)
    step_answers = steps.answers

    pub step_runs : (fs : List Event) → fs ≡ es ++ e ∷ [] → IsRunning x fs then_ties then_seats then_order
    step_runs fs is =
        let more : tied_moment x fs ≡ next_tied message_size now (event_of e) =
        ap (tied_moment x) is ∙ tied_more x es e in
        let forms = subst (λ (gs : List Event). IsTrue (list_all has_event_form gs)) (sym is) (forms_more es e r.forms form) in
        let v = (tied_moment x fs).network in
        let stands = subst (λ (s : TiedNetwork). StandsFor then_seats s.network) (sym more) steps.stands in
        let first = first_who then_seats (checked v.setup) _ stands.seats_are.who in
        let sessions = moment_sessions v (after_moment v (is_after x fs r.written forms)) in
        record {
          written = r.written;
          forms = forms;
          tied = subst (λ (s : TiedNetwork). AreAlike (ties_in then_ties) s.ties) (sym more) steps.ties;
          stands = stands;
          ordered = ordered_then now e v (ap (λ (s : TiedNetwork). s.network) more) sessions seats then_seats order then_order
              first.1 run_ordered answer step_answers (k (checked now.network.setup) run_first.1);
        }

    pub step_unchanged : OfTie (λ _. (then_ties ≡ ties) × (then_seats ≡ seats)) answer
    step_unchanged =
        unchanged (checked now.network.setup) ties seats order e answer then_ties then_seats
        (h (checked now.network.setup) run_first.1)

    -- what is said of the next answer, and of the moment that it leads to
    pub step_compiled : IsAsCompiled now e answer
    step_compiled = subst (IsAsCompiled now e) (sym step_answers) (compiled_here x r.written es r.forms e)

    pub step_isolated : DeliversSoFar x es e answer
    step_isolated = subst (DeliversSoFar x es e) (sym step_answers) (isolated_here x r.written es r.forms e)

    pub step_revoked : RevokedSoFar x es e answer
    step_revoked = subst (RevokedSoFar x es e) (sym step_answers) (revoked_here x r.written es r.forms e)

    pub step_permitted : PermittedSoFar x es e answer
    step_permitted = subst (PermittedSoFar x es e) (sym step_answers) (permitted_here x r.written es r.forms e)

    pub step_uninterrupted : KeptSoFar x es e answer
    step_uninterrupted = subst (KeptSoFar x es e) (sym step_answers) (uninterrupted_here x r.written es r.forms e)

    pub step_again : AgainSoFar x es e answer
    step_again = subst (AgainSoFar x es e) (sym step_answers) (again_here x r.written es r.forms e)

    pub step_joined : DeliversTied (ties_in ties) e answer
    step_joined =
        subst (λ (t : Ties). DeliversTied t e answer) (sym run_ties)
        (subst (DeliversTied now.ties e) (sym step_answers) (joined_here x r.written es r.forms e))

    pub step_ends : (fs : List Event) → fs ≡ es ++ e ∷ [] → EndsAtOnce now e answer (tied_moment x fs)
    step_ends fs is =
        subst (EndsAtOnce now e answer) (sym (ap (tied_moment x) is ∙ tied_more x es e))
        (subst (λ (a : TiedAnswer). EndsAtOnce now e a (next_tied message_size now (event_of e))) (sym step_answers)
        (ends_here x r.written es r.forms e))

-- ---- a network that begins
module _ (x : Checked) (seats : List Seat) (written : IsWritten (opening x))
    (is : seats ≡ map fresh_seat (whos (opening x))) where
  start_stands : StandsFor seats (start x)
  start_stands = subst (λ ss. StandsFor ss (start x)) (sym is) (fresh_seats_stand given x written).0

  pub start_long : AreLong seats
  start_long = start_stands.seats_are.long

  pub start_runs : (es : List Event) (ties : Kept) (order : List SessionEnds) → es ≡ []
      → AreAlike (ties_in ties) (ties_of x) → order ≡ order_of seats x.topology → IsRunning x es ties seats order
  start_runs es ties order none tied ordered =
      let begins : tied_moment x es ≡ tied_start x = ap (tied_moment x) none in
      record {
        written = written;
        forms = ap (list_all has_event_form) none;
        tied = subst (λ (s : TiedNetwork). AreAlike (ties_in ties) s.ties) (sym begins) tied;
        stands = subst (λ (s : TiedNetwork). StandsFor seats s.network) (sym begins) start_stands;
        ordered = ordered ∙ ap (λ (s : TiedNetwork). order_of seats s.network.setup.topology) (sym begins);
      }
