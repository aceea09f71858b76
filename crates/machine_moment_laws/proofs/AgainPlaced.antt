-- At a place of a schedule a packet that the configurations since a moment keep is answered as delivered, so many rounds later.
use Rattle.std.specs.Prelude.{◌≡◌, ◌++◌, ℕ, zero, suc, List, [], ◌∷◌, drop, map, take, slice_get, cond, true, false, IsTrue}
use Rattle.std.specs.declared.option.Option.TheVariants.{Some}
use Rattle.std.specs.List.{AllByRecursion, list_all}
use Rattle.std.proofs.Common.{refl, sym, ap, subst, ◌∙◌}
use Rattle.std.proofs.lemmas.Bool.{and_from, and_parts}
use Rattle.std.proofs.lemmas.List.{map-append, take-append-drop}
use Rattle.std.proofs.lemmas.Option.{same_Some}
use Rattle.config_types.specs.Form.{has_event_form}
use Rattle.config_types.specs.declared.event.Event.{Event as Written}
use Rattle.config_types.specs.declared.event.Event.TheVariants as written
use Rattle.schedule_script.specs.ConfigCheck.Checked.{Checked}
use Rattle.schedule_script.specs.declared.tied_answer.TiedAnswer.{TiedAnswer}
use Rattle.machine_model.specs.Setup.{Name, opening}
use Rattle.machine_model.specs.Session.{Message}
use Rattle.machine_model.specs.Moments.{EditsAreValid}
use Rattle.machine_model.specs.Network.{MachineState, start}
use Rattle.machine_model.specs.Events.{MachineEvent, after, event_of}
use Rattle.machine_laws.specs.Headline.{IsOfForm, IsWritten}
use Rattle.machine_laws.specs.Refusing.{TiedNetwork, after_tied, kept_events, next_tied, refuses, tied_start}
use Rattle.machine_laws.proofs.Refused.{keeps_what_is_not_refused}
use Rattle.machine_moment_laws.specs.RunningNodes.Stands.{message_size}
use Rattle.machine_moment_laws.proofs.RunningNodes.Sizes.{positive}
use Rattle.machine_moment_laws.specs.Runs.{answer_tied, answers, run_tied, tied_moment}
use Rattle.machine_moment_laws.proofs.AsCompiled.{edits_of_form, forms_of_front}
use Rattle.machine_moment_laws.proofs.TiesKept.{asked_of_kept, kept, kept_from, same_moment, stepped}
use Rattle.machine_moment_laws.specs.Windows.{IsOfWindow, configurations}
use Rattle.machine_moment_laws.proofs.Beginning.{first_written}
use Rattle.machine_moment_laws.specs.KeptSchedules.{OfOutcome, configurations_since}
use Rattle.machine_moment_laws.specs.Recovery.{NoneIsDown, rounds_in}
use Rattle.machine_moment_laws.specs.Again.{KeptAreDeliveredAgain, OneDeliversAgain}
use Rattle.machine_moment_laws.specs.AgainSchedules.{AgainSoFar, DeliversAgainSince, GoesOnSince, IsAgainThroughout, rounds_since}
use Rattle.machine_moment_laws.proofs.AgainDelivered.{kept_are_delivered_again}
use Rattle.machine_moment_laws.proofs.One.{one_delivers_again}

-- ---- the machine that keeps ties
after_more : (size : Name → Message → ℕ) (s : TiedNetwork) (es fs : List MachineEvent) → after_tied size s (es ++ fs) ≡ after_tied size (after_tied size s es) fs
after_more size s [] fs = refl
after_more size s (e ∷ es) fs = after_more size (next_tied size s e) es fs

kept_is : (s : TiedNetwork) (es : List Written) → map event_of (kept_from s es) ≡ kept_events message_size s (map event_of es)
kept_is s [] = refl
kept_is s (e ∷ es) =
    elim (refuses s.ties s.network (event_of e)) as (λ b. map event_of (cond b (kept_from s es) (e ∷ kept_from (stepped s (event_of e)) es))
    ≡ cond b (kept_events message_size s (map event_of es)) (event_of e ∷ kept_events message_size (stepped s (event_of e)) (map event_of es))) [
      | true ↦ kept_is s es
      | false ↦ ap (λ (ys : List MachineEvent). event_of e ∷ ys) (kept_is (stepped s (event_of e)) es)
    ]

kept_forms : (s : TiedNetwork) (es : List Written) → IsTrue (list_all has_event_form es) → IsTrue (list_all has_event_form (kept_from s es))
kept_forms s [] forms = refl
kept_forms s (e ∷ es) forms =
    let parts = and_parts (has_event_form e) (list_all has_event_form es) forms in
    elim (refuses s.ties s.network (event_of e)) as (λ b. IsTrue (list_all has_event_form (cond b (kept_from s es) (e ∷ kept_from (stepped s (event_of e)) es)))) [
      | true ↦ kept_forms s es parts.1
      | false ↦ and_from (has_event_form e) (list_all has_event_form (kept_from (stepped s (event_of e)) es)) parts.0 (kept_forms (stepped s (event_of e)) es parts.1)
    ]

-- the events of a window that are kept are of a window
kept_window : (s : TiedNetwork) (es : List MachineEvent) → AllByRecursion IsOfWindow es → AllByRecursion IsOfWindow (kept_events message_size s es)
kept_window s [] all = tt
kept_window s (e ∷ es) all =
    elim (refuses s.ties s.network e) as (λ b. AllByRecursion IsOfWindow (cond b (kept_events message_size s es) (e ∷ kept_events message_size (stepped s e) es))) [
      | true ↦ kept_window s es all.1
      | false ↦ (all.0, kept_window (stepped s e) es all.1)
    ]

forms_of_back : (since : ℕ) (es : List Written) → IsTrue (list_all has_event_form es) → IsTrue (list_all has_event_form (drop since es))
forms_of_back zero es forms = forms
forms_of_back (suc n) [] forms = forms
forms_of_back (suc n) (e ∷ es) forms = forms_of_back n es (and_parts (has_event_form e) (list_all has_event_form es) forms).1

-- ---- a moment
of_trace : (s : TiedNetwork) (rounds : ℕ) (cs : List Checked) → KeptAreDeliveredAgain rounds cs s.network → OneDeliversAgain rounds cs s.network → (e : Written) → OfOutcome (DeliversAgainSince rounds cs) e (answer_tied s (event_of e))
of_trace s rounds cs all one (written.Trace p) = record {
  kept = λ number ways keep hand most bound enough. all p number ways keep hand most bound enough;
  by_one = λ c is number services delivers enough. one c is p number services delivers enough;
}
of_trace s rounds cs all one (written.Edit d) = tt
of_trace s rounds cs all one (written.Deliver from to n) = tt
of_trace s rounds cs all one (written.DeliverOctets from to n) = tt
of_trace s rounds cs all one (written.Lose a b) = tt
of_trace s rounds cs all one (written.Connect a b) = tt
of_trace s rounds cs all one (written.Restart name) = tt
of_trace s rounds cs all one written.Round = tt
of_trace s rounds cs all one written.Settle = tt
of_trace s rounds cs all one (written.Show name) = tt
of_trace s rounds cs all one (written.Break from to n) = tt

module _ (x : Checked) (valid : IsWritten (opening x)) (es : List Written) (forms : IsTrue (list_all has_event_form es)) (since : ℕ) (h : GoesOnSince x since es) where
  abbrev front : List Written
  front = take since es

  abbrev s : TiedNetwork
  s = tied_moment x front

  abbrev before : List MachineEvent
  before = map event_of (kept x front)

  abbrev back : List MachineEvent
  back = map event_of (drop since es)

  abbrev then : List MachineEvent
  then = kept_events message_size s back

  abbrev began : MachineState
  began = after message_size (start x) before

  same : s.network ≡ began
  same = same_moment x front

  asked : EditsAreValid message_size IsOfForm (start x) before
  asked = asked_of_kept x valid front (forms_of_front since es forms)

  form : EditsAreValid message_size IsOfForm began then
  form =
      let w = first_written message_size positive x valid before asked in
      subst (EditsAreValid message_size IsOfForm began) (kept_is s (drop since es))
      (edits_of_form (kept_from s (drop since es)) began (kept_forms s (drop since es) (forms_of_back since es forms)) (w.topology, w.config))

  begins : NoneIsDown began
  begins = subst NoneIsDown same h.begins

  now : (tied_moment x es).network ≡ after message_size s.network then
  now =
      ap (λ (fs : List Written). (tied_moment x fs).network) (sym (take-append-drop since es))
      ∙ ap (λ (fs : List MachineEvent). (after_tied message_size (tied_start x) fs).network) (map-append event_of front (drop since es))
      ∙ ap (λ (u : TiedNetwork). u.network) (after_more message_size (tied_start x) (map event_of front) back)
      ∙ keeps_what_is_not_refused message_size s back

  abbrev AtThat : (ℕ → List Checked → MachineState → Type 0) → MachineState → Type 0
  AtThat P w = P (rounds_in message_size w then) (configurations message_size w then) (after message_size w then)

  here : (P : ℕ → List Checked → MachineState → Type 0) → AtThat P began → P (rounds_since x since es) (configurations_since x since es) (tied_moment x es).network
  here P there = subst (P (rounds_in message_size s.network then) (configurations message_size s.network then)) (sym now) (subst (AtThat P) (sym same) there)

  kept_here : (e : Written) → OfOutcome (DeliversAgainSince (rounds_since x since es) (configurations_since x since es)) e (answer_tied (tied_moment x es) (event_of e))
  kept_here e =
      let window = kept_window s back h.goes_on in
      of_trace (tied_moment x es) (rounds_since x since es) (configurations_since x since es)
      (here KeptAreDeliveredAgain (kept_are_delivered_again message_size positive x valid before asked begins then window form))
      (here OneDeliversAgain (one_delivers_again message_size positive x valid before asked begins then window form)) e

-- ---- every place
answered_there : (es : List Written) (s : TiedNetwork) (place : ℕ) (e : Written) (a : TiedAnswer) → slice_get es place ≡ Some e → slice_get (run_tied message_size s (map event_of es)) place ≡ Some a
    → a ≡ answer_tied (after_tied message_size s (map event_of (take place es))) (event_of e)
answered_there [] s place e a is answered = absurd cc
answered_there (d ∷ es) s zero e a is answered = sym (same_Some (answer_tied s (event_of d)) a answered) ∙ ap (λ y. answer_tied s (event_of y)) (same_Some d e is)
answered_there (d ∷ es) s (suc place) e a is answered = answered_there es (next_tied message_size s (event_of d)) place e a is answered

pub again_here : (x : Checked) → IsWritten (opening x) → (es : List Written) → IsTrue (list_all has_event_form es) → (e : Written) → AgainSoFar x es e (answer_tied (tied_moment x es) (event_of e))
again_here x valid es forms e since h = kept_here x valid es forms since h e

pub again : (x : Checked) → IsWritten (opening x) → (es : List Written) → IsTrue (list_all has_event_form es) → IsAgainThroughout x es (answers x es)
again x valid es forms place e a at =
    subst (AgainSoFar x (take place es) e) (sym (answered_there es (tied_start x) place e a at.event at.answer))
    (again_here x valid (take place es) (forms_of_front place es forms) e)
