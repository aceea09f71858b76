-- The places of a schedule: the event of a place is answered at the moment before it, and leads to the one behind it.
use Rattle.std.specs.Prelude.{◌≡◌, ℕ, zero, suc, List, [], ◌∷◌, map, take, slice_get, IsTrue}
use Rattle.std.specs.declared.option.Option.TheVariants.{Some}
use Rattle.std.specs.List.{list_all}
use Rattle.std.proofs.Common.{sym, ap, subst, ◌∙◌}
use Rattle.std.proofs.lemmas.Option.{same_Some}
use Rattle.config_types.specs.Form.{has_event_form}
use Rattle.config_types.specs.declared.event.Event.{Event as Written}
use Rattle.config_check.specs.Checked.{Checked}
use Rattle.machine_laws.specs.Headline.{IsWritten}
use Rattle.machine_laws.specs.MachineModel.Events.{event_of}
use Rattle.machine_laws.specs.MachineModel.Setup.{opening}
use Rattle.running_nodes.specs.Stands.{message_size}
use Rattle.machine_moment_laws.proofs.AsCompiled.{forms_of_front}
use Rattle.schedule_script.specs.declared.tied_answer.TiedAnswer.{TiedAnswer}
use Rattle.machine_laws.specs.Refusing.{TiedNetwork, after_tied, next_tied, tied_start}
use Rattle.machine_moment_laws.specs.TiedCompiled.{AreAsCompiled, EndsAtOnce, IsAsCompiled}
use Rattle.machine_moment_laws.specs.Isolated.{DeliversRelated, DeliversSoFar, IsIsolated, StandsAt, StaysAmongRelated}
use Rattle.machine_moment_laws.specs.Runs.{answer_tied, answers, run_tied, tied_moment}
use Rattle.machine_moment_laws.proofs.TiedMoments.{compiled_here, ends_here, isolated_here, related_here}

at_place : (es : List Written) (s : TiedNetwork) (place : ℕ) (e : Written) (a : TiedAnswer)
    → slice_get es place ≡ Some e → slice_get (run_tied message_size s (map event_of es)) place ≡ Some a
    → a ≡ answer_tied (after_tied message_size s (map event_of (take place es))) (event_of e)
at_place [] s place e a is answered = absurd cc
at_place (d ∷ es) s zero e a is answered =
    sym (same_Some (answer_tied s (event_of d)) a answered) ∙ ap (λ y. answer_tied s (event_of y)) (same_Some d e is)
at_place (d ∷ es) s (suc place) e a is answered = at_place es (next_tied message_size s (event_of d)) place e a is answered

behind : (es : List Written) (s : TiedNetwork) (place : ℕ) (e : Written) → slice_get es place ≡ Some e
    → after_tied message_size s (map event_of (take (suc place) es))
    ≡ next_tied message_size (after_tied message_size s (map event_of (take place es))) (event_of e)
behind [] s place e is = absurd cc
behind (d ∷ es) s zero e is = ap (λ y. next_tied message_size s (event_of y)) (same_Some d e is)
behind (d ∷ es) s (suc place) e is = behind es (next_tied message_size s (event_of d)) place e is

module _ (x : Checked) (valid : IsWritten (opening x)) (es : List Written) (forms : IsTrue (list_all has_event_form es)) where
  answer_at : (place : ℕ) (e : Written) (a : TiedAnswer) → StandsAt es (answers x es) place e a
      → a ≡ answer_tied (tied_moment x (take place es)) (event_of e)
  answer_at place e a at = at_place es (tied_start x) place e a at.event at.answer

  fronts : (place : ℕ) → IsTrue (list_all has_event_form (take place es))
  fronts place = forms_of_front place es forms

  ends_behind : (place : ℕ) (e : Written) (a : TiedAnswer) → StandsAt es (answers x es) place e a
      → EndsAtOnce (tied_moment x (take place es)) e (answer_tied (tied_moment x (take place es)) (event_of e))
      (tied_moment x (take (suc place) es))
  ends_behind place e a at =
      let s = tied_moment x (take place es) in
      subst (EndsAtOnce s e (answer_tied s (event_of e))) (sym (behind es (tied_start x) place e at.event))
      (ends_here x valid (take place es) (fronts place) e)

  pub as_compiled : AreAsCompiled x es (answers x es)
  as_compiled = record {
    settled = λ place e a at.
        subst (IsAsCompiled (tied_moment x (take place es)) e) (sym (answer_at place e a at))
        (compiled_here x valid (take place es) (fronts place) e);
    settles = λ place e a at.
        subst (λ b. EndsAtOnce (tied_moment x (take place es)) e b (tied_moment x (take (suc place) es)))
        (sym (answer_at place e a at)) (ends_behind place e a at);
  }

  pub isolated : IsIsolated x es (answers x es)
  isolated = λ place e a at.
      subst (DeliversSoFar x (take place es) e) (sym (answer_at place e a at))
      (isolated_here x valid (take place es) (fronts place) e)

  pub related : StaysAmongRelated x es (answers x es)
  related = λ place e a at.
      subst (DeliversRelated x (take place es) e) (sym (answer_at place e a at))
      (related_here x valid (take place es) (fronts place) e)
