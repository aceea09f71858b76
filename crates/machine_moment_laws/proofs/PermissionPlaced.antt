-- At each place of a schedule a packet that is traced passes only as the configurations so far permitted.
use Rattle.std.specs.Prelude.{◌≡◌, ℕ, zero, suc, List, [], ◌∷◌, map, take, slice_get, IsTrue}
use Rattle.std.specs.declared.option.Option.TheVariants.{Some}
use Rattle.std.specs.List.{list_all}
use Rattle.std.proofs.Common.{sym, ap, subst, ◌∙◌}
use Rattle.std.proofs.lemmas.Option.{same_Some}
use Rattle.config_types.specs.Form.{has_event_form}
use Rattle.config_types.specs.declared.config.Config.{Config}
use Rattle.config_types.specs.declared.event.Event.{Event as Written}
use Rattle.config_types.specs.declared.event.Event.TheVariants as written
use Rattle.schedule_script.specs.ConfigCheck.Checked.{Checked}
use Rattle.schedule_script.specs.declared.tied_answer.TiedAnswer.{TiedAnswer}
use Rattle.machine_model.specs.Setup.{opening}
use Rattle.machine_model.specs.Events.{event_of}
use Rattle.machine_laws.specs.Headline.{IsWritten}
use Rattle.machine_laws.specs.Refusing.{TiedNetwork, after_tied, next_tied, tied_start}
use Rattle.machine_moment_laws.specs.RunningNodes.Stands.{message_size}
use Rattle.machine_moment_laws.specs.Runs.{answer_tied, answers, configs_so_far, run_tied, tied_moment}
use Rattle.machine_moment_laws.proofs.RunningNodes.Sizes.{positive}
use Rattle.machine_moment_laws.proofs.AsCompiled.{forms_of_front}
use Rattle.machine_moment_laws.proofs.TiesKept.{asked_with_ties}
use Rattle.machine_moment_laws.specs.Permission.{OfEachPacket, PassesAsPermitted}
use Rattle.machine_moment_laws.specs.PermissionSchedules.{IsPermittedThroughout, OfOutcome, PermittedSoFar}
use Rattle.machine_moment_laws.proofs.Permitted.{passes}

of_trace : (cs : List Config) (s : TiedNetwork) → OfEachPacket PassesAsPermitted cs s.network → (e : Written) → OfOutcome (PassesAsPermitted cs) e (answer_tied s (event_of e))
of_trace cs s h (written.Trace p) = h p
of_trace cs s h (written.Edit d) = tt
of_trace cs s h (written.Deliver from to n) = tt
of_trace cs s h (written.DeliverOctets from to n) = tt
of_trace cs s h (written.Lose a b) = tt
of_trace cs s h (written.Connect a b) = tt
of_trace cs s h (written.Restart name) = tt
of_trace cs s h written.Round = tt
of_trace cs s h written.Settle = tt
of_trace cs s h (written.Show name) = tt
of_trace cs s h (written.Break from to n) = tt

pub permitted_here : (x : Checked) → IsWritten (opening x) → (es : List Written) → IsTrue (list_all has_event_form es) → (e : Written) → PermittedSoFar x es e (answer_tied (tied_moment x es) (event_of e))
permitted_here x valid es forms e =
    of_trace (configs_so_far x es) (tied_moment x es) (passes message_size positive x valid (map event_of es) (asked_with_ties x valid es forms)) e

-- the event of a place is answered at the moment before it
answered_there : (es : List Written) (s : TiedNetwork) (place : ℕ) (e : Written) (a : TiedAnswer) → slice_get es place ≡ Some e → slice_get (run_tied message_size s (map event_of es)) place ≡ Some a
    → a ≡ answer_tied (after_tied message_size s (map event_of (take place es))) (event_of e)
answered_there [] s place e a is answered = absurd cc
answered_there (d ∷ es) s zero e a is answered = sym (same_Some (answer_tied s (event_of d)) a answered) ∙ ap (λ y. answer_tied s (event_of y)) (same_Some d e is)
answered_there (d ∷ es) s (suc place) e a is answered = answered_there es (next_tied message_size s (event_of d)) place e a is answered

pub permitted : (x : Checked) → IsWritten (opening x) → (es : List Written) → IsTrue (list_all has_event_form es) → IsPermittedThroughout x es (answers x es)
permitted x valid es forms place e a at =
    subst (PermittedSoFar x (take place es) e) (sym (answered_there es (tied_start x) place e a at.event at.answer))
    (permitted_here x valid (take place es) (forms_of_front place es forms) e)
