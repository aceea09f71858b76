-- What `gen` leaves and promises where all was written.
use Rattle.std.specs.Prelude.{◌≡◌, ℕ, List, IsTrue, false}
use Rattle.std.specs.declared.option.Option.{Option}
use Rattle.std.specs.declared.option.Option.TheVariants.{Some, None}
use Rattle.std.specs.declared.result.Result.TheVariants.{Ok}
use Rattle.std.specs.Io.KnownBytes.{Appends}
use Rattle.std.specs.List.{list_all}
use Rattle.std.proofs.Common.{ap, subst, ◌∙◌}
use Rattle.config_check.specs.Checked.{Checked}
use Rattle.config_check.specs.Rules.{first_broken}
use Rattle.config_types.specs.Form.{has_event_form}
use Rattle.config_types.specs.declared.event.Event.{Event}
use Rattle.compile_answers.specs.declared.unfit.Reception.TheVariants.{Good}
use Rattle.compile_answers.specs.Leaving.{PromisedOn}
use Rattle.net_machine.specs.NetState.{NetState}
use Rattle.net_machine.specs.RunningNodes.Stands.{StandsFor}
use Rattle.net_machine.specs.MachineMomentLaws.Runs.{tied_moment}
use Rattle.net_machine.proofs.MachineMomentLaws.SchedulePlaced.{as_compiled, isolated}
use Rattle.schedule_script.specs.Kept.{AreAlike, ties_in}
use Rattle.net_machine.proofs.MachineMomentLaws.KeptPlaced.{uninterrupted}
use Rattle.net_machine.proofs.MachineMomentLaws.AgainPlaced.{again}
use Rattle.net_machine.proofs.MachineMomentLaws.PermissionPlaced.{permitted}
use Rattle.net_machine.proofs.MachineMomentLaws.RevocationPlaced.{revoked}
use Rattle.scenario_gen.specs.Scenario.{scenario}
use Rattle.top_call.specs.declared.tally.Tally.{Tally}
use Rattle.top_call.specs.ScenarioAnswers.{IsLeftOfScenario, TookSummary}
use Rattle.top_call.specs.Generating.{summary_of, summary_text}
use Rattle.top_call.specs.Scenarios.{opening, schedule}
use Rattle.top_call.specs.Tallies.{tally}
use Rattle.top_call.proofs.Agreeing.{packets_agree, scenario_is_written}

-- the network that took the events of a scenario
pub scenario_left : (n : ℕ) (x : Checked) (es : List Event) (s : NetState) (left : Option NetState)
    → x ≡ opening n → es ≡ schedule n → s.opening ≡ x → s.events ≡ es → s.failed ≡ false
    → StandsFor s.seats (tied_moment s.opening s.events).network
    → AreAlike (ties_in s.ties) (tied_moment s.opening s.events).ties → left ≡ Some s → IsLeftOfScenario n left
scenario_left n x es s left opens takes opening events works state ties is = record {
  net = s;
  is_left = is;
  took = record {
    opening = opening ∙ opens;
    events = events ∙ takes;
    works = works;
    state = state;
    ties = ties;
  };
}

pub scenario_tally : (n : ℕ) (x : Checked) (es : List Event) (t : Tally) → t ≡ tally x es → x ≡ opening n
    → es ≡ schedule n → t ≡ tally (opening n) (schedule n)
scenario_tally n x es t is opens takes = is ∙ ap (λ y. tally y es) opens ∙ ap (tally (opening n)) takes

pub scenario_written : (n : ℕ) (es : List Event) → es ≡ schedule n → IsTrue (list_all has_event_form es)
    → IsTrue (list_all has_event_form (schedule n))
scenario_written n es takes forms = subst (λ es. IsTrue (list_all has_event_form es)) takes forms

-- the summary of a scenario
pub gen_promised : (n : ℕ) (old new : Option (List ℕ)) (t : Tally)
    → first_broken (scenario n).topology (scenario n).config ≡ None
    → IsTrue (list_all has_event_form (schedule n)) → t ≡ tally (opening n) (schedule n)
    → Appends old new (summary_of n t) → PromisedOn (TookSummary n old new) (Ok Good)
unfolding summary_text
gen_promised n old new t valid forms is taken = record {
  taken = subst (λ t. Appends old new (summary_of n t)) is taken;
  compiled = as_compiled (opening n) (scenario_is_written n valid) (schedule n) forms;
  isolated = isolated (opening n) (scenario_is_written n valid) (schedule n) forms;
  permitted = permitted (opening n) (scenario_is_written n valid) (schedule n) forms;
  revoked = revoked (opening n) (scenario_is_written n valid) (schedule n) forms;
  uninterrupted = uninterrupted (opening n) (scenario_is_written n valid) (schedule n) forms;
  again = again (opening n) (scenario_is_written n valid) (schedule n) forms;
  agree = packets_agree n valid;
}

-- each way in which a scenario is run
pub ruleset scenario_ends = (scenario_left, scenario_tally, scenario_written)
