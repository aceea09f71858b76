-- The summary of a scenario that was run.
use Rattle.std.specs.Prelude.{◌≡◌, ◌≤◌, ℕ, List, length}
use Rattle.std.specs.declared.option.Option.{Option}
use Rattle.std.specs.Io.KnownBytes.{Appends}
use Rattle.std.proofs.Common.{refl, sym, ap, subst, ◌∙◌, arith}
use Rattle.ov_io.specs.Inputs.{TookFront}
use Rattle.scenario_gen.specs.Scenario.{scenario}
use Rattle.scenario_gen.specs.Schedule.{events}
use Rattle.top_call.specs.declared.tally.Tally.{Tally}
use Rattle.top_call.specs.Scenarios.{opening, schedule}
use Rattle.top_call.specs.Tallies.{tally}
use Rattle.compile_answers.specs.declared.unfit.Reception.TheVariants.{Good}
use Rattle.compile_answers.specs.Answers.{DocumentAnswer, WasGiven, answer_good}
use Rattle.top_call.specs.ScenarioAnswers.{gen_answer}
use Rattle.top_call.specs.Generating.{summary_of, summary_text}
use Rattle.top_call.proofs.ScenarioEnding.{gen_promised}
use Rattle.compile_answers.proofs.NothingLeft.{leaves_none, promises_none}

pub schedules_are_short : (n : ℕ) → length (schedule n) ≤ 1000
unfolding scenario events
schedules_are_short n = let is : length (schedule n) ≡ 45 = refl in omega (arith, is)

-- ---- where nothing is broken, the answer is the summary
-- ---- what was counted is the scenario's
text_is : (n : ℕ) (t : Tally) → t ≡ tally (opening n) (schedule n) → gen_answer n ≡ answer_good (summary_text n)
    → summary_of n t ≡ (gen_answer n).text
unfolding summary_text
text_is n t is fit = ap (summary_of n) is ∙ ap (λ (a : DocumentAnswer). a.text) (sym fit)

pub summary_given : (n : ℕ) (t : Tally) (old new : Option (List ℕ)) → t ≡ tally (opening n) (schedule n)
    → gen_answer n ≡ answer_good (summary_text n) → Appends old new (summary_of n t)
    → WasGiven (gen_answer n) Good old new
summary_given n t old new is fit taken = record {
  is = ap (λ (a : DocumentAnswer). a.verdict) (sym fit);
  taken = subst (Appends old new) (text_is n t is fit) taken;
}

pub summary_front : (n : ℕ) (t : Tally) (old new : Option (List ℕ)) → t ≡ tally (opening n) (schedule n)
    → gen_answer n ≡ answer_good (summary_text n) → TookFront old new (summary_of n t)
    → TookFront old new (gen_answer n).text
summary_front n t old new is fit front = subst (TookFront old new) (text_is n t is fit) front

-- each way in which a scenario's run ends
pub ruleset gen_ends = (summary_given, summary_front, gen_promised, leaves_none, promises_none)
