-- What is taken of the answer of `unused` is as it promises.
use Rattle.std.proofs.Common.{◌≡◌, true, ℕ, List, [], Option, Result, Ok, Err, ap, ◌∙◌, subst}
use Rattle.std.specs.Prelude.{IfOk}
use Rattle.std.specs.Io.KnownBytes.{Appends}
use Rattle.config_types.specs.Form.{has_config_form}
use Rattle.config_model.specs.Input.{compile_at}
use Rattle.compile_answers.specs.Answers.{answer_good, compile_taken}
use Rattle.inspect_answers.specs.Answers.{Answer, IsAnswer, WasGiven, judged, unused_answer}
use Rattle.inspect_rules.specs.Idle.{idle}
use Rattle.inspect_answers.specs.IdleLines.{idle_in}
use Rattle.inspect_answers.specs.Unused.{TookUnused}
use Rattle.inspect_answers.specs.InForm.{AreWrittenInForm}
use Rattle.inspect_answers.proofs.Answered.{IsRead, is_read}
use Rattle.inspect_answers.proofs.Formed.{in_form}
use Rattle.inspect_answers.specs.Runs.{status_of}
use Rattle.inspect_answers.specs.declared.top.Status.TheVariants as Ended
use Rattle.inspect_answers.specs.declared.verdict.Verdict.{Verdict}
use Rattle.inspect_answers.specs.declared.verdict.Verdict.TheVariants.{Good}
use Rattle.inspect_rules.proofs.Unneeded.{all_idle}
use Rattle.inspect_json.specs.declared.form.Form.{Form}
use Rattle.inspect_json.proofs.ReadBack.{idle_reads}
use Rattle.inspect_answers.proofs.LineSizes.{idle_sized}

is_good : (form : Form) (octets : List ℕ) → IsAnswer (unused_answer form octets).verdict
    → IsRead (compile_at []) (λ p. p) (λ p. judged (answer_good (idle_in form p.config))) octets (unused_answer form octets)
unfolding unused_answer compile_taken
is_good form octets h = is_read (compile_at []) (λ p. p) (λ p x. x) (λ v. judged (answer_good (idle_in form v.config))) octets h

pub took_unused : (form : Form) (octets : List ℕ) (verdict : Verdict) (old new : Option (List ℕ)) → WasGiven (unused_answer form octets) verdict old new
    → (IsAnswer verdict → AreWrittenInForm octets) → IsAnswer verdict → (status_of verdict ≡ Ended.Done) × TookUnused form octets old new
took_unused form octets verdict old new given of_form answers =
    let good = is_good form octets (subst IsAnswer given.is answers) in
    let c = good.asked.config in
    let formed : has_config_form c ≡ true = in_form (compile_at []) (λ p. p.config) octets good.written.0 good.asked (of_form answers) good.written.1 good.written.2 in
    let verdict_is : verdict ≡ Good = given.is ∙ ap (λ (a : Answer). a.verdict) good.is in (
      ap status_of verdict_is,
      record {
        input = good.asked;
        written = good.written;
        valid = good.valid;
        found = idle good.asked.config;
        taken = subst (λ (t : List ℕ). Appends old new t) (ap (λ (a : Answer). a.text) good.is) given.taken;
        exact = all_idle good.asked.topology c good.valid;
        reads = λ x at. idle_reads c x formed (idle_sized good.asked.topology c formed good.valid x at);
      },
    )

pub unused_kept : {E : Type 0} (r : Result Verdict E) (form : Form) (octets : List ℕ) (old new : Option (List ℕ))
    → IfOk r (λ verdict. WasGiven (unused_answer form octets) verdict old new) → IfOk r (λ verdict. IsAnswer verdict → AreWrittenInForm octets)
    → IfOk r (λ verdict. IsAnswer verdict → (status_of verdict ≡ Ended.Done) × TookUnused form octets old new)
unused_kept (Ok verdict) form octets old new given of_form = took_unused form octets verdict old new given of_form
unused_kept (Err e) form octets old new given of_form = tt
