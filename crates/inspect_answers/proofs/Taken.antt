-- What is taken of the answer of `expect` is as it promises.
use Rattle.std.proofs.Common.{◌≡◌, ◌<◌, ◌^◌, ◌↔◌, ℕ, true, cond, List, [], ◌++◌, Option, None, Result, Ok, Err}
use Rattle.std.proofs.Common.{refl, sym, ap, ◌∙◌, subst, length, flat_map, arith}
use Rattle.std.specs.Prelude.{IfOk}
use Rattle.std.specs.List.{All, Any, Contains}
use Rattle.std.specs.Io.KnownBytes.{Appends}
use Rattle.ov_types.specs.declared.packet.Outcome.{Outcome}
use Rattle.config_types.specs.Form.{has_config_form}
use Rattle.config_types.specs.declared.config.Config.{Config}
use Rattle.config_types.specs.declared.topology.Topology.{Topology}
use Rattle.config_check.specs.Rules.{first_broken}
use Rattle.inspect_answers.specs.Answers.{Answer, IsAnswer, WasGiven, expect_answer, expect_taken, expected_answer}
use Rattle.inspect_answers.specs.Expectations.{Expectation, expect_at}
use Rattle.inspect_answers.specs.declared.expecting.AskedExpectations.{AskedExpectations}
use Rattle.inspect_answers.specs.ExpectValues.{has_expected_size}
use Rattle.inspect_answers.specs.Expecting.{all_met, counts_in, expect_in, unmet_count}
use Rattle.inspect_json.specs.Form.{IsReadBack}
use Rattle.inspect_json.specs.Sizes.{has_outcome_size}
use Rattle.inspect_json.specs.declared.form.Form.{Form}
use Rattle.inspect_answers.specs.InForm.{AreExpectedInForm}
use Rattle.inspect_answers.proofs.Answered.{IsRead, is_read}
use Rattle.inspect_answers.proofs.Formed.{in_form}
use Rattle.inspect_answers.specs.Runs.{status_of}
use Rattle.inspect_answers.specs.Unmet.{ComesSo, TookExpected, Unmet, line_in, line_value}
use Rattle.inspect_answers.specs.declared.top.Status.TheVariants as Ended
use Rattle.inspect_answers.specs.declared.verdict.Verdict.{Verdict}
use Rattle.inspect_answers.specs.declared.verdict.Verdict.TheVariants as Found
use Rattle.inspect_answers.proofs.ExpectReadBack.{counts_reads, unmet_reads}
use Rattle.inspect_answers.proofs.Otherwise.{count_of_lines, differs_where, done_where, exact, fewer, in_order, lines_from, text_of_lines}
use Rattle.inspect_answers.proofs.PacketSizes.{outcome_sized}
use Rattle.inspect_answers.proofs.RuleSizes.{within}

is_good : (form : Form) (octets : List ℕ) → IsAnswer (expect_answer form octets).verdict
    → IsRead (expect_at []) (λ r. r.input) (λ r. expected_answer form r.input.config r.packets) octets (expect_answer form octets)
unfolding expect_answer expect_taken
is_good form octets h =
    is_read (expect_at []) (λ r. r.input) (λ r x. record { valid = x; packets = r.packets }) (λ (q : AskedExpectations). expected_answer form q.valid.config q.packets) octets h

line_reads : (t : Topology) (c : Config) → has_config_form c ≡ true → first_broken t c ≡ None → (es : List Expectation) → length es < 2 ^ 64
    → (line : Unmet) → Contains (lines_from c 1 es) line → has_expected_size line.expected ≡ true → IsReadBack (line_value c line)
line_reads t c form valid es few line at sized =
    let unmet = (exact c es line).0 at in
    let inside = within es unmet.place unmet.expectation unmet.stands in
    let number = unmet.number in
    unmet_reads c line.number line.expected line.outcome form (omega (arith, number, inside, few)) sized
    (subst (λ (o : Outcome). has_outcome_size o ≡ true) (sym unmet.outcome) (outcome_sized t c form valid unmet.expectation.packet))

pub took_expected : (form : Form) (octets : List ℕ) (verdict : Verdict) (old new : Option (List ℕ)) → WasGiven (expect_answer form octets) verdict old new
    → (IsAnswer verdict → AreExpectedInForm octets) → IsAnswer verdict → TookExpected form (status_of verdict) octets old new
unfolding expect_in
took_expected form octets verdict old new given of_form answers =
    let good = is_good form octets (subst IsAnswer given.is answers) in
    let c = good.asked.input.config in
    let es = good.asked.packets in
    let formed : has_config_form c ≡ true = in_form (expect_at []) (λ r. r.input.config) octets good.written.0 good.asked (of_form answers) good.written.1 good.written.2 in
    let text : (expect_answer form octets).text ≡ flat_map (line_in form c) (lines_from c 1 es) ++ counts_in form (length es) (length (lines_from c 1 es)) =
    ap (λ (a : Answer). a.text) good.is
    ∙ ap (λ (t : List ℕ). t ++ counts_in form (length es) (unmet_count c es)) (text_of_lines form c 1 es)
    ∙ ap (λ (n : ℕ). flat_map (line_in form c) (lines_from c 1 es) ++ counts_in form (length es) n) (count_of_lines c 1 es) in
    let verdict_is : cond (all_met c es) Found.Good Found.Differs ≡ verdict = sym (given.is ∙ ap (λ (a : Answer). a.verdict) good.is) in
    record {
      read = good.asked;
      written = good.written;
      valid = good.valid;
      lines = lines_from c 1 es;
      taken = subst (λ (t : List ℕ). Appends old new t) text given.taken;
      exact = exact c es;
      in_order = in_order c 1 es;
      met = subst (λ (v : Verdict). (status_of v ≡ Ended.Done) ↔ All (ComesSo c) es) verdict_is (done_where c es (all_met c es) refl);
      unmet = subst (λ (v : Verdict). (status_of v ≡ Ended.Differs) ↔ Any (λ e. ¬ ComesSo c e) es) verdict_is (differs_where c es (all_met c es) refl);
      reads = line_reads good.asked.input.topology c formed good.valid es;
      counts_read = λ few. let fewer_lines = fewer c 1 es in counts_reads (length es) (length (lines_from c 1 es)) few (omega (arith, fewer_lines, few));
    }

pub expected_kept : {E : Type 0} (r : Result Verdict E) (form : Form) (octets : List ℕ) (old new : Option (List ℕ))
    → IfOk r (λ verdict. WasGiven (expect_answer form octets) verdict old new) → IfOk r (λ verdict. IsAnswer verdict → AreExpectedInForm octets)
    → IfOk r (λ verdict. IsAnswer verdict → TookExpected form (status_of verdict) octets old new)
expected_kept (Ok verdict) form octets old new given of_form = took_expected form octets verdict old new given of_form
expected_kept (Err e) form octets old new given of_form = tt
