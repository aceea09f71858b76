use Rattle.std.proofs.Common.{◌≡◌, ◌⊎◌, ℕ, List, subst}
use Rattle.inspect_answers.specs.Differences.{Tells, diff_answer}
use Rattle.inspect_answers.specs.TwoRuns.{AreShort, IsEndOf}
use Rattle.inspect_answers.specs.declared.top.Status.TheVariants as Ended
use Rattle.inspect_answers.specs.declared.top.TheConstants.{MAX_INPUT_OCTETS}
use Rattle.inspect_answers.proofs.Changed.{completes, of_both}
use Rattle.inspect_answers.proofs.comparing.inspect_diff.Goals as goal

pub returns-in-Ok-answer_diff-clause-complete : goal.returns-in-Ok-answer_diff-clause-complete
returns-in-Ok-answer_diff-clause-complete g c = λ source_kept other_kept sink_kept asked.
    let found = c.in-Ok-answer_diff.found in
    let one = c.in-Ok.octets.items in
    let two = c.in-Ok-read_all.octets.items in
    let tells : Tells found (diff_answer one two) =
    subst (λ (t : List ℕ). Tells found (diff_answer one t)) c.as_slice-2.ensures.value
    (subst (λ (t : List ℕ). Tells found (diff_answer t c.as_slice-2.result.now)) c.as_slice.ensures.value c.in-Ok-answer_diff.ensures.given.tells) in
    of_both (g.S.Source.left c.args.before.now) (g.T.Source.left c.args.after.now) (g.S.Source.left c.read_all.new.source) (g.T.Source.left c.read_all-2.new.source) one two
    (λ (first second : List ℕ). AreShort MAX_INPUT_OCTETS first second
    → IsEndOf c.ending_of.result.status (diff_answer first second) ⊎ (c.ending_of.result.status ≡ Ended.NoMemory))
    c.in-Ok.ensures.whole c.in-Ok-read_all.ensures.whole
    (λ short. completes found c.ending_of.result (diff_answer one two) c.ending_of.ensures tells)
