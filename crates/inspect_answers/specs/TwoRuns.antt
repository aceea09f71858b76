-- How a run over two documents ends, by the octets that their sources held.
use Rattle.std.specs.Prelude.{◌≡◌, ◌≢◌, ℕ, ◌≤◌, List, [], length, Option, Some, None, ⊤}
use Rattle.compile_answers.specs.Answers.{DocumentAnswer}
use Rattle.compile_answers.specs.declared.unfit.Reception.{Reception}
use Rattle.compile_answers.specs.declared.unfit.Reception.TheVariants as Received
use Rattle.inspect_answers.specs.Answers.{verdict_of}
use Rattle.inspect_answers.specs.Differences.{diff_answer, diff_answer_in, found_alone}
use Rattle.inspect_answers.specs.Runs.{status_of}
use Rattle.inspect_answers.specs.declared.comparing.Which.{Which}
use Rattle.inspect_answers.specs.declared.comparing.Which.TheVariants.{Before, After}
use Rattle.inspect_answers.specs.declared.diffing.Comparison.{Comparison}
use Rattle.inspect_answers.specs.declared.diffing.Comparison.TheVariants as Found
use Rattle.inspect_answers.specs.declared.top.Status.{Status}
use Rattle.inspect_answers.specs.declared.top.Status.TheVariants as Ended
use Rattle.inspect_json.specs.declared.form.Form.{Form}

-- a fact of both inputs; nothing is said where a source does not tell
abbrev pub OfBoth : Option (List ℕ) → Option (List ℕ) → (List ℕ → List ℕ → Type 0) → Type 0
OfBoth None held Fact = ⊤
OfBoth (Some before) None Fact = ⊤
OfBoth (Some before) (Some after) Fact = Fact before after

-- a fact of one of two
abbrev pub OfWhich : Which → Type 0 → Type 0 → Type 0
OfWhich Before first second = first
OfWhich After first second = second

-- both inputs are no longer than the limit
abbrev pub AreShort : ℕ → List ℕ → List ℕ → Type 0
AreShort limit before after = (length before ≤ limit) × (length after ≤ limit)

-- both are no longer than the limit, and this one of them is the first that is not fit, and is found to be this
abbrev pub IsFoundOf : ℕ → Which → Reception → List ℕ → List ℕ → Type 0
IsFoundOf limit Before r before after = AreShort limit before after × (found_alone before ≡ r)
IsFoundOf limit After r before after =
    AreShort limit before after × (found_alone before ≡ Received.Good) × (found_alone after ≡ r)

-- both are no longer than the limit and fit
abbrev pub AreFit : ℕ → List ℕ → List ℕ → Type 0
AreFit limit before after =
    AreShort limit before after × (found_alone before ≡ Received.Good) × (found_alone after ≡ Received.Good)

-- both are fit, and nothing differs between them
abbrev pub AreAlike : ℕ → List ℕ → List ℕ → Type 0
AreAlike limit before after = AreFit limit before after × ((diff_answer before after).text ≡ [])

-- both are fit, and something differs
abbrev pub AreOtherwise : ℕ → List ℕ → List ℕ → Type 0
AreOtherwise limit before after = AreFit limit before after × ((diff_answer before after).text ≢ [])

-- the text is what is written of two inputs, in the form that is asked for
abbrev pub WritesOf : Form → List ℕ → List ℕ → List ℕ → Type 0
WritesOf form before after text = text ≡ (diff_answer_in form before after).text

-- the status tells what two documents are found to be
abbrev pub status_found : Comparison → Status
status_found Found.Same = Ended.Done
status_found Found.Differs = Ended.Differs
status_found (Found.UnfitBefore reception) = status_of (verdict_of reception)
status_found (Found.UnfitAfter reception) = status_of (verdict_of reception)

-- the document that the status is of; where that is of neither, the one before
abbrev pub which_found : Comparison → Which
which_found (Found.UnfitAfter reception) = After
which_found _ = Before

-- the status is that of an answer to two documents
abbrev pub IsEndOf : Status → DocumentAnswer → Type 0
IsEndOf Ended.Done answer = (answer.verdict ≡ Received.Good) × (answer.text ≡ [])
IsEndOf Ended.Differs answer = (answer.verdict ≡ Received.Good) × (answer.text ≢ [])
IsEndOf Ended.NotJson answer = answer.verdict ≡ Received.NotJson
IsEndOf Ended.BadDocument answer = answer.verdict ≡ Received.BadDocument
IsEndOf Ended.Refused answer = answer.verdict ≡ Received.Refused
IsEndOf _ answer = ⊥
