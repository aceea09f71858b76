-- What is answered to a document.
use Rattle.std.specs.Prelude.{◌≡◌, ℕ, List, [], Option, Some, None, is_none, Ok, Err, ⊤, if◌then◌else◌}
use Rattle.std.specs.Io.KnownBytes.{Appends}
use Rattle.serde_json.specs.Data.{Data}
use Rattle.ov_io.specs.Json.{json_of}
use Rattle.config_types.specs.declared.config.Config.{Config}
use Rattle.config_model.specs.Faults.{fault_of}
use Rattle.config_model.specs.Input.{reach_at}
use Rattle.config_check.specs.Finding.{network_named}
use Rattle.config_check.specs.declared.refusal.Refusal.{Refusal}
use Rattle.config_check.specs.declared.refusal.Refusal.TheVariants.{BadReference}
use Rattle.compile_answers.specs.Answers.{DocumentAnswer, Taken, answer_bad, answer_checked, answer_good, answer_not_json, answer_refused}
use Rattle.compile_answers.specs.Answers.{compile_taken, taken_as, taken_from, taken_valid}
use Rattle.compile_answers.specs.declared.unfit.Reception.{Reception}
use Rattle.compile_answers.specs.declared.unfit.Reception.TheVariants as Received
use Rattle.compile_answers.specs.declared.unfit.Unfit.{Unfit}
use Rattle.compile_answers.specs.declared.unfit.Unfit.TheVariants as unfit
use Rattle.hitless_answers.specs.Answers.{hitless_answer}
use Rattle.inspect_answers.specs.Expectations.{Expectation, expect_at}
use Rattle.inspect_answers.specs.Expecting.{all_met, expect_in}
use Rattle.inspect_answers.specs.Explained.{why_in}
use Rattle.inspect_answers.specs.IdleLines.{idle_in}
use Rattle.inspect_json.specs.WayLines.{ways_in}
use Rattle.inspect_json.specs.declared.form.Form.{Form}
use Rattle.inspect_answers.specs.declared.asked.Asked.{Asked}
use Rattle.inspect_answers.specs.declared.asked.Asked.TheVariants as Asks
use Rattle.inspect_answers.specs.declared.expecting.AskedExpectations.{AskedExpectations}
use Rattle.inspect_answers.specs.declared.explaining.AskedReasons.{AskedReasons}
use Rattle.inspect_changes.specs.declared.pairs.Pairs.{Pairs}
use Rattle.inspect_changes.specs.declared.pairs.Pairs.TheVariants.{All, Between}
use Rattle.inspect_answers.specs.declared.verdict.Verdict.{Verdict}
use Rattle.inspect_answers.specs.declared.verdict.Verdict.TheVariants.{Good, Differs, NotJson, BadDocument, Refused}

-- the verdict on an input, and the text that is written of it
pub record Answer : Type 0 where
  pub verdict : Verdict
  pub text : List ℕ

-- the verdict on what was received
abbrev pub verdict_of : Reception → Verdict
verdict_of Received.Good = Good
verdict_of Received.NotJson = NotJson
verdict_of Received.BadDocument = BadDocument
verdict_of Received.Refused = Refused

-- an answer to a document, with the verdict on it
abbrev pub judged : DocumentAnswer → Answer
judged a = record { verdict = verdict_of a.verdict; text = a.text }

-- what is asked is answered
abbrev pub IsAnswer : Verdict → Type 0
IsAnswer Good = ⊤
IsAnswer Differs = ⊤
IsAnswer _ = ⊥

-- what is not fit is answered with its one line, and nothing is said of want of memory
abbrev pub IsUnfit : Unfit → Answer → Type 0
IsUnfit unfit.NotJson answer = answer ≡ judged answer_not_json
IsUnfit (unfit.BadDocument f) answer = answer ≡ judged (answer_bad (fault_of f))
IsUnfit (unfit.Refused r) answer = answer ≡ judged (answer_refused r)
IsUnfit unfit.NoMemory answer = ⊤

-- the verdict of an answer was given, and its text taken whole
pub record WasGiven (answer : Answer) (verdict : Verdict) (old new : Option (List ℕ)) : Type 0 where
  pub is : verdict ≡ answer.verdict
  pub taken : Appends old new answer.text

-- what is answered to what is taken, or the one line of what is not fit, with the verdict on it
abbrev pub judged_by : {A : Type 0} → (A → Answer) → Taken A → Answer
judged_by answer (Ok x) = answer x
judged_by answer (Err a) = judged a

-- a network of this name is not there
abbrev pub missing : Config → List ℕ → Option Refusal
missing c name = if is_none (network_named c name) then Some (BadReference name) else None

abbrev pub first_missing : Option Refusal → Option Refusal → Option Refusal
first_missing (Some r) other = Some r
first_missing None other = other

-- the first of the networks that are asked for which is not there, as what is refused
abbrev pub missing_of : Pairs → Config → Option Refusal
missing_of All c = None
missing_of (Between from to) c = first_missing (missing c from) (missing c to)

-- the ways of a configuration that is valid
abbrev pub valid_answer : Form → Pairs → Config → Answer
valid_answer form pairs c = judged (answer_checked (missing_of pairs c) (ways_in form pairs c))

-- what `inspect ways` answers to a document, of which it takes what `compile` takes
unfoldable pub ways_answer : Form → Pairs → List ℕ → Answer
ways_answer form pairs octets = judged_by (λ v. valid_answer form pairs v.config) (taken_from compile_taken (json_of octets))

-- what is expected of packets is met by each, or not
abbrev pub expected_answer : Form → Config → List Expectation → Answer
expected_answer form c packets = record {
  verdict = if all_met c packets then Good else Differs;
  text = expect_in form c packets;
}

-- `expect` takes packets of which something is expected
unfoldable pub expect_taken : Data → Taken AskedExpectations
expect_taken d = taken_as (λ r. taken_valid (λ x. record { valid = x; packets = r.packets }) r.input) (expect_at [] d)

-- what `inspect expect` answers to a document
unfoldable pub expect_answer : Form → List ℕ → Answer
expect_answer form octets =
    judged_by (λ q. expected_answer form q.valid.config q.packets) (taken_from expect_taken (json_of octets))

-- what `inspect unused` answers to a document, of which it takes what `compile` takes
unfoldable pub unused_answer : Form → List ℕ → Answer
unused_answer form octets =
    judged_by (λ v. judged (answer_good (idle_in form v.config))) (taken_from compile_taken (json_of octets))

-- `why` takes packets, as `reach` does
unfoldable pub why_taken : Data → Taken AskedReasons
why_taken d = taken_as (λ r. taken_valid (λ x. record { valid = x; packets = r.packets }) r.input) (reach_at [] d)

-- what `inspect why` answers to a document
unfoldable pub why_answer : Form → List ℕ → Answer
why_answer form octets =
    judged_by (λ q. judged (answer_good (why_in form q.valid q.packets))) (taken_from why_taken (json_of octets))

-- what is answered to a document
abbrev pub answer : Asked → List ℕ → Answer
answer (Asks.Ways form pairs) octets = ways_answer form pairs octets
answer (Asks.Expect form) octets = expect_answer form octets
answer (Asks.Unused form) octets = unused_answer form octets
answer (Asks.Why form) octets = why_answer form octets
answer (Asks.Hitless form) octets = judged (hitless_answer form octets)
