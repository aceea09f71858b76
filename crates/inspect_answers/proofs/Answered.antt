-- What is answered was read of a document, and breaks no rule.
use Rattle.std.proofs.Common.{◌≡◌, ℕ, List, Option, Some, None, Result, Ok, Err, refl, ◌∙◌}
use Rattle.serde_json.specs.Data.{Data}
use Rattle.ov_io.specs.Json.{json_of}
use Rattle.config_model.specs.Faults.{Fault}
use Rattle.config_model.specs.declared.input.CompileInput.{CompileInput}
use Rattle.config_check.specs.Checked.{Checked}
use Rattle.config_check.specs.Rules.{first_broken}
use Rattle.config_check.specs.declared.refusal.Refusal.{Refusal}
use Rattle.compile_answers.specs.Answers.{Taken, taken_as, taken_from, taken_unless, taken_valid}
use Rattle.inspect_answers.specs.Answers.{Answer, IsAnswer, judged_by}

-- a valid configuration was read, and this is answered to what was read
pub record IsRead {Input : Type 0} (read : Data → Result Input Fault) (input : Input → CompileInput) (said : Input → Answer) (octets : List ℕ)
    (answer : Answer) : Type 0 where
  pub asked : Input
  pub written : (d : Data) × (json_of octets ≡ Some d) × (read d ≡ Ok asked)
  pub valid : first_broken (input asked).topology (input asked).config ≡ None
  pub is : answer ≡ said asked

module _ {Input A : Type 0} (read : Data → Result Input Fault) (input : Input → CompileInput) (make : Input → Checked → A) (answer : A → Answer)
    (octets : List ℕ) where
  abbrev take : Input → Taken A
  take r = taken_valid (make r) (input r)

  abbrev whole : Answer
  whole = judged_by answer (taken_from (λ d. taken_as take (read d)) (json_of octets))

  abbrev IsSo : Type 0
  IsSo = IsRead read input (λ r. answer (make r (record { topology = (input r).topology; config = (input r).config }))) octets whole

  by_rules : (broken : Option Refusal) (x : A) → IsAnswer (judged_by answer (taken_unless broken x)).verdict
      → (broken ≡ None) × (judged_by answer (taken_unless broken x) ≡ answer x)
  by_rules (Some r) x h = absurd h
  by_rules None x h = (refl, refl)

  by_reading : (d : Data) → json_of octets ≡ Some d → (r : Result Input Fault) → read d ≡ r → whole ≡ judged_by answer (taken_as take r)
      → IsAnswer (judged_by answer (taken_as take r)).verdict → IsSo
  by_reading d e (Err f) is same h = absurd h
  by_reading d e (Ok r) is same h =
      let parts = by_rules (first_broken (input r).topology (input r).config) (make r (record { topology = (input r).topology; config = (input r).config })) h in
      record { asked = r; written = (d, e, is); valid = parts.0; is = same ∙ parts.1 }

  by_json : (o : Option Data) → json_of octets ≡ o → whole ≡ judged_by answer (taken_from (λ d. taken_as take (read d)) o)
      → IsAnswer (judged_by answer (taken_from (λ d. taken_as take (read d)) o)).verdict → IsSo
  by_json None e same h = absurd h
  by_json (Some d) e same h = by_reading d e (read d) refl same h

  pub is_read : IsAnswer whole.verdict → IsSo
  is_read h = by_json (json_of octets) refl refl h
