-- What `hitless` answers to an input.
use Rattle.std.specs.Prelude.{ℕ, List, [], IsTrue}
use Rattle.std.specs.List.{list_all}
use Rattle.serde_json.specs.Data.{Data}
use Rattle.config_types.specs.Form.{has_edit_form}
use Rattle.config_types.specs.declared.edit.Edit.{Edit}
use Rattle.config_check.specs.Checked.{Checked}
use Rattle.compile_answers.specs.Answers.{DocumentAnswer, Taken, answer_by, taken_as, taken_from, taken_valid}
use Rattle.ov_io.specs.Json.{json_of}
use Rattle.inspect_json.specs.declared.form.Form.{Form}
use Rattle.hitless_answers.specs.FormLines.{hitless_in}
use Rattle.hitless_answers.specs.Reading.{hitless_at}
use Rattle.hitless_answers.specs.declared.answering.AskedEdits.{AskedEdits}
use Rattle.hitless_answers.specs.declared.input.HitlessInput.{HitlessInput}

-- `hitless` takes edits too
unfoldable pub hitless_taken : Data → Taken AskedEdits
hitless_taken d =
    taken_as (λ r. taken_valid (λ x. record { valid = x; edits = r.edits }) r.input) (hitless_at [] d)

-- what `hitless` answers to a document
unfoldable pub hitless_answer : Form → List ℕ → DocumentAnswer
hitless_answer form octets = answer_by (λ q. hitless_in form q.valid q.edits) (taken_from hitless_taken (json_of octets))

-- each edit has the written form
abbrev pub FitsEdits : AskedEdits → Type 0
FitsEdits asked = IsTrue (list_all has_edit_form asked.edits)

-- an input with this opening configuration and these edits
abbrev pub input_of : Checked → List Edit → HitlessInput
input_of x edits = record { input = record { topology = x.topology; config = x.config }; edits = edits }
