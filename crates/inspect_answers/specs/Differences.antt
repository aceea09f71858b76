-- What is answered to two documents.
use Rattle.std.specs.Prelude.{◌≡◌, ◌≢◌, ℕ, List, [], Option, Ok, Err, ⊤}
use Rattle.std.specs.Io.KnownBytes.{Appends}
use Rattle.ov_io.specs.Json.{json_of}
use Rattle.config_types.specs.declared.config.Config.{Config}
use Rattle.config_check.specs.Checked.{Checked}
use Rattle.compile_answers.specs.Answers.{DocumentAnswer, Taken, answer_good, compile_taken, taken_from}
use Rattle.compile_answers.specs.declared.unfit.Reception.{Reception}
use Rattle.compile_answers.specs.declared.unfit.Reception.TheVariants.{Good}
use Rattle.inspect_changes.specs.DifferenceLines.{diff_text}
use Rattle.inspect_json.specs.ChangeLines.{diff_in}
use Rattle.inspect_json.specs.declared.form.Form.{Form}
use Rattle.inspect_answers.specs.declared.diffing.Comparison.{Comparison}
use Rattle.inspect_answers.specs.declared.diffing.Comparison.TheVariants as Found

-- what is answered to the configuration that is taken, or the one line of what is not fit
abbrev pub answered_by : (Config → DocumentAnswer) → Taken Checked → DocumentAnswer
answered_by answer (Ok x) = answer x.config
answered_by answer (Err a) = a

-- what is answered to a document of which the configuration is valid, or the one line of what is not fit
unfoldable pub to_document : (Config → DocumentAnswer) → List ℕ → DocumentAnswer
to_document answer octets = answered_by answer (taken_from compile_taken (json_of octets))

-- what `inspect diff` answers to two documents: the first of them that is not fit, or what differs
abbrev pub diff_answer : List ℕ → List ℕ → DocumentAnswer
diff_answer before after = to_document (λ c. to_document (λ d. answer_good (diff_text c d)) after) before

-- what `inspect diff` answers to two documents, with the lines in the form that is asked for
abbrev pub diff_answer_in : Form → List ℕ → List ℕ → DocumentAnswer
diff_answer_in form before after = to_document (λ c. to_document (λ d. answer_good (diff_in form c d)) after) before

-- what two documents are found to be says whether a text has a line
abbrev pub SaysWhether : Comparison → List ℕ → Type 0
SaysWhether Found.Same text = text ≡ []
SaysWhether Found.Differs text = text ≢ []
SaysWhether (Found.UnfitBefore reception) text = ⊥
SaysWhether (Found.UnfitAfter reception) text = ⊥

-- what two documents are found to be is the verdict of an answer, with or without a line
abbrev pub Tells : Comparison → DocumentAnswer → Type 0
Tells Found.Same answer = (answer.verdict ≡ Good) × (answer.text ≡ [])
Tells Found.Differs answer = (answer.verdict ≡ Good) × (answer.text ≢ [])
Tells (Found.UnfitBefore reception) answer = (answer.verdict ≡ reception) × (reception ≢ Good)
Tells (Found.UnfitAfter reception) answer = (answer.verdict ≡ reception) × (reception ≢ Good)

-- what was found was told by an answer, and its text taken whole in the form of another
pub record WasSaid (answer formed : DocumentAnswer) (found : Comparison) (old new : Option (List ℕ)) : Type 0 where
  pub tells : Tells found answer
  pub taken : Appends old new formed.text

abbrev pub IsOfBefore : Comparison → Type 0
IsOfBefore (Found.UnfitBefore reception) = ⊤
IsOfBefore _ = ⊥

abbrev pub IsOfAfter : Comparison → Type 0
IsOfAfter (Found.UnfitAfter reception) = ⊤
IsOfAfter _ = ⊥

-- what is found of a document alone
abbrev pub found_alone : List ℕ → Reception
found_alone octets = (to_document (λ c. answer_good []) octets).verdict

-- the document after is fit, or found to be this
abbrev pub IsWhichAfter : Comparison → List ℕ → Type 0
IsWhichAfter Found.Same after = found_alone after ≡ Good
IsWhichAfter Found.Differs after = found_alone after ≡ Good
IsWhichAfter (Found.UnfitBefore reception) after = ⊥
IsWhichAfter (Found.UnfitAfter reception) after = found_alone after ≡ reception

-- the document that is not fit is the one before, or the one after where the one before is fit
abbrev pub IsWhich : Comparison → List ℕ → List ℕ → Type 0
IsWhich Found.Same before after = (found_alone before ≡ Good) × (found_alone after ≡ Good)
IsWhich Found.Differs before after = (found_alone before ≡ Good) × (found_alone after ≡ Good)
IsWhich (Found.UnfitBefore reception) before after = found_alone before ≡ reception
IsWhich (Found.UnfitAfter reception) before after = (found_alone before ≡ Good) × (found_alone after ≡ reception)
