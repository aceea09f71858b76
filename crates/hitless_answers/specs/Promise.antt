-- What is promised of what `hitless` says.
use Rattle.std.specs.Prelude.{◌≡◌, ◌<◌, ◌^◌, ◌+◌, ◌↔◌, ℕ, IsTrue, List, [], ◌∷◌, length, Option, Some, None, Ok, ⊤}
use Rattle.std.specs.List.{All}
use Rattle.std.specs.Io.KnownBytes.{Appends}
use Rattle.std.specs.Str.{IsUtf8}
use Rattle.config_types.specs.declared.config.Config.{Config}
use Rattle.config_types.specs.declared.edit.Edit.{Edit}
use Rattle.config_check.specs.Checked.{Checked}
use Rattle.config_check.specs.Edits.{edited}
use Rattle.compile_answers.specs.Answers.{AreDocument}
use Rattle.hitless_cells.specs.Keeping.{IsHitless, IsValidAsWritten}
use Rattle.hitless_cells.specs.Interrupted.{EachHasLine, IsInterrupted}
use Rattle.hitless_cells.specs.declared.lines.Interruption.{Interruption}
use Rattle.hitless_answers.specs.Judging.{Standing, fault_in, standing_first, standing_next}
use Rattle.inspect_json.specs.Form.{IsReadBack}
use Rattle.inspect_json.specs.declared.form.Form.{Form}
use Rattle.hitless_answers.specs.EditValues.{count_value, has_packet_size, packet_value, refused_value}
use Rattle.hitless_answers.specs.FormLines.{lines_in}
use Rattle.hitless_answers.specs.Lines.{tied_fault_text}
use Rattle.hitless_answers.specs.Reading.{hitless_at}
use Rattle.hitless_answers.specs.declared.input.HitlessInput.{HitlessInput}
use Rattle.hitless_answers.specs.declared.judging.Judgement.{Judgement}
use Rattle.hitless_answers.specs.declared.judging.Judgement.TheVariants.{Refused, Made}

-- an edit is accepted, it has no line exactly where the change is hitless, each line is of a packet that the change interrupts,
-- and each such packet has a line
pub record IsMade (s : Standing) (e : Edit) (lines : List Interruption) : Type 0 where
  pub accepted : fault_in e s ≡ None
  pub valid : IsValidAsWritten (edited e s.checked)
  pub hitless : (lines ≡ []) ↔ IsHitless s.checked (edited e s.checked)
  pub interrupted : All (IsInterrupted s.checked (edited e s.checked)) lines
  pub each : EachHasLine s.checked (edited e s.checked) lines

-- what is said of an edit: it is refused for its fault, or made
abbrev pub IsSaidOf : Standing → Edit → Judgement → Type 0
IsSaidOf s e (Refused fault) = fault_in e s ≡ Some fault
IsSaidOf s e (Made lines) = IsMade s e lines

-- what is said of edits one after the other, each of what the accepted ones before it made
abbrev pub AreSaidOf : Standing → List Edit → List Judgement → Type 0
AreSaidOf s [] [] = ⊤
AreSaidOf s [] (j ∷ js) = ⊥
AreSaidOf s (e ∷ es) [] = ⊥
AreSaidOf s (e ∷ es) (j ∷ js) = IsSaidOf s e j × AreSaidOf (standing_next e s) es js

-- the JSON of each line of an edit that is made reads as what it says, where its numbers have the sizes of their types
pub record AreReadBack (c : Config) (n : ℕ) (lines : List Interruption) : Type 0 where
  pub count : length lines < 2 ^ 64 → IsReadBack (count_value n (length lines))
  pub each : All (λ l. IsTrue (has_packet_size l) → IsReadBack (packet_value c n l)) lines

-- the JSON of what is said of an edit of a number reads as what it says, a refusal where its text is UTF-8
abbrev pub ReadsSo : Config → ℕ → Judgement → Type 0
ReadsSo c n (Refused fault) = IsUtf8 (tied_fault_text fault) → IsReadBack (refused_value n fault)
ReadsSo c n (Made lines) = AreReadBack c n lines

-- the JSON of what is said of edits one after the other, the first with a number, reads as what it says
abbrev pub AllReadSo : ℕ → List Edit → Standing → List Judgement → Type 0
AllReadSo n [] s js = ⊤
AllReadSo n (e ∷ es) s [] = ⊤
AllReadSo n (e ∷ es) s (j ∷ js) = (n < 2 ^ 64 → ReadsSo (standing_next e s).checked.config n j) × AllReadSo (n + 1) es (standing_next e s) js

-- the opening configuration of an input, with its topology
abbrev pub opening_of : HitlessInput → Checked
opening_of r = record { topology = r.input.topology; config = r.input.config }

-- octets are a document of this input, its configuration is valid, and what was taken is the lines of what is said of its edits,
-- which count from 1, in the form that is asked for; and the JSON of each line reads as what it says
pub record TookJudgements (form : Form) (octets : List ℕ) (old new : Option (List ℕ)) : Type 0 where
  pub input : HitlessInput
  pub read : AreDocument octets (λ d. hitless_at [] d ≡ Ok input)
  pub valid : IsValidAsWritten (opening_of input)
  pub judgements : List Judgement
  pub taken : Appends old new (lines_in form 1 input.edits (standing_first (opening_of input)) judgements)
  pub said : AreSaidOf (standing_first (opening_of input)) input.edits judgements
  pub reads : AllReadSo 1 input.edits (standing_first (opening_of input)) judgements
