-- What `hitless` writes, in the form that is asked for.
use Rattle.std.specs.Prelude.{ℕ, ◌+◌, List, [], ◌∷◌, ◌++◌, flat_map, length}
use Rattle.config_types.specs.declared.config.Config.{Config}
use Rattle.config_types.specs.declared.edit.Edit.{Edit}
use Rattle.config_check.specs.Checked.{Checked}
use Rattle.schedule_script.specs.declared.edits.TiedFault.{TiedFault}
use Rattle.hitless_cells.specs.declared.lines.Interruption.{Interruption}
use Rattle.inspect_json.specs.Form.{json_line}
use Rattle.inspect_json.specs.declared.form.Form.{Form}
use Rattle.inspect_json.specs.declared.form.Form.TheVariants.{Text, Json}
use Rattle.hitless_answers.specs.EditValues.{count_value, packet_value, refused_value}
use Rattle.hitless_answers.specs.Judging.{Standing, judgements, standing_first, standing_next}
use Rattle.hitless_answers.specs.Lines.{judgement_text, lines_from}
use Rattle.hitless_answers.specs.declared.judging.Judgement.{Judgement}
use Rattle.hitless_answers.specs.declared.judging.Judgement.TheVariants.{Refused, Made}

abbrev pub packet_json : Config → ℕ → Interruption → List ℕ
packet_json c n l = json_line (packet_value c n l)

abbrev pub refused_json : ℕ → TiedFault → List ℕ
refused_json n fault = json_line (refused_value n fault)

abbrev pub count_json : ℕ → ℕ → List ℕ
count_json n count = json_line (count_value n count)

-- the lines of JSON of an edit that is made, by the packets that it interrupts, of which there may be none
abbrev pub made_json : Config → ℕ → List Interruption → List ℕ
made_json c n ls = count_json n (length ls) ++ flat_map (packet_json c n) ls

-- the lines of JSON of what is said of an edit of a number, by the configuration after it
abbrev pub judgement_json : Config → ℕ → Judgement → List ℕ
judgement_json c n (Refused fault) = refused_json n fault
judgement_json c n (Made ls) = made_json c n ls

abbrev pub judgement_in : Form → Config → ℕ → Judgement → List ℕ
judgement_in Text c n j = judgement_text n j
judgement_in Json c n j = judgement_json c n j

-- the lines of JSON of edits one after the other, the first with a number
abbrev pub json_from : ℕ → List Edit → Standing → List Judgement → List ℕ
json_from n [] s js = []
json_from n (e ∷ es) s [] = []
json_from n (e ∷ es) s (j ∷ js) = judgement_json (standing_next e s).checked.config n j ++ json_from (n + 1) es (standing_next e s) js

-- the lines of what is said of edits, the first with a number
abbrev pub lines_in : Form → ℕ → List Edit → Standing → List Judgement → List ℕ
lines_in Text n es s js = lines_from n js
lines_in Json n es s js = json_from n es s js

-- what `hitless` writes of a valid configuration and of edits, which count from 1
unfoldable pub hitless_in : Form → Checked → List Edit → List ℕ
hitless_in form x edits = lines_in form 1 edits (standing_first x) (judgements edits (standing_first x))
