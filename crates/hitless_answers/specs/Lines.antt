-- What `hitless` writes.
use Rattle.std.specs.Prelude.{ℕ, ◌+◌, List, [], ◌∷◌, ◌++◌, codes, decimal, flat_map, length}
use Rattle.ov_types.specs.declared.packet.Tuple.{Tuple}
use Rattle.config_types.specs.declared.edit.Edit.{Edit}
use Rattle.config_check.specs.Checked.{Checked}
use Rattle.schedule_script.specs.Texts.{tie_text}
use Rattle.schedule_script.specs.declared.edits.TiedFault.{TiedFault}
use Rattle.schedule_script.specs.declared.edits.TiedFault.TheVariants as Fault
use Rattle.report.specs.Refusals.{edit_fault_text}
use Rattle.hitless_cells.specs.declared.course.Course.{Course}
use Rattle.hitless_cells.specs.declared.course.Course.TheVariants.{Inside, Passing, Through}
use Rattle.hitless_cells.specs.declared.lines.Difference.{Difference}
use Rattle.hitless_cells.specs.declared.lines.Difference.TheVariants as Is
use Rattle.hitless_cells.specs.declared.lines.Interruption.{Interruption}
use Rattle.hitless_answers.specs.Judging.{judgements, standing_first}
use Rattle.hitless_answers.specs.declared.judging.Judgement.{Judgement}
use Rattle.hitless_answers.specs.declared.judging.Judgement.TheVariants.{Refused, Made}

-- why an edit is not made: what is missing, the rule that would be broken, or the tie
abbrev pub tied_fault_text : TiedFault → List ℕ
tied_fault_text (Fault.Edit fault) = edit_fault_text fault
tied_fault_text (Fault.Tied tie) = codes "Tied " ++ tie_text tie

-- a way: inside a network, by a pass rule, or by the use of a number
abbrev pub course_text : Course → List ℕ
course_text Inside = codes "inside"
course_text Passing = codes "pass"
course_text (Through use_no mirrored) = codes "use " ++ decimal use_no

abbrev pub tuple_text : Tuple → List ℕ
tuple_text t = decimal t.proto ++ (codes " " ++ (decimal t.sport ++ (codes " " ++ decimal t.dport)))

abbrev pub difference_text : Difference → List ℕ
difference_text Is.NotOfferedBefore = codes "not offered before"
difference_text Is.NotOfferedAfter = codes "not offered after"
difference_text Is.Network = codes "network"
difference_text Is.Node = codes "node"
difference_text Is.Services = codes "services"
difference_text Is.Subnet = codes "subnet"
difference_text Is.ControlNodes = codes "control nodes"
difference_text (Is.AnotherPort after) = codes "another port " ++ decimal after.0

-- the way before, the way after, and what differs first
abbrev pub ways_text : Interruption → List ℕ
ways_text l = course_text l.was ++ (codes " is " ++ (course_text l.becomes ++ (codes ": " ++ difference_text l.difference)))

-- the line of a packet that an edit interrupts
unfoldable pub packet_line : ℕ → Interruption → List ℕ
packet_line n l =
    decimal n ++ (codes " from " ++ (decimal l.from.0 ++ (codes " to " ++ (decimal l.to.0 ++ (codes " tuple "
    ++ (tuple_text l.tuple ++ (codes " was " ++ (ways_text l ++ (10 ∷ [])))))))))

unfoldable pub refused_line : ℕ → TiedFault → List ℕ
refused_line n fault = decimal n ++ (codes " refused " ++ (tied_fault_text fault ++ (10 ∷ [])))

unfoldable pub hitless_line : ℕ → List ℕ
hitless_line n = decimal n ++ (codes " hitless" ++ (10 ∷ []))

unfoldable pub count_line : ℕ → ℕ → List ℕ
count_line n count = decimal n ++ (codes " interrupts " ++ (decimal count ++ (10 ∷ [])))

-- the lines of an edit that is made, by the packets that it interrupts
abbrev pub made_text : ℕ → List Interruption → List ℕ
made_text n [] = hitless_line n
made_text n (l ∷ ls) = count_line n (length (l ∷ ls)) ++ flat_map (packet_line n) (l ∷ ls)

-- the lines of what is said of an edit of a number
abbrev pub judgement_text : ℕ → Judgement → List ℕ
judgement_text n (Refused fault) = refused_line n fault
judgement_text n (Made ls) = made_text n ls

-- the lines of each, the first with a number
abbrev pub lines_from : ℕ → List Judgement → List ℕ
lines_from n [] = []
lines_from n (j ∷ js) = judgement_text n j ++ lines_from (n + 1) js

-- what `hitless` writes of a valid configuration and of edits, which count from 1
unfoldable pub hitless_text : Checked → List Edit → List ℕ
hitless_text x edits = lines_from 1 (judgements edits (standing_first x))
