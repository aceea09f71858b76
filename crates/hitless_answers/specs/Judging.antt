-- What is said of edits, each of which is made of what the accepted ones before it made.
use Rattle.std.specs.Prelude.{List, [], ◌∷◌, Option, Some, None}
use Rattle.config_types.specs.declared.edit.Edit.{Edit}
use Rattle.config_check.specs.Checked.{Checked}
use Rattle.config_check.specs.Edits.{edited}
use Rattle.schedule_script.specs.Kept.{Kept, ties_in}
use Rattle.schedule_script.specs.Ties.{Ties}
use Rattle.schedule_script.specs.Tied.{tied_fault}
use Rattle.schedule_script.specs.Tying.{joined, ties_of}
use Rattle.schedule_script.specs.declared.edits.TiedFault.{TiedFault}
use Rattle.hitless_cells.specs.Lines.{interruptions}
use Rattle.hitless_answers.specs.declared.judging.Judgement.{Judgement}
use Rattle.hitless_answers.specs.declared.judging.Judgement.TheVariants.{Refused, Made}

-- what is configured after some edits, and the ties of the configurations so far
pub record Standing : Type 0 where
  pub checked : Checked
  pub ties : Ties

-- what is configured after some edits, with the ties as the entries that are kept of them
pub record Held : Type 0 where
  pub checked : Checked
  pub kept : Kept

abbrev pub standing : Held → Standing
standing h = record { checked = h.checked; ties = ties_in h.kept }

abbrev pub fault_in : Edit → Standing → Option TiedFault
fault_in e s = tied_fault s.checked s.ties e

-- before the first edit
abbrev pub standing_first : Checked → Standing
standing_first x = record { checked = x; ties = ties_of x }

-- a refused edit leaves all as it was
abbrev pub standing_by : Edit → Option TiedFault → Standing → Standing
standing_by e None s = record { checked = edited e s.checked; ties = joined s.ties (edited e s.checked) }
standing_by e (Some fault) s = s

abbrev pub standing_next : Edit → Standing → Standing
standing_next e s = standing_by e (fault_in e s) s

abbrev pub judged_by : Edit → Option TiedFault → Standing → Judgement
judged_by e None s = Made (interruptions s.checked (edited e s.checked))
judged_by e (Some fault) s = Refused fault

-- an edit is refused, or made, and then interrupts some packets or none
abbrev pub judged : Standing → Edit → Judgement
judged s e = judged_by e (fault_in e s) s

-- what is said of each of some edits, in order
abbrev pub judgements : List Edit → Standing → List Judgement
judgements [] s = []
judgements (e ∷ es) s = judged s e ∷ judgements es (standing_next e s)
