-- What is held goes by its ties, however they are kept.
use Rattle.std.proofs.Common.{◌≡◌, ◌∙◌, List, None, Option, ap, option_map, sym}
use Rattle.ov_types.proofs.FirstLemmas.{both_none, mapped_none}
use Rattle.config_types.specs.declared.edit.Edit.{Edit}
use Rattle.config_check.specs.Checked.{Checked}
use Rattle.config_check.specs.Edits.{edit_fault, edited}
use Rattle.schedule_script.specs.Kept.{AreAlike, Kept, ties_in}
use Rattle.schedule_script.specs.Ties.{Ties}
use Rattle.schedule_script.specs.Tied.{tie_fault, tied_fault}
use Rattle.schedule_script.specs.declared.edits.TiedFault.{TiedFault}
use Rattle.schedule_script.specs.declared.edits.TiedFault.TheVariants as Fault
use Rattle.schedule_script.specs.Tying.{joined, ties_of}
use Rattle.schedule_script.proofs.Alike.{alike_is_one}
use Rattle.hitless_cells.specs.Lines.{interruptions}
use Rattle.hitless_cells.specs.declared.lines.Interruption.{Interruption}
use Rattle.hitless_answers.specs.Judging.{Standing, fault_in, judged, judged_by, standing, standing_by, standing_first}
use Rattle.hitless_answers.specs.declared.judging.Judgement.TheVariants.{Made}

pub starts : (x : Checked) (kept : Kept) → AreAlike (ties_in kept) (ties_of x) → standing (record { checked = x; kept = kept }) ≡ standing_first x
starts x kept h = λ k. record { checked = x; ties = alike_is_one (ties_in kept) (ties_of x) h k }

pub goes_on : (e : Edit) (s : Standing) (kept : Kept) → AreAlike (ties_in kept) (joined s.ties (edited e s.checked))
    → standing (record { checked = edited e s.checked; kept = kept }) ≡ standing_by e None s
goes_on e s kept h = λ k. record { checked = edited e s.checked; ties = alike_is_one (ties_in kept) (joined s.ties (edited e s.checked)) h k }

-- where ties refuse no edit, nothing else does
pub unfaulty : (x : Checked) (ties : Ties) (e : Edit) → tied_fault x ties e ≡ None → edit_fault x e ≡ None
unfaulty x ties e h =
    (mapped_none (λ f. Fault.Edit f) (edit_fault x e)).0 ((both_none (option_map (λ f. Fault.Edit f) (edit_fault x e)) (tie_fault ties (edited e x))).0 h).0

-- an edit that is not refused is made
pub judged_made : (s : Standing) (e : Edit) (lines : List Interruption) → fault_in e s ≡ None → lines ≡ interruptions s.checked (edited e s.checked)
    → Made lines ≡ judged s e
judged_made s e lines h is = ap (λ ls. Made ls) is ∙ ap (λ (o : Option TiedFault). judged_by e o s) (sym h)
