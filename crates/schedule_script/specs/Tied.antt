-- When an edit is refused by what it makes, or by the ties of the configurations so far.
use Rattle.std.specs.Prelude.{◌≡◌, Option, Some, option_map}
use Rattle.ov_types.specs.First.{◌<|>◌}
use Rattle.config_types.specs.declared.edit.Edit.{Edit}
use Rattle.config_check.specs.Checked.{Checked}
use Rattle.config_check.specs.Edits.{edit_fault, edited}
use Rattle.config_check.specs.declared.edits.EditRefusal.{EditRefusal}
use Rattle.config_check.specs.declared.edits.EditRefusal.TheVariants as Refusals
use Rattle.schedule_script.specs.Broken.{broken_tie}
use Rattle.schedule_script.specs.Ties.{Ties}
use Rattle.schedule_script.specs.declared.edits.TiedFault.{TiedFault}
use Rattle.schedule_script.specs.declared.edits.TiedFault.TheVariants.{Edit as Faulty, Tied}
use Rattle.schedule_script.specs.declared.edits.TiedRefusal.{TiedRefusal}
use Rattle.schedule_script.specs.declared.edits.TiedRefusal.TheVariants as Tied_refusals

-- the fault of what breaks a tie: the first that it breaks
abbrev pub tie_fault : Ties → Checked → Option TiedFault
tie_fault t x = option_map (λ tie. Tied tie) (broken_tie t x)

-- the fault of an edit, if it has one: what it deletes is missing, what it makes breaks a rule, or it breaks a tie
abbrev pub tied_fault : Checked → Ties → Edit → Option TiedFault
tied_fault v t e = option_map (λ f. Faulty f) (edit_fault v e) <|> tie_fault t (edited e v)

-- a refusal names the fault that was found; want of memory says nothing
abbrev pub RefusesTied : TiedRefusal → Option TiedFault → Type 0
RefusesTied (Tied_refusals.Edit f) found = found ≡ Some f
RefusesTied Tied_refusals.NoMemory found = Unit {0}

-- a refusal without ties, as one with them
abbrev pub as_tied : EditRefusal → TiedRefusal
as_tied (Refusals.Edit f) = Tied_refusals.Edit (Faulty f)
as_tied Refusals.NoMemory = Tied_refusals.NoMemory
