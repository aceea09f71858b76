-- What is found of an edit, and what it makes of a network that keeps ties.
use Rattle.std.specs.Prelude.{◌≡◌, List}
use Rattle.std.specs.declared.option.Option.{Option}
use Rattle.std.specs.declared.option.Option.TheVariants.{Some}
use Rattle.std.proofs.Common.{refl, sym, ◌∙◌, ap, subst}
use Rattle.config_check.specs.Checked.{Checked}
use Rattle.config_check.specs.Edits as edits
use Rattle.config_check.specs.Edits.{edit_fault}
use Rattle.config_check.specs.declared.edits.EditFault.{EditFault}
use Rattle.config_types.specs.declared.edit.Edit.{Edit}
use Rattle.config_types.specs.declared.event.Event.TheVariants as event
use Rattle.schedule_script.specs.Kept.{AreAlike, Kept, ties_in}
use Rattle.schedule_script.specs.Ties.{Ties}
use Rattle.schedule_script.specs.declared.breaking.Tie.{Tie}
use Rattle.running_laws.specs.MachineLaws.Running.{ties_with}
use Rattle.running_nodes.specs.MachineModel.Events.{edit_answer}
use Rattle.running_nodes.specs.MachineModel.Setup.{edited_without, moves, opening}
use Rattle.running_nodes.specs.Seats.{Configuring, Seat, Who, seat}
use Rattle.running_laws.specs.Editing.{MakesEdit}
use Rattle.schedule_script.specs.declared.answer.Answer.TheVariants.{Did, EditRefused}
use Rattle.schedule_script.specs.declared.tied_answer.TiedAnswer.TheVariants.{Answered, EditTied}
use Rattle.machine_moment_laws.specs.Runs.{broken_by}
use Rattle.net_machine.specs.declared.ends.SessionEnds.{SessionEnds}
use Rattle.net_machine.specs.declared.tying.Found.{Found}
use Rattle.net_machine.specs.declared.tying.Found.TheVariants.{Made, Faulty, Tied}
use Rattle.net_machine.specs.Happenings.{EditsUnless}
use Rattle.net_machine.specs.Moving.{CanHappen, CanMoveIf}
use Rattle.net_machine.specs.Tying.{HappensTied, IsFound, broken_at, ties_then}

module _ (t : Kept) (x : Checked) (e : Edit) where
  abbrev tied : Ties
  tied = ties_in t

  -- what is said of ties goes by whether there is a fault
  pub broken_where : (o : Option EditFault) → edit_fault x e ≡ o
      → broken_at tied x (event.Edit e) ≡ broken_by tied (edited_without o (opening x) e)
  broken_where o is = ap (λ o. broken_by tied (edited_without o (opening x) e)) is

  pub then_where : (o : Option EditFault) → edit_fault x e ≡ o
      → ties_then tied x (event.Edit e) ≡ ties_with (edited_without o (opening x) e) tied
  then_where o is = ap (λ o. ties_with (edited_without o (opening x) e) tied) is

-- ---- the configuration node's setup is one
setup_of : Who → Checked → Checked
setup_of (Configuring x) other = x
setup_of _ other = other

pub same_setup : (x y : Checked) → Configuring x ≡ Configuring y → x ≡ y
unfolding setup_of
same_setup x y e = ap (λ (w : Who). setup_of w x) e

-- ---- what happens
module _ (x found : Checked) (e : Edit) (t then : Kept) (seats : List Seat) (order : List SessionEnds)
    (who : (seat seats 0).who ≡ Configuring found) (asked : (seat seats 0).who ≡ Configuring x) where
  pub one : found ≡ x
  one = same_setup found x (sym who ∙ asked)

  pub made_happens : (y : Checked) (after : List Seat) → IsFound found e t (Made y) then → MakesEdit seats x e after
      → HappensTied x order (event.Edit e) t seats (Answered Did) then after
  made_happens y after h makes =
      let is = subst (λ (z : Checked). IsFound z e t (Made y) then) one h in (
        is.2,
        is.3,
        (sym (ap edit_answer is.0), subst (λ o. EditsUnless o seats x e after) (sym is.0) makes),
      )

  pub fault_happens : (f : EditFault) → IsFound found e t (Faulty f) then
      → HappensTied x order (event.Edit e) t seats (Answered (EditRefused f)) then seats
  fault_happens f h =
      let is = subst (λ (z : Checked). IsFound z e t (Faulty f) then) one h in (
        broken_where t x e (Some f) is.0,
        subst (λ (u : Ties). AreAlike u (ties_then (ties_in t) x (event.Edit e))) (ap ties_in (sym is.1))
            (subst (AreAlike (ties_in t)) (sym (then_where t x e (Some f) is.0))
            (record { ports = λ p. refl; uses = λ number. refl; related = λ a b. refl; addresses = λ name. refl; names = λ address. refl })),
        (sym (ap edit_answer is.0), subst (λ o. EditsUnless o seats x e seats) (sym is.0) refl),
      )

  pub tie_happens : (tie : Tie) → IsFound found e t (Tied tie) then
      → HappensTied x order (event.Edit e) t seats (EditTied tie) then seats
  tie_happens tie h =
      let is = subst (λ (z : Checked). IsFound z e t (Tied tie) then) one h in (is.0, is.1, refl)

-- ---- what making it asks
module _ (found : Checked) (e : Edit) (t then : Kept) (seats : List Seat) (f : Found)
    (who : (seat seats 0).who ≡ Configuring found) (h : IsFound found e t f then) where
  pub as_found : (g : Found) → f ≡ g → IsFound found e t g then
  as_found g is = subst (λ o. IsFound found e t o then) is h

  pub made_edited : (y : Checked) → f ≡ Made y → (x : Checked) → (seat seats 0).who ≡ Configuring x
      → y ≡ edits.edited e x
  made_edited y is x at = (as_found (Made y) is).1 ∙ ap (edits.edited e) (same_setup found x (sym who ∙ at))

  pub made_can : (y : Checked) → f ≡ Made y
      → ((x : Checked) → (seat seats 0).who ≡ Configuring x → CanHappen x (event.Edit e) seats)
      → (x : Checked) → (seat seats 0).who ≡ Configuring x → CanMoveIf y.topology (moves e x.topology) seats
  made_can y is can x at =
      subst (λ (z : Checked). CanMoveIf z.topology (moves e x.topology) seats) (sym (made_edited y is x at))
      (can x at (ap (λ (z : Checked). edit_fault z e) (sym (same_setup found x (sym who ∙ at))) ∙ (as_found (Made y) is).0))
