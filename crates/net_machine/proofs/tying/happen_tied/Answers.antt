use Rattle.std.proofs.Common.{IsTrue, ◌≡◌, List, refl, subst, sym}
use Rattle.std.specs.List.{All}
use Rattle.config_types.specs.declared.edit.Edit.{Edit as Change}
use Rattle.config_types.specs.declared.event.Event.{Event}
use Rattle.config_types.specs.declared.event.Event.TheVariants as event
use Rattle.config_types.specs.Form.{has_event_form}
use Rattle.net_machine.specs.Happenings.{IsNotEdit}
use Rattle.net_machine.specs.Moving.{CanHappen}
use Rattle.net_machine.specs.Seating.{AreSeated}
use Rattle.net_machine.specs.declared.ends.SessionEnds.{SessionEnds}
use Rattle.net_machine.proofs.Forms.{edit_form}
use Rattle.net_machine.proofs.tying.happen_tied.Goals as goal

not_edit : (e : Event) → ((d : Change) → e ≡ event.Edit d → ⊥) → IsNotEdit e
not_edit (event.Edit d) other = other d refl
not_edit _ other = tt

pub edited-requires-clause-form : goal.edited-requires-clause-form
edited-requires-clause-form c =
    edit_form c.in-Edit.edit (subst (λ (e : Event). IsTrue (has_event_form e)) c.in-Edit.is c.requires.form)

pub edited-requires-clause-can : goal.edited-requires-clause-can
edited-requires-clause-can c = λ x is.
    subst (λ (e : Event). CanHappen x e c.args.nodes.now.seats) c.in-Edit.is (c.requires.can x is)

pub happen-requires : goal.happen-requires
happen-requires c = record {
  form = c.requires.form;
  long = c.requires.long;
  seated = subst (λ (order : List SessionEnds). All (AreSeated c.args.nodes.now.seats) order)
      (sym c.as_slice.ensures.value) c.requires.seated;
  works = c.requires.works;
  not_edit = not_edit _ c.in_default.not-Edit;
}
