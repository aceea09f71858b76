-- What is said of edits is so.
use Rattle.std.proofs.Common.{◌≡◌, ◌<◌, ◌^◌, ◌+◌, ℕ, IsTrue, List, [], ◌∷◌, length, get_or, Option, Some, None, true, refl}
use Rattle.std.specs.List.{All, Contains, list_all}
use Rattle.std.proofs.lemmas.Bool.{and_parts}
use Rattle.std.proofs.lemmas.List.Elements.{All-contains_itself, All-weaker}
use Rattle.config_types.specs.Form.{has_edit_form}
use Rattle.config_types.specs.declared.edit.Edit.{Edit}
use Rattle.config_check.specs.Checked.{Checked}
use Rattle.config_check.specs.Edits.{edited}
use Rattle.schedule_script.specs.declared.edits.TiedFault.{TiedFault}
use Rattle.hitless_cells.specs.Keeping.{IsValidAsWritten}
use Rattle.hitless_cells.proofs.ByKind.{accepted}
use Rattle.hitless_cells.specs.Interrupted.{IsInterrupted}
use Rattle.hitless_cells.specs.Lines.{interruptions}
use Rattle.hitless_cells.proofs.Exactly.{each_has_its_line, each_is_interrupted, hitless_exactly}
use Rattle.hitless_answers.specs.Judging.{Standing, fault_in, judged_by, judgements, standing_by, standing_first, standing_next}
use Rattle.hitless_answers.proofs.Standing.{unfaulty}
use Rattle.hitless_cells.specs.declared.lines.Interruption.{Interruption}
use Rattle.hitless_answers.specs.Promise.{AllReadSo, AreSaidOf, IsMade, IsSaidOf, ReadsSo}
use Rattle.hitless_answers.proofs.EditsBack.{count_reads, packet_reads, refused_reads}

module _ (e : Edit) (s : Standing) (form : IsTrue (has_edit_form e)) (v : IsValidAsWritten s.checked) where
  made_valid : fault_in e s ≡ None → IsValidAsWritten (edited e s.checked)
  made_valid h = accepted e s.checked v form (unfaulty s.checked s.ties e h)

  is_made : fault_in e s ≡ None → IsMade s e (interruptions s.checked (edited e s.checked))
  is_made h =
      let x = s.checked in
      let y = edited e s.checked in
      let w = made_valid h in
      record {
        accepted = h;
        valid = w;
        hitless = hitless_exactly x y v w;
        interrupted = All-weaker (Contains (interruptions x y)) (IsInterrupted x y) (λ l at. each_is_interrupted x y v w l at) (interruptions x y) (All-contains_itself (interruptions x y));
        each = each_has_its_line x y v w;
      }

  said : (o : Option TiedFault) → fault_in e s ≡ o → IsSaidOf s e (judged_by e o s)
  said None h = is_made h
  said (Some fault) h = h

  reads : (n : ℕ) (o : Option TiedFault) → fault_in e s ≡ o → n < 2 ^ 64 → ReadsSo (standing_by e o s).checked.config n (judged_by e o s)
  reads n None h few =
      let lines : List Interruption = interruptions s.checked (edited e s.checked) in
      record {
        count = λ short. count_reads n (length lines) few short;
        each = λ k d lt sized. packet_reads (edited e s.checked).config n (get_or lines k d) (made_valid h).form few sized;
      }
  reads n (Some fault) h few = λ utf8. refused_reads n fault few utf8

  next_valid : (o : Option TiedFault) → fault_in e s ≡ o → IsValidAsWritten (standing_by e o s).checked
  next_valid None h = made_valid h
  next_valid (Some fault) h = v

all_said : (edits : List Edit) (s : Standing) → list_all has_edit_form edits ≡ true → IsValidAsWritten s.checked → AreSaidOf s edits (judgements edits s)
all_said [] s form v = tt
all_said (e ∷ es) s form v =
    let parts = and_parts (has_edit_form e) (list_all has_edit_form es) form in
    (said e s parts.0 v (fault_in e s) refl, all_said es (standing_next e s) parts.1 (next_valid e s parts.0 v (fault_in e s) refl))

pub edits_are_said : (x : Checked) (edits : List Edit) → IsValidAsWritten x → IsTrue (list_all has_edit_form edits) → AreSaidOf (standing_first x) edits (judgements edits (standing_first x))
edits_are_said x edits v form = all_said edits (standing_first x) form v

all_read : (n : ℕ) (edits : List Edit) (s : Standing) → list_all has_edit_form edits ≡ true → IsValidAsWritten s.checked
    → AllReadSo n edits s (judgements edits s)
all_read n [] s form v = tt
all_read n (e ∷ es) s form v =
    let parts = and_parts (has_edit_form e) (list_all has_edit_form es) form in (
      λ few. reads e s parts.0 v n (fault_in e s) refl few,
      all_read (n + 1) es (standing_next e s) parts.1 (next_valid e s parts.0 v (fault_in e s) refl),
    )

pub edits_are_read : (x : Checked) (edits : List Edit) → IsValidAsWritten x → IsTrue (list_all has_edit_form edits)
    → AllReadSo 1 edits (standing_first x) (judgements edits (standing_first x))
edits_are_read x edits v form = all_read 1 edits (standing_first x) form v
