-- Which edits are hitless, kind by kind.
use Rattle.std.specs.Prelude.{◌≡◌, ◌≢◌, ℕ, List, IsTrue, None}
use Rattle.std.specs.List.{All}
use Rattle.config_types.specs.Form.{has_edit_form}
use Rattle.config_types.specs.declared.edit.Edit.TheVariants.{Put, Delete}
use Rattle.config_types.specs.declared.edit.Object.{Object}
use Rattle.config_types.specs.declared.edit.ObjectKind.{ObjectKind}
use Rattle.config_check.specs.Checked.{Checked}
use Rattle.config_check.specs.Edits.{edit_fault, edited}
use Rattle.hitless_cells.specs.Keeping.{DeliversAlike, IsHitless, IsValidAsWritten}

-- an accepted put of an object whose name none of its kind has is hitless, and all that was delivered is delivered alike
abbrev pub NewIsHitless : {A : Type 0} → (A → List ℕ) → (A → Object) → (Checked → List A) → Type 0
NewIsHitless {A} name_of object list =
    (x : Checked) (o : A) → IsValidAsWritten x → IsTrue (has_edit_form (Put (object o)))
    → All (λ y. name_of y ≢ name_of o) (list x) → edit_fault x (Put (object o)) ≡ None
    → IsHitless x (edited (Put (object o)) x) × DeliversAlike x (edited (Put (object o)) x)

-- an accepted delete of an object of this kind is hitless, and all that is delivered was delivered alike
abbrev pub DeleteIsHitless : ObjectKind → Type 0
DeleteIsHitless kind =
    (x : Checked) (name : List ℕ) → IsValidAsWritten x → IsTrue (has_edit_form (Delete kind name))
    → edit_fault x (Delete kind name) ≡ None
    → IsHitless x (edited (Delete kind name) x) × DeliversAlike (edited (Delete kind name) x) x
