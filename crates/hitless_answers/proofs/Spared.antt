-- An edit that replaces nothing interrupts nothing.
use Rattle.std.proofs.Common.{◌≡◌, ◌≢◌, ◌||◌, ℕ, Bool, true, false, IsTrue, List, [], ◌∷◌, None, refl, sym, ◌∙◌}
use Rattle.std.specs.List.{All, list_any}
use Rattle.std.proofs.lemmas.List.Elements.{All-cons}
use Rattle.std.proofs.Common.{arith}
use Rattle.ov_types.specs.First.{same_name}
use Rattle.ov_types.proofs.FirstLemmas.{same_name_iff}
use Rattle.config_types.specs.Form.{has_edit_form}
use Rattle.config_types.specs.declared.edit.Edit.{Edit}
use Rattle.config_types.specs.declared.edit.Edit.TheVariants.{Put, Delete}
use Rattle.config_types.specs.declared.edit.Object.TheVariants as Objects
use Rattle.config_types.specs.declared.edit.ObjectKind.TheVariants as Kinds
use Rattle.config_check.specs.Checked.{Checked}
use Rattle.config_check.specs.Edits.{edit_fault, edited}
use Rattle.hitless_cells.specs.Keeping.{IsHitless, IsValidAsWritten}
use Rattle.hitless_cells.proofs.ByKind.{accepted, delete_chain, delete_network, delete_node, delete_policy, delete_port, delete_service, new_chain, new_network, new_node, new_policy, new_port, new_service}
use Rattle.hitless_cells.specs.Lines.{interruptions}
use Rattle.hitless_cells.proofs.Exactly.{hitless_exactly}
use Rattle.hitless_answers.specs.Sparing.{replaces}

apart_from : (x y : List ℕ) → same_name x y ≡ false → x ≢ y
apart_from x y e same = let never : true ≡ false = sym ((same_name_iff x y).1 same) ∙ e in absurd cc

neither : (a b : Bool) → (a || b) ≡ false → (a ≡ false) × (b ≡ false)
neither true b h = absurd cc
neither false b h = (refl, h)

none_named : {A : Type 0} (name_of : A → List ℕ) (xs : List A) (name : List ℕ) → list_any (λ x. same_name (name_of x) name) xs ≡ false → All (λ x. name_of x ≢ name) xs
none_named name_of [] name h = λ i d lt. absurd (omega arith)
none_named name_of (x ∷ xs) name h =
    let parts = neither (same_name (name_of x) name) (list_any (λ x. same_name (name_of x) name) xs) h in
    All-cons (λ x. name_of x ≢ name) x xs (apart_from (name_of x) name parts.0) (none_named name_of xs name parts.1)

hitless_by : (e : Edit) (x : Checked) → IsValidAsWritten x → IsTrue (has_edit_form e) → edit_fault x e ≡ None → replaces e x ≡ false → IsHitless x (edited e x)
hitless_by (Put (Objects.Network o)) x v form h new = (new_network x o v form (none_named (λ n. n.name) x.config.networks o.name new) h).0
hitless_by (Put (Objects.Port o)) x v form h new = (new_port x o v form (none_named (λ n. n.name) x.config.ports o.name new) h).0
hitless_by (Put (Objects.Policy o)) x v form h new = (new_policy x o v form (none_named (λ n. n.name) x.config.policies o.name new) h).0
hitless_by (Put (Objects.Service o)) x v form h new = (new_service x o v form (none_named (λ n. n.name) x.config.services o.name new) h).0
hitless_by (Put (Objects.Chain o)) x v form h new = (new_chain x o v form (none_named (λ n. n.name) x.config.chains o.name new) h).0
hitless_by (Put (Objects.Node o)) x v form h new = (new_node x o v form (none_named (λ n. n.name) x.topology.nodes o.name new) h).0
hitless_by (Delete Kinds.Network name) x v form h new = (delete_network x name v form h).0
hitless_by (Delete Kinds.Port name) x v form h new = (delete_port x name v form h).0
hitless_by (Delete Kinds.Policy name) x v form h new = (delete_policy x name v form h).0
hitless_by (Delete Kinds.Service name) x v form h new = (delete_service x name v form h).0
hitless_by (Delete Kinds.Chain name) x v form h new = (delete_chain x name v form h).0
hitless_by (Delete Kinds.Node name) x v form h new = (delete_node x name v form h).0

-- an edit that replaces no object has no line
pub nothing_interrupted : (e : Edit) (x : Checked) → IsValidAsWritten x → IsTrue (has_edit_form e) → edit_fault x e ≡ None → replaces e x ≡ false → interruptions x (edited e x) ≡ []
nothing_interrupted e x v form h new = (hitless_exactly x (edited e x) v (accepted e x v form h)).1 (hitless_by e x v form h new)
