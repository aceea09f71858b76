-- The lines that tell why a document is refused, and the texts of refused edits.
use Rattle.std.specs.Prelude.{ℕ, List, [], ◌∷◌, ◌++◌, ◌==◌, length, codes, if◌then◌else◌}
use Rattle.config_model.specs.Faults.{Fault}
use Rattle.config_model.specs.declared.fault.DocKind.{DocKind}
use Rattle.config_model.specs.declared.fault.DocKind.TheVariants as Kind
use Rattle.config_check.specs.Texts.{refusal_text}
use Rattle.config_check.specs.declared.edits.EditFault.{EditFault}
use Rattle.config_check.specs.declared.edits.EditFault.TheVariants.{Missing, Rule}
use Rattle.config_check.specs.declared.refusal.Refusal.{Refusal}

abbrev pub kind_text : DocKind → List ℕ
kind_text Kind.Missing = codes "Missing"
kind_text Kind.Kind = codes "Kind"
kind_text Kind.Range = codes "Range"
kind_text Kind.Unknown = codes "Unknown"

-- a fault of a document: the path, where there is one, and the kind
unfoldable pub doc_fault_line : Fault → List ℕ
doc_fault_line f = if length f.path == 0 then codes "bad document " ++ (kind_text f.kind ++ (10 ∷ []))
    else codes "bad document " ++ (f.path ++ (codes " " ++ (kind_text f.kind ++ (10 ∷ []))))

-- a broken rule
unfoldable pub refused_line : Refusal → List ℕ
refused_line r = codes "refused " ++ (refusal_text r ++ (10 ∷ []))

-- why an edit is not made: what is missing, or the rule that would be broken
abbrev pub edit_fault_text : EditFault → List ℕ
edit_fault_text (Missing name) = codes "Missing " ++ name
edit_fault_text (Rule refusal) = refusal_text refusal
