-- Events that are taken one by one.
use Rattle.std.specs.Prelude.{◌≡◌, List, [], ◌∷◌, ◌++◌}
use Rattle.std.proofs.Common.{sym, ap, ◌∙◌}
use Rattle.std.proofs.lemmas.List.{append_assoc}
use Rattle.config_types.specs.declared.event.Event.{Event}

-- what was taken and what is left is all
pub one_by_one : (ys : List Event) (e : Event) (old rest all : List Event) → old ≡ e ∷ rest → ys ++ old ≡ all
    → (ys ++ e ∷ []) ++ rest ≡ all
one_by_one ys e old rest all is whole = append_assoc ys (e ∷ []) rest ∙ ap (λ es. ys ++ es) (sym is) ∙ whole
