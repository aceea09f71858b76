-- The lines of edits, one after the other.
use Rattle.std.proofs.Common.{◌≡◌, ◌∙◌, ℕ, ◌+◌, List, ◌∷◌, ◌++◌, ap, sym}
use Rattle.config_types.specs.declared.config.Config.{Config}
use Rattle.config_types.specs.declared.edit.Edit.{Edit}
use Rattle.inspect_json.specs.declared.form.Form.{Form}
use Rattle.inspect_json.specs.declared.form.Form.TheVariants.{Text, Json}
use Rattle.hitless_answers.specs.FormLines.{json_from, judgement_in, judgement_json, lines_in}
use Rattle.hitless_answers.specs.Judging.{Standing, judged, judgements, standing_next}
use Rattle.hitless_answers.specs.Lines.{judgement_text, lines_from}
use Rattle.hitless_answers.specs.declared.judging.Judgement.{Judgement}

-- the lines of some edits are those of the first and those of the others
pub first_lines : (n : ℕ) (es more : List Edit) (e : Edit) (s t : Standing) (j : Judgement) → es ≡ e ∷ more → j ≡ judged s e → t ≡ standing_next e s
    → lines_from n (judgements es s) ≡ judgement_text n j ++ lines_from (n + 1) (judgements more t)
first_lines n es more e s t j split judges next =
    ap (λ (ys : List Edit). lines_from n (judgements ys s)) split
    ∙ (λ k. judgement_text n (sym judges k) ++ lines_from (n + 1) (judgements more (sym next k)))

-- the same in each form, with the configuration that the first edit made
pub first_in : (form : Form) (n : ℕ) (es more : List Edit) (e : Edit) (s t : Standing) (c : Config) (j : Judgement) → es ≡ e ∷ more
    → j ≡ judged s e → t ≡ standing_next e s → c ≡ t.checked.config
    → lines_in form n es s (judgements es s) ≡ judgement_in form c n j ++ lines_in form (n + 1) more t (judgements more t)
first_in Text n es more e s t c j split judges next stands = first_lines n es more e s t j split judges next
first_in Json n es more e s t c j split judges next stands =
    ap (λ (ys : List Edit). json_from n ys s (judgements ys s)) split
    ∙ (λ k. judgement_json (sym next k).checked.config n (sym judges k) ++ json_from (n + 1) more (sym next k) (judgements more (sym next k)))
    ∙ ap (λ (d : Config). judgement_json d n j ++ json_from (n + 1) more t (judgements more t)) (sym stands)
