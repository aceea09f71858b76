use Rattle.std.proofs.Common.{◌==◌, ◌∙◌, ap, find, option_map, List}
use Rattle.ov_types.specs.declared.numbers.Label.{Label}
use Rattle.ov_types.specs.declared.rows.Attached.{Attached}
use Rattle.vrouter_fib.proofs.Keys.{lookup_find, same_number}
use Rattle.vrouter_fib.proofs.labels.Labels.find.Goals as goal

pub returns : goal.returns
returns c =
    c.copied.ensures ∙ c.get.ensures.value
    ∙ lookup_find _ (λ (e : Label × Attached). e.0.0 == c.args.label.0) (λ k x. same_number c.args.label.0 k.0) c.self.inside.attached.entries
    ∙ ap (λ (es : List (Label × Attached)). option_map (λ (e : Label × Attached). e.1) (find (λ (e : Label × Attached). e.0.0 == c.args.label.0) es)) c.self.view_is
