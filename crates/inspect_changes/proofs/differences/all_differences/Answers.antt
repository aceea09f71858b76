use Rattle.std.proofs.Common.{List, ◌++◌, flat_map, ap, ◌∙◌}
use Rattle.inspect_changes.specs.Unchanged.{Stands, differences_unless}
use Rattle.inspect_changes.specs.declared.fate.Difference.{Difference}
use Rattle.inspect_changes.proofs.KeptPairs.{all_standing}
use Rattle.inspect_changes.proofs.differences.all_differences.Goals as goal

pub returns : goal.returns
returns c =
    let before = c.args.before.now.config in
    let after = c.args.after.now.config in
    let both : List Stands = c.deref.result.now in
    c.in_ok-push_all.ensures
    ∙ ap (λ (items : List Difference). items ++ flat_map (λ s. flat_map (differences_unless before after s) both) both) c.new-differences.ensures.items
    ∙ ap (λ (networks : List Stands). flat_map (λ s. flat_map (differences_unless before after s) networks) networks) (c.deref.ensures.value ∙ c.in_ok-networks.ensures)
    ∙ all_standing before after
