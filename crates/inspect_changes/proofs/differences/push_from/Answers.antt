use Rattle.std.proofs.Common.{◌≡◌, List, ◌++◌, flat_map, ◌∙◌, subst, OnOk}
use Rattle.inspect_changes.specs.Unchanged.{Stands, differences_towards}
use Rattle.inspect_changes.specs.declared.fate.Difference.{Difference}
use Rattle.inspect_changes.proofs.differences.push_from.Goals as goal

pub returns : goal.returns
returns c =
    let before = c.args.before.now.config in
    let after = c.args.after.now.config in
    let origin = c.in_ok-origin.ensures ∙ (λ i. (c.config.ensures.part i, c.before-2.ensures i)) in
    let origin_after = c.in_ok-origin_after.ensures ∙ (λ i. (c.config-2.ensures.part i, c.after.ensures i)) in
    subst (λ (each : Stands → List Difference). OnOk c.push_to_each.result (c.push_to_each.new.differences.items ≡ c.args.differences.now.items ++ flat_map each c.args.others.now))
    (λ i to. differences_towards before after (c.is_kept.ensures i) (origin i) (origin_after i) to) c.push_to_each.ensures
