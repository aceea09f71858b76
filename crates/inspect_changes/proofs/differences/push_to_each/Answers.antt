use Rattle.std.proofs.Common.{◌+◌, List, ◌++◌, drop, flat_map, append_assoc, sym, ap, ◌∙◌}
use Rattle.ov_types.proofs.FirstLemmas.{next_is}
use Rattle.inspect_changes.specs.Unchanged.{Stands, differences_towards}
use Rattle.inspect_changes.specs.declared.fate.Difference.{Difference}
use Rattle.inspect_changes.proofs.differences.push_to_each.Goals as goal

pub loop-to-preserved : goal.loop-to-preserved
loop-to-preserved c =
    let from = c.args.from.now in
    let each : Stands → List Difference = differences_towards c.args.before.now.config c.args.after.now.config from.is_kept from.before from.after in
    let i = c.loop-to.to-index in
    let others : List Stands = c.args.others.now in
    let so_far : List Difference = c.loop-to.differences.items in
    let rest : List Difference = flat_map each (drop (i + 1) others) in
    ap (λ (items : List Difference). items ++ rest) c.in_ok-push_to.ensures
    ∙ append_assoc so_far (each c.to-item.result) rest
    ∙ ap (λ (left : List Stands). so_far ++ flat_map each left) (sym (next_is others i c.to-item.result c.loop-to-test.true c.to-item.is))
    ∙ c.loop-to.invariant
