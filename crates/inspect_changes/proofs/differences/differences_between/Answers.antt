use Rattle.std.proofs.Common.{◌≡◌, ◌↔◌, List, sym, subst, arith}
use Rattle.std.proofs.lemmas.Grind.{common_steps}
use Rattle.inspect_changes.specs.Fates.{FaresOtherwise, IsOnDifference, IsOnOneDifferenceAtMost, differences_between}
use Rattle.inspect_changes.specs.declared.fate.Difference.{Difference}
use Rattle.inspect_changes.proofs.Differing.{exact, on_one_at_most}
use Rattle.inspect_changes.proofs.differences.differences_between.Goals as goal

pub returns-clause-apart : goal.returns-clause-apart
returns-clause-apart c = λ t h.
    let old = c.args.before.now.config in
    let new = c.args.after.now.config in
    let e : c.from_vec.result ≡ differences_between old c.args.from.now c.args.to.now new c.args.from_after.now c.args.to_after.now = grind (arith, common_steps) in
    subst (λ (list : List Difference). IsOnOneDifferenceAtMost list t) (sym e)
    (on_one_at_most old c.args.from.now c.args.to.now new c.args.from_after.now c.args.to_after.now t h)

pub returns-clause-exact : goal.returns-clause-exact
returns-clause-exact c = λ t was becomes h.
    let old = c.args.before.now.config in
    let new = c.args.after.now.config in
    let e : c.from_vec.result ≡ differences_between old c.args.from.now c.args.to.now new c.args.from_after.now c.args.to_after.now = grind (arith, common_steps) in
    subst (λ (list : List Difference). IsOnDifference list t was becomes ↔ FaresOtherwise old c.args.from.now c.args.to.now new c.args.from_after.now c.args.to_after.now t was becomes) (sym e)
    (exact old c.args.from.now c.args.to.now new c.args.from_after.now c.args.to_after.now t was becomes h)
