use Rattle.std.proofs.Common.{◌≡◌, true, List, ◌++◌, sym, ap, ◌∙◌}
use Rattle.std.proofs.lemmas.List.{append-nil}
use Rattle.inspect_changes.specs.Unchanged.{stay}
use Rattle.inspect_changes.specs.declared.fate.Difference.{Difference}
use Rattle.inspect_changes.proofs.Unchanged.{nothing_new}
use Rattle.inspect_changes.proofs.differences.push_by_claims.Goals as goal

-- where claims stay, nothing is appended
pub returns-then-stay : goal.returns-then-stay
returns-then-stay c =
    let list : List Difference = c.args.differences.now.items in
    let same : stay c.args.before.now.config c.args.after.now.config c.args.claims.items c.args.claims_after.items ≡ true =
    (λ i. stay c.args.before.now.config c.args.after.now.config (sym c.deref.ensures.value i) (sym c.deref-2.ensures.value i)) ∙ sym c.stay.ensures ∙ c.if-stay.true in
    let none = nothing_new c.args.before.now.config c.args.from.now c.args.to.now c.args.after.now.config c.args.claims.items c.args.claims_after.items same in
    sym (ap (λ (xs : List Difference). list ++ xs) none ∙ append-nil list)
