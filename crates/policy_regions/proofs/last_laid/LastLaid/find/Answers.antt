use Rattle.std.proofs.Common.{◌≡◌, List, sym, ◌∙◌}
use Rattle.policy_regions.specs.Overlay.{laid_by}
use Rattle.policy_regions.specs.Sameness.{same_claims}
use Rattle.policy_regions.specs.declared.region.Claim.{Claim}
use Rattle.policy_regions.proofs.Same.{claims_are}
use Rattle.policy_regions.proofs.last_laid.LastLaid.find.Goals as goal

pub returns-else-not-are_same-2-clause-compared : goal.returns-else-not-are_same-2-clause-compared
returns-else-not-are_same-2-clause-compared c =
    let first : List Claim = c.self.inside.before.items in
    let second : List Claim = c.self.inside.after.items in
    let one : first ≡ c.args.before.items =
    claims_are first c.args.before.items
    (sym (λ i. same_claims (c.deref.ensures.value i) (c.deref-2.ensures.value i)) ∙ sym c.are_same.ensures ∙ c.if-not-are_same.false) in
    let two : second ≡ c.args.after.items =
    claims_are second c.args.after.items
    (sym (λ i. same_claims (c.deref-3.ensures.value i) (c.deref-4.ensures.value i)) ∙ sym c.are_same-2.ensures ∙ c.if-not-are_same-2.false) in
    sym c.self.view_is ∙ c.self.invariant ∙ (λ i. laid_by (one i) (two i))
