use Rattle.std.proofs.Common.{◌≡◌, ◌∷◌, [], List, ap, sym, ◌∙◌}
use Rattle.policy_regions.specs.Carved.{carve}
use Rattle.policy_regions.specs.Joining.{joined}
use Rattle.policy_regions.specs.Regions.{everything}
use Rattle.policy_regions.specs.Sameness.{same_claims}
use Rattle.policy_regions.specs.declared.region.Claim.{Claim}
use Rattle.policy_regions.proofs.Same.{claims_are}
use Rattle.policy_regions.proofs.last_found.LastFound.find_by.Goals as goal

pub returns-else-not-are_same-clause-regions : goal.returns-else-not-are_same-clause-regions
returns-else-not-are_same-clause-regions c =
    let known : List Claim = c.self.inside.claims.items in
    let claims : List Claim = c.args.claims.items in
    let same : known ≡ claims =
    claims_are known claims
    (sym (λ i. same_claims (c.deref.ensures.value i) (c.deref-2.ensures.value i)) ∙ sym c.are_same.ensures ∙ c.if-not-are_same.false) in
    sym c.self.view_is ∙ c.self.invariant ∙ ap (λ (cs : List Claim). joined (carve cs (everything ∷ []))) same
