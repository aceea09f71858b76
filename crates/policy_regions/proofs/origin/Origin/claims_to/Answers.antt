use Rattle.std.proofs.Common.{◌≡◌, ◌&&◌, List, filter, map, sym, ap, ◌∙◌, subst, IfOk, Bor}
use Rattle.config_types.specs.declared.config.Config.{Config}
use Rattle.config_types.specs.declared.config.Network.{Network}
use Rattle.config_types.specs.declared.config.Policy.{Policy}
use Rattle.policy_rules.specs.Related.{attaches, by_sequence}
use Rattle.policy_regions.specs.Claims.{claims_between}
use Rattle.policy_regions.specs.declared.region.Claim.{Claim}
use Rattle.policy_regions.proofs.Kept.{all_few, claims_by, shared}
use Rattle.policy_regions.proofs.origin.Origin.claims_to.Goals as goal

pub claims_of-requires : goal.claims_of-requires
claims_of-requires c =
    let config : Config = c.self.inside.config.now in
    let from : Network = c.self.inside.network.now in
    all_few config (λ p. attaches from p && attaches c.args.to.now p) (map (λ p. p.now) c.deref-2.result.now) c.self.invariant.1
    (ap (λ (ps : List (Bor Policy)). map (λ p. p.now) ps) c.deref-2.ensures.value
    ∙ shared config from c.args.to.now (map (λ p. p.now) c.deref.result.now) (map (λ p. p.now) c.in_ok-policies.policies.items)
    (ap (λ (ps : List (Bor Policy)). map (λ p. p.now) ps) c.deref.ensures.value ∙ c.self.invariant.0)
    c.in_ok-policies.ensures)

pub returns : goal.returns
returns c =
    let config : Config = c.self.inside.config.now in
    let from : Network = c.self.inside.network.now in
    let ps : List Policy = map (λ p. p.now) c.deref-2.result.now in
    let are : ps ≡ by_sequence (filter (λ p. attaches from p && attaches c.args.to.now p) config.policies) =
    ap (λ (ps : List (Bor Policy)). map (λ p. p.now) ps) c.deref-2.ensures.value
    ∙ shared config from c.args.to.now (map (λ p. p.now) c.deref.result.now) (map (λ p. p.now) c.in_ok-policies.policies.items)
    (ap (λ (ps : List (Bor Policy)). map (λ p. p.now) ps) c.deref.ensures.value ∙ c.self.invariant.0)
    c.in_ok-policies.ensures in
    subst (λ (claims : List Claim). IfOk c.claims_of.result (λ v. v.items ≡ claims))
    (claims_by config from c.args.to.now ps are ∙ ap (λ (o : Config × Network). claims_between o.0 o.1 c.args.to.now) c.self.view_is)
    c.claims_of.ensures
