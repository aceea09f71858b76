use Rattle.std.proofs.Common.{◌≡◌, ◌||◌, Bool, false, [], OnOk, sym, ap, ◌∙◌, subst}
use Rattle.ov_types.specs.First.{same_name}
use Rattle.ov_types.specs.declared.packet.RuleNo.{RuleNo}
use Rattle.policy_regions.specs.Claims.{claims_between}
use Rattle.inspect_rules.specs.Deciders.{claims_decide, decides_between, has_rule}
use Rattle.inspect_rules.proofs.Claimants.{between}
use Rattle.inspect_rules.proofs.deciders.put_deciders_between.Goals as goal

pub returns : goal.returns
returns c =
    let from = c.args.from.now in
    let to = c.args.to.now in
    let apart : same_name from.1.name to.name ≡ false =
    (λ i. same_name (sym c.network.ensures i).name to.name) ∙ sym c.eq.ensures ∙ c.if-eq.false in
    let claims : c.deref.result.now ≡ claims_between from.0 from.1 to = c.deref.ensures.value ∙ c.in_ok-claims.ensures in
    let alike : (n : RuleNo) → claims_decide n [] c.deref.result.now ≡ decides_between from.0 n from.1 to =
    λ n. ap (claims_decide n []) claims ∙ between from.0 n from.1 to apart in
    subst (λ (f : RuleNo → Bool). OnOk c.put_deciders.result ((n : RuleNo) → has_rule c.put_deciders.new.deciders n ≡ (f n || has_rule c.args.deciders.now n)))
    (λ i n. alike n i) c.put_deciders.ensures
