use Rattle.std.proofs.Common.{◌||◌, ◌+◌, Bool, take, drop, ap, ◌∙◌}
use Rattle.inspect_rules.specs.Deciders.{claims_decide, has_rule}
use Rattle.inspect_rules.proofs.Claimants.{claims_on}
use Rattle.inspect_rules.proofs.deciders.put_deciders.Goals as goal

pub loop-index-preserved : goal.loop-index-preserved
loop-index-preserved c = λ n.
    let claims = c.args.claims.now in
    let i = c.loop-index.index in
    ap (λ (b : Bool). claims_decide n (take (i + 1) claims) (drop (i + 1) claims) || b) (c.in_ok-put_decider.ensures n)
    ∙ claims_on n claims i c.index-claims-index.result (has_rule c.loop-index.deciders n) c.loop-index-test.true c.index-claims-index.is
    ∙ c.loop-index.invariant n
