use Rattle.policy_rules.specs.Wanted.{is_wanted}
use Rattle.policy_rules.proofs.AnyRule.{any_between}
use Rattle.policy_rules.proofs.between.some_rule_between.Goals as goal

pub returns : goal.returns
returns c = let e = any_between (λ r. is_wanted c.args.wanted r.action) c.args.config.now c.args.a.now c.args.b.now in cc
