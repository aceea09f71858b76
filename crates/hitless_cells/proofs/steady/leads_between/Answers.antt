use Rattle.hitless_cells.specs.Steady.{leads_on}
use Rattle.policy_rules.proofs.AnyRule.{any_between}
use Rattle.hitless_cells.proofs.steady.leads_between.Goals as goal

pub returns : goal.returns
returns c = let e = any_between (λ r. leads_on r.action) c.args.config.now c.args.own.now c.args.target.now in cc
