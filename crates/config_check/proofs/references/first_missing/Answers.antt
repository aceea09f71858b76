use Rattle.std.proofs.Common.{rules, ap}
use Rattle.config_check.specs.Rules.{missing}
use Rattle.config_check.proofs.references.first_missing.Goals as goal

pub returns : goal.returns
returns c = c.first_of.ensures (missing c.args.names.now) (λ x r h. search (rules, h.says.met, h.shows, ap))
