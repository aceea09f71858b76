use Rattle.std.proofs.Common.{rules, ap}
use Rattle.config_check.specs.Rules.{missing_in_service}
use Rattle.config_check.proofs.references.missing_in_services.Goals as goal

pub returns : goal.returns
returns c = c.first_of.ensures (missing_in_service c.args.nodes.now) (λ x r h. search (rules, h.says.met, h.shows, ap))
